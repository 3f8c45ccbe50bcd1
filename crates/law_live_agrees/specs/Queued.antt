-- A keyboard whose keys come out of a queue, against the model.
use Rattle.std.specs.Prelude.{◌≡◌, ◌<◌, ◌-◌, ℕ, Bool, not, ◌==◌, List, [], slice_index, All, None, Some}
use Rattle.std.specs.declared.option.Option.{Option}
use Rattle.board_terms.specs.Flips.{AreFlips}
use Rattle.board_terms.specs.declared.event.Edge.{Edge}
use Rattle.edge_queue.specs.Calls.{Call, ArePlaced, after, handed}
use Rattle.edge_queue.specs.Queue.{Queue, after_taken, all_released, empty, pushed, taken}
use Rattle.edge_queue.specs.declared.queue.Pushed.{Pushed}
use Rattle.fw_compile.specs.Image.{image_of}
use Rattle.fw_kernel.specs.Tables.{debounce_at}
use Rattle.joint_run.specs.Joint.{log_of}
use Rattle.key_file.specs.Accepted.{AreHostEventsInOrder, AreWritten, IsPlaceOf}
use Rattle.layout_reader.specs.Layouts.{IsKeyLayout, KeyLayout}
use Rattle.mcs48_ranges.specs.Sizes.{IsFine}
use Rattle.law_live_agrees.specs.Law.{BeginsExpected}
use Rattle.live_board.specs.Calls.{pressed_now}
use Rattle.live_board.specs.Pasts.{Past}
use Rattle.live_board.specs.States.{HasPast}
use Rattle.live_board.specs.declared.parts.Parts.{Parts as Keyboard}

-- these edges are those that calls of a queue have handed over to a keyboard with a debounce or without, and this is the
-- queue after the calls
pub record AreFrom (debounce : Bool) (edges : List Edge) (q : Queue) : Type 0 where
  pub calls : List Call
  pub placed : ArePlaced calls
  pub handed_out : edges ≡ handed debounce calls empty
  pub left : q ≡ after debounce calls empty

-- what a queue hands over to a keyboard at this moment: nothing, or an edge of the matrix, which the past gets with the
-- stamp of this moment. What the past has then is from the queue that is left
abbrev pub HandsOn : Bool → Past → Keyboard → Queue → Option Pushed → Type 0
HandsOn debounce p k q None = AreFrom debounce p.edges (after_taken debounce (k.joint.cycle - 4096) q)
HandsOn debounce p k q (Some e) =
    (e.place < 96)
    × AreFrom debounce (pressed_now p k e.place e.down).edges (after_taken debounce (k.joint.cycle - 4096) q)

-- the edges of a past are from a queue: at first, when there are none; if an edge is pushed; if all keys are released; and
-- if the edge that is due is handed over
pub record StaysFrom (debounce : Bool) : Type 0 where
  pub at_first : AreFrom debounce [] empty
  pub pushes : (edges : List Edge) (q : Queue) (e : Pushed) → e.place < 96 → AreFrom debounce edges q
      → AreFrom debounce edges (pushed e q)
  pub releases : (edges : List Edge) (q : Queue) (stamp : ℕ) → AreFrom debounce edges q
      → AreFrom debounce edges (all_released stamp q)
  pub hands_over : (p : Past) (k : Keyboard) (q : Queue) → AreFrom debounce p.edges q
      → HandsOn debounce p k q (taken (k.joint.cycle - 4096) q)

abbrev pub StaysQueued : Type 0
StaysQueued = (debounce : Bool) → StaysFrom debounce

-- whether a layout has a debounce is at 3F2 (hexadecimal) of its image
abbrev pub ImageSaysDebounce : Type 0
ImageSaysDebounce =
    (layout : KeyLayout) (p : Past) (k : Keyboard) → HasPast p k → p.bytes ≡ image_of layout
    → not (slice_index k.joint.image.bytes debounce_at == 0) ≡ layout.debounce

-- so what was said is the beginning of what the model says, if all keys came out of a queue, whatever was pushed into it
-- and whenever, if the keys are the layout's, and the host's events are in order, write bytes, and turn round data bits
-- or the parity alone
abbrev pub QueuedLogsAgree : Type 0
QueuedLogsAgree =
    (debounce : Bool) (layout : KeyLayout) (p : Past) (q : Queue) (k : Keyboard) (s : HasPast p k) → IsKeyLayout layout
    → p.bytes ≡ image_of layout → IsFine p.held → AreFrom debounce p.edges q → All (λ e. IsPlaceOf layout e.place) p.edges
    → AreHostEventsInOrder p.events → AreWritten p.events → AreFlips p.events
    → BeginsExpected layout p (log_of s.world.board)
