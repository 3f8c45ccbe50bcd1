-- What is so of the key file of what was typed, and why there is none.
use Rattle.std.specs.Prelude.{◌≡◌, ◌≤◌, ℕ, Bool, List, length, Ok, Option, Some}
use Rattle.board_terms.specs.declared.event.Edge.{Edge}
use Rattle.edge_queue.specs.Calls.{Call, ArePlaced, handed}
use Rattle.edge_queue.specs.Laws.{AreSpaced}
use Rattle.edge_queue.specs.Queue.{empty}
use Rattle.key_file.specs.Accepted.{IsAcceptedFor}
use Rattle.key_file.specs.Histories.{KeyHistory}
use Rattle.key_file.specs.KeyFile.{history_of}
use Rattle.layout_reader.specs.Layouts.{KeyLayout}
use Rattle.capture_vcd.specs.declared.fault.VcdFault.{VcdFault}
use Rattle.capture_keys.specs.declared.fault.CaptureFault.{CaptureFault}
use Rattle.capture_keys.specs.declared.fault.CaptureFault.TheVariants.{Dump, Memory}

-- a queue of edges hands these over, whatever was pushed into it
pub record AreHanded (debounce : Bool) (edges : List Edge) : Type 0 where
  pub calls : List Call
  pub placed : ArePlaced calls
  pub handed_over : edges ≡ handed debounce calls empty

-- a text is short enough to be read as a key file, and is read as a history; that is accepted for the layout; its edges
-- have the time that the keyboard needs; and a queue of edges hands them over
pub record Plays (layout : KeyLayout) (history : KeyHistory) (text : List ℕ) : Type 0 where
  pub within : length text ≤ 4194304
  pub read : history_of layout text ≡ Ok history
  pub accepted : IsAcceptedFor layout history
  pub spaced : AreSpaced layout.debounce 0 history.edges
  pub queued : AreHanded layout.debounce history.edges

-- the fault of a dump, or want of memory
abbrev pub IsFaultOf : Option VcdFault → CaptureFault → Type 0
IsFaultOf found (Dump fault) = found ≡ Some fault
IsFaultOf found Memory = Unit {0}
