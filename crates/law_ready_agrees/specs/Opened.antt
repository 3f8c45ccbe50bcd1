-- A keyboard that was opened and run until it is ready, against the model: AA was put out, and nothing else waits.
use Rattle.std.specs.Prelude.{◌≡◌, ◌≤◌, ◌<◌, ℕ, ◌+◌, true, List, [], ◌∷◌}
use Rattle.std.specs.List.{flat_map}
use Rattle.law_agreement.specs.Memory.{Holds}
use Rattle.board_terms.specs.declared.event.HostAct.TheVariants.{Mask}
use Rattle.model_controller.specs.declared.meeting.Meeting.TheVariants.{Sent}
use Rattle.fw_compile.specs.Image.{image_of}
use Rattle.fw_kernel.specs.declared.labels.TheConstants.{TICK}
use Rattle.host_turn.specs.declared.stamped.Stamped.{Stamped}
use Rattle.joint_run.specs.Filled.{filled}
use Rattle.joint_run.specs.Joint.{joint_board, joint_start_of, log_of}
use Rattle.joint_run.specs.Starts.{IsStart}
use Rattle.model_keyboard.specs.Once.{waiting}
use Rattle.key_file.specs.Histories.{KeyHistory}
use Rattle.layout_reader.specs.Layouts.{IsKeyLayout, KeyLayout}
use Rattle.law_live_agrees.specs.Opened.{IsMasked}
use Rattle.live_board.specs.Answers.{raises}
use Rattle.live_board.specs.Ready.{IsReady}
use Rattle.live_board.specs.Running.{nothing_met}
use Rattle.live_board.specs.declared.parts.Parts.{Parts as Keyboard}
use Rattle.live_board.specs.declared.ran.RunEnd.TheVariants.{Met}
use Rattle.law_quiet_log.specs.Once.{at_tick, meeting_at}
use Rattle.law_quiet_log.specs.Ports.{port_of}

-- no key has moved, and all that the host did was to mask INT 09h at this stamp
abbrev pub masked_history : ℕ → KeyHistory
masked_history stamp = record { edges = []; host = record { stamp = stamp; act = Mask } ∷ []; end = 0 }

-- such a run of a layout's image from cleared memory has tick start n at this stamp
abbrev pub StartsAt : KeyLayout → ℕ → ℕ → ℕ → Type 0
StartsAt layout stamp n start =
    IsStart (joint_board [] (masked_history stamp).host) TICK (image_of layout) (joint_start_of (filled 0)) n start

-- the bytes that INT 09h has read
abbrev pub bytes_read : List Stamped → List ℕ
bytes_read log = flat_map (λ (s : Stamped). port_of s.item) log

-- the interrupt line of the keyboard is up, AA is in the output buffer, and INT 09h has read nothing. It is in tick 64 of the
-- run, in which the model sends AA, the one byte that waits there. At the next tick start data memory shows the model's
-- keyboard, and nothing waits in it
pub record HasPutOut (layout : KeyLayout) (k : Keyboard) : Type 0 where
  pub masked : IsMasked layout 0 k
  pub line : raises k.joint.outside.desk.port.core ≡ true
  pub output : k.joint.outside.desk.port.core.output ≡ 0xaa
  pub unread : bytes_read (log_of masked.has_past.world.board) ≡ []
  pub starts : ℕ → ℕ
  pub each : (n : ℕ) → StartsAt layout masked.stamp n (starts n)
  pub begun : 4096 + starts 64 < k.joint.cycle
  pub still : k.joint.cycle ≤ 4096 + starts 65
  pub waits : waiting (at_tick layout (masked_history masked.stamp) starts 64).keys.keyboard ≡ 0xaa ∷ []
  pub sends : meeting_at layout (masked_history masked.stamp) starts 64 ≡ Sent 0xaa
  pub empty : waiting (at_tick layout (masked_history masked.stamp) starts 65).keys.keyboard ≡ []
  pub holds : (start : ℕ) (s : StartsAt layout masked.stamp 65 start)
      → Holds s.state (at_tick layout (masked_history masked.stamp) starts 65).keys

-- so is each keyboard that was opened with a layout's image and run until it is ready; and it was the line's rise that
-- ended that run
abbrev pub ReadyHasPutOut : Type 0
ReadyHasPutOut =
    (layout : KeyLayout) (k : Keyboard) → IsKeyLayout layout → (r : IsReady (image_of layout) k)
    → (r.end ≡ Met (record nothing_met { rise = true })) × HasPutOut layout k
