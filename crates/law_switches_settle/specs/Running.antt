-- The run of a layout's image under switches that settle late.
use Rattle.std.specs.Prelude.{◌≡◌, ◌≤◌, ◌<◌, ℕ, true, List, length, Some}
use Rattle.law_agreement.specs.Agreement.{IsPrompt, switched_on}
use Rattle.law_agreement.specs.AnyStart.{AreFor, ShowsFew}
use Rattle.law_agreement.specs.Memory.{Holds}
use Rattle.board_terms.specs.Edges.{of_place}
use Rattle.board_terms.specs.declared.event.Edge.{Edge}
use Rattle.board_terms.specs.declared.event.HostEvent.{HostEvent}
use Rattle.fw_compile.specs.Image.{image_of}
use Rattle.fw_kernel.specs.declared.labels.TheConstants.{TICK}
use Rattle.joint_run.specs.Joint.{Beside, joint_board, log_of}
use Rattle.joint_run.specs.Run.{World, run_at}
use Rattle.joint_run.specs.Starts.{IsStart}
use Rattle.law_keys_bounce.specs.Bounces.{moving}
use Rattle.law_keys_settle.specs.Settling.{AreLater, AreSwitches, undebounced}
use Rattle.layout_reader.specs.Layouts.{KeyLayout, IsKeyLayout}
use Rattle.model_link.specs.Expected.{whole_at}
use Rattle.model_link.specs.Machine.{keyboard}
use Rattle.mcs48_core.specs.Cpu.{Cpu}
use Rattle.mcs48_ranges.specs.Sizes.{IsFine}

-- the run from a state under the contacts is never stuck, and its ticks start in time. At each start data memory shows the
-- keyboard of the model without a debounce, and what was said is what that model says, under keys that don't bounce: each
-- key has the edges that it has in truth, each a little later
pub record RunsClean (layout : KeyLayout) (keys contacts : List Edge) (host : List HostEvent) (from : World Beside) : Type 0 where
  pub goes_on : (k : ℕ) → (w : World Beside) × (run_at (joint_board contacts host) (image_of layout) from k ≡ Some w)
  pub starts : ℕ → ℕ
  pub each : (n : ℕ) → IsStart (joint_board contacts host) TICK (image_of layout) from n (starts n)
  pub prompt : (n : ℕ) → IsPrompt n (starts n)
  pub seen : List Edge
  pub later : (place : ℕ) → place < 96 → AreLater (of_place place keys) (of_place place seen)
  pub holds : (n stamp : ℕ) (s : IsStart (joint_board contacts host) TICK (image_of layout) from n stamp)
      → Holds s.state (whole_at (keyboard (undebounced layout)) seen host starts n).keys
  pub log : (n stamp : ℕ) (s : IsStart (joint_board contacts host) TICK (image_of layout) from n stamp)
      → log_of s.state.board ≡ (whole_at (keyboard (undebounced layout)) seen host starts n).side.log

-- so it is of each layout with a debounce, whatever the host does and whatever the part held when it was switched on, if the
-- contacts settle and each tick shows few
abbrev pub SwitchesRunClean : Type 0
SwitchesRunClean =
    (layout : KeyLayout) (keys contacts : List Edge) (host : List HostEvent) → IsKeyLayout layout → layout.debounce ≡ true
    → AreFor layout contacts host → AreSwitches keys contacts → ((n : ℕ) → ShowsFew contacts n) → (m : Cpu) → IsFine m
    → RunsClean layout keys contacts host (switched_on contacts host m)

-- and so it is if in each window of 2,225 cycles at most four places have edges, however many each has
abbrev pub BouncesRunClean : Type 0
BouncesRunClean =
    (layout : KeyLayout) (keys contacts : List Edge) (host : List HostEvent) → IsKeyLayout layout → layout.debounce ≡ true
    → AreFor layout contacts host → AreSwitches keys contacts → ((from : ℕ) → length (moving contacts from) ≤ 4)
    → (m : Cpu) → IsFine m → RunsClean layout keys contacts host (switched_on contacts host m)
