-- What data memory holds in the joint run: at each tick start the model's keyboard.
use Rattle.std.specs.Prelude.{◌≡◌, ℕ, List}
use Rattle.board_terms.specs.declared.event.Edge.{Edge}
use Rattle.board_terms.specs.declared.event.HostEvent.{HostEvent}
use Rattle.fw_compile.specs.Image.{image_of}
use Rattle.fw_kernel.specs.declared.labels.TheConstants.{TICK}
use Rattle.law_fw_keys.specs.Frameless.{shown_by, layers_by}
use Rattle.joint_run.specs.Joint.{Beside, joint_board}
use Rattle.joint_run.specs.Run.{World}
use Rattle.joint_run.specs.Starts.{IsStart}
use Rattle.key_file.specs.Accepted.{IsLawfulFor}
use Rattle.key_file.specs.Histories.{KeyHistory}
use Rattle.layout_reader.specs.Layouts.{KeyLayout, IsKeyLayout}
use Rattle.model_link.specs.Expected.{whole_at}
use Rattle.model_link.specs.Machine.{KeyboardMachine, LayeredKeyboard, keyboard}
use Rattle.mcs48_core.specs.Cpu.{Cpu}
use Rattle.mcs48_ranges.specs.Sizes.{IsFine}
use Rattle.law_agreement.specs.Agreement.{switched_on}

-- data memory shows this keyboard, and its layers
abbrev pub Holds : World Beside → LayeredKeyboard → Type 0
Holds w k = (shown_by w.cpu.ram ≡ k.keyboard) × (layers_by w.cpu.ram ≡ k.layers)

-- at each tick start of a run it shows the model's, which goes on by the meeting and the edges of each tick, if the
-- model's ticks start when the run's do
pub record HoldsKeyboard (from : World Beside) (bytes : List ℕ) (kb : KeyboardMachine LayeredKeyboard) (edges : List Edge)
    (events : List HostEvent) : Type 0 where
  pub starts : ℕ → ℕ
  pub each : (n : ℕ) → IsStart (joint_board edges events) TICK bytes from n (starts n)
  pub holds : (n stamp : ℕ) (s : IsStart (joint_board edges events) TICK bytes from n stamp)
      → Holds s.state (whole_at kb edges events starts n).keys

-- for every layout and every history that is lawful for it, whatever a part holds when it is switched on
abbrev pub MemoryLaw : Type 0
MemoryLaw =
    (layout : KeyLayout) (history : KeyHistory) → IsKeyLayout layout → IsLawfulFor layout history → (m : Cpu)
    → IsFine m
    → HoldsKeyboard (switched_on history.edges history.host m) (image_of layout) (keyboard layout) history.edges
    history.host
