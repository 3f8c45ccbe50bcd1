-- The agreement of run and model.
use Rattle.std.specs.Prelude.{◌≡◌, ◌≤◌, ℕ, ◌+◌, ◌*◌, List}
use Rattle.board_terms.specs.declared.event.Edge.{Edge}
use Rattle.board_terms.specs.declared.event.HostEvent.{HostEvent}
use Rattle.fw_compile.specs.Image.{image_of}
use Rattle.fw_kernel.specs.declared.labels.TheConstants.{TICK}
use Rattle.fw_ticks.specs.JointRun.{KeepsTime, KeepsTimeFrom}
use Rattle.joint_run.specs.Joint.{Beside, joint_board, joint_start, joint_start_of, log_of}
use Rattle.joint_run.specs.Run.{World}
use Rattle.joint_run.specs.Starts.{IsStart}
use Rattle.key_file.specs.Accepted.{IsLawfulFor}
use Rattle.key_file.specs.Histories.{KeyHistory}
use Rattle.layout_reader.specs.Layouts.{KeyLayout, IsKeyLayout}
use Rattle.model_link.specs.Expected.{whole_at}
use Rattle.model_link.specs.Machine.{KeyboardMachine, keyboard}
use Rattle.mcs48_core.specs.Cpu.{Cpu}
use Rattle.mcs48_ranges.specs.Sizes.{IsFine}

-- at each tick start of a joint run what was said so far is what the model says up to there, if its ticks start when
-- the run's do
pub record AgreesFrom {S : Type 0} (from : World Beside) (bytes : List ℕ) (kb : KeyboardMachine S) (edges : List Edge)
    (events : List HostEvent) : Type 0 where
  pub starts : ℕ → ℕ
  pub each : (n : ℕ) → IsStart (joint_board edges events) TICK bytes from n (starts n)
  pub log : (n stamp : ℕ) (s : IsStart (joint_board edges events) TICK bytes from n stamp)
      → log_of s.state.board ≡ (whole_at kb edges events starts n).side.log

-- so it is of the run that begins with cleared memory
abbrev pub Agrees : {S : Type 0} → List ℕ → KeyboardMachine S → List Edge → List HostEvent → Type 0
Agrees bytes kb edges events = AgreesFrom joint_start bytes kb edges events

-- for every layout and every history that is lawful for it; and the run keeps its time
abbrev pub AgreementLaw : Type 0
AgreementLaw =
    (layout : KeyLayout) (history : KeyHistory) → IsKeyLayout layout → IsLawfulFor layout history
    → KeepsTime (image_of layout) history.edges history.host
    × Agrees (image_of layout) (keyboard layout) history.edges history.host

-- the joint run of a part that held this when it was switched on
abbrev pub switched_on : List Edge → List HostEvent → Cpu → World Beside
switched_on edges events m = joint_start_of m

-- and whatever the part holds when it is switched on: any bytes in data memory, A and T, any carries and prescaler, and
-- an interrupt that is marked as in service or none
abbrev pub AnyMemoryLaw : Type 0
AnyMemoryLaw =
    (layout : KeyLayout) (history : KeyHistory) → IsKeyLayout layout → IsLawfulFor layout history
    → (m : Cpu) → IsFine m
    → KeepsTimeFrom (switched_on history.edges history.host m) (image_of layout) history.edges history.host
    × AgreesFrom (switched_on history.edges history.host m) (image_of layout) (keyboard layout) history.edges
    history.host

-- a start, as a stamp, is at its multiple of 2,048 or one cycle past it
pub record IsPrompt (n start : ℕ) : Type 0 where
  pub least : 2048 * n ≤ start
  pub most : start ≤ 2048 * n + 1

-- so is each tick start of these runs: it comes between two instructions of the wait, which take two cycles
abbrev pub PromptLaw : Type 0
PromptLaw =
    (layout : KeyLayout) (history : KeyHistory) → IsKeyLayout layout → IsLawfulFor layout history
    → (m : Cpu) → IsFine m → (n stamp : ℕ)
    → IsStart (joint_board history.edges history.host) TICK (image_of layout)
    (switched_on history.edges history.host m) n stamp
    → IsPrompt n stamp
