-- The keyboard at any host that keeps the rules of the link.
use Rattle.std.specs.Prelude.{◌≡◌, ◌≤◌, ◌<◌, ℕ, zero, suc, ◌+◌, Bool, List, [], ◌∷◌, ◌++◌, Some}
use Rattle.std.specs.declared.option.Option.{Option}
use Rattle.board_terms.specs.declared.lines.Lines.{Lines}
use Rattle.fw_compile.specs.Image.{image_of}
use Rattle.fw_kernel.specs.declared.labels.TheConstants.{TICK}
use Rattle.law_fw_logic.specs.Boards.{numbered, power_on}
use Rattle.joint_run.specs.Joint.{latch_of}
use Rattle.joint_run.specs.Run.{Board, World, after_cycles, joint_step, run_at}
use Rattle.joint_run.specs.Starts.{IsStart}
use Rattle.model_keyboard.specs.Keyboard.{offer}
use Rattle.model_keyboard.specs.declared.meeting.Meeting.{Meeting}
use Rattle.model_keyboard.specs.declared.meeting.Meeting.TheVariants.{Got, Idle, Inhibited, Sent, Cut}
use Rattle.layout_reader.specs.Layouts.{KeyLayout, IsKeyLayout}
use Rattle.mcs48_core.specs.Cpu.{Cpu}
use Rattle.mcs48_core.specs.declared.levels.Pins.{Pins}
use Rattle.mcs48_ranges.specs.Sizes.{IsFine}
use Rattle.law_any_host.specs.AnyPins.{ShowsOwnKeys, WorksAlone, keyboard_after}
use Rattle.law_any_host.specs.Ears.{Counting, ear_to, taken_by}
use Rattle.law_any_host.specs.Hearing.{IsRight, got_before}
use Rattle.law_any_host.specs.Rules.{Ends, IsRuleful}
use Rattle.law_any_host.specs.Wires.{AreWires, Wiring}

-- the board so many cycles past power-on, if the latch of port 2 is this in each cycle
abbrev pub driven_to : (d : Board) → (ℕ → ℕ) → d.State → ℕ → d.State
driven_to d latch board n = after_cycles n 0 (λ c. d.cycle (latch c) c) board

-- the wiring is that of a run: the latch of port 2 is this in each cycle, whatever step it is one of; the keyboard drives
-- the wires by it, and a look finds the levels that the board shows in the cycle where no column is selected
pub record IsWiringOf (d : Board) (bytes : List ℕ) (from : World d.State) (w : Wiring) : Type 0 where
  pub latch : ℕ → ℕ
  pub of_run : (k c : ℕ) (one next : World d.State) → run_at d bytes from k ≡ Some one → joint_step d bytes one ≡ Some next
      → one.cycle ≤ c → c < next.cycle → next.cpu.p2 ≡ latch c
  pub keyboard : (c : ℕ) → w.keyboard c ≡ latch_of (latch c)
  pub clock : (c : ℕ) → (w.pins c).clk ≡ (d.pins 44 (latch c) c (driven_to d latch from.board c)).t0
  pub data_wire : (c : ℕ) → (w.pins c).dat ≡ (d.pins 44 (latch c) c (driven_to d latch from.board c)).t1

-- the byte that a tick sends: what the keyboard offers, if its meeting is Sent
abbrev pub said_by : Meeting → Option ℕ → List (Option ℕ)
said_by Sent offered = offered ∷ []
said_by Cut offered = []
said_by Idle offered = []
said_by Inhibited offered = []
said_by (Got byte good) offered = []

-- those of the ticks before one
abbrev pub said_before : KeyLayout → (ℕ → Meeting) → (ℕ → List (ℕ × Bool)) → ℕ → List (Option ℕ)
said_before layout meetings edges zero = []
said_before layout meetings edges (suc n) =
    said_before layout meetings edges n
    ++ said_by (meetings n) (offer (keyboard_after layout meetings edges n).keyboard)

-- the keyboard works: its run is that of the model, and at each tick start the host has taken what the model's keyboard
-- said, and the keyboard has got what the host sent
pub record WorksAt (counts : Counting) (layout : KeyLayout) (d : Board) (from : World d.State) (w : Wiring) : Type 0 where
  pub works : WorksAlone layout d from
  pub taken : (n stamp : ℕ) → IsStart d TICK (image_of layout) from n stamp
      → taken_by counts w (4096 + stamp) ≡ said_before layout works.meetings works.edges n
  pub given : (n stamp : ℕ) → IsStart d TICK (image_of layout) from n stamp
      → (ear_to w (4096 + stamp)).given ≡ got_before works.meetings n
  pub right : (n : ℕ) → IsRight (works.meetings n)

abbrev pub AnyHostLaw : Type 0
AnyHostLaw =
    (layout : KeyLayout) → IsKeyLayout layout → (pins : ℕ → ℕ → ℕ → ℕ → Pins) (tick : ℕ → ℕ → ℕ → ℕ)
    → ((p1 p2 c s : ℕ) → (pins p1 p2 c s).bus < 256) → (m : Cpu) → IsFine m → (board : ℕ)
    → ((n stamp : ℕ)
    (s : IsStart (numbered pins tick) TICK (image_of layout) (power_on (numbered pins tick) m board) n stamp)
    → ShowsOwnKeys layout (numbered pins tick) s.state)
    → (w : Wiring) → IsWiringOf (numbered pins tick) (image_of layout) (power_on (numbered pins tick) m board) w
    → AreWires w → IsRuleful w → (counts : Counting) → Ends counts w
    → WorksAt counts layout (numbered pins tick) (power_on (numbered pins tick) m board) w

-- and each such run has a latch in each cycle: so each has its wiring, whatever the host is
abbrev pub LatchLaw : Type 0
LatchLaw =
    (layout : KeyLayout) → IsKeyLayout layout → (pins : ℕ → ℕ → ℕ → ℕ → Pins) (tick : ℕ → ℕ → ℕ → ℕ)
    → ((p1 p2 c s : ℕ) → (pins p1 p2 c s).bus < 256) → (m : Cpu) → IsFine m → (board : ℕ)
    → ((n stamp : ℕ)
    (s : IsStart (numbered pins tick) TICK (image_of layout) (power_on (numbered pins tick) m board) n stamp)
    → ShowsOwnKeys layout (numbered pins tick) s.state)
    → (host seen : ℕ → Lines) (reads : ℕ → Bool) (wants : ℕ → ℕ)
    → (w : Wiring) × IsWiringOf (numbered pins tick) (image_of layout) (power_on (numbered pins tick) m board) w
    × (w.host ≡ host) × (w.seen ≡ seen) × (w.reads ≡ reads) × (w.wants ≡ wants)
