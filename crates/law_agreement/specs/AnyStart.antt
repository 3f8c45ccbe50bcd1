-- The run from any tick start on, and the run under keys that bounce: the model goes by what the columns show.
use Rattle.std.specs.Prelude.{◌≡◌, ◌≤◌, ℕ, zero, suc, ◌+◌, ◌-◌, ◌*◌, ◌/◌, Bool, true, false, nat_le, nat_lt}
use Rattle.std.specs.Prelude.{if◌then◌else◌, List, All, length, Some}
use Rattle.std.specs.List.{filter}
use Rattle.board_terms.specs.declared.event.Edge.{Edge}
use Rattle.board_terms.specs.declared.event.HostEvent.{HostEvent}
use Rattle.board_terms.specs.Edges.{AreInOrder}
use Rattle.board_terms.specs.Flips.{AreFlips}
use Rattle.board_terms.specs.Laws.{ArePlaces}
use Rattle.ctl_link.specs.Link.{is_busy}
use Rattle.fw_compile.specs.Image.{image_of}
use Rattle.fw_kernel.specs.declared.labels.TheConstants.{TICK}
use Rattle.law_fw_keys.specs.Frameless.{IsStarted, IsRepeating, shown_by, layers_by, read_by}
use Rattle.law_fw_keys.specs.Healing.{is_fn_held}
use Rattle.law_fw_logic.specs.Ticks.{IsOnTime}
use Rattle.joint_run.specs.Joint.{Beside, joint_board, lights_of, log_of}
use Rattle.joint_run.specs.Run.{World, run_at}
use Rattle.joint_run.specs.Starts.{IsStart}
use Rattle.model_keyboard.specs.Keyboard.{is_held}
use Rattle.key_file.specs.Accepted.{AreWritten, IsPlaceOf, IsThin}
use Rattle.layout_reader.specs.Layouts.{KeyLayout, IsKeyLayout}
use Rattle.model_link.specs.Debounce.{Switches, is_down_at, AreKnown}
use Rattle.model_link.specs.Expected.{Whole, whole_at, whole_tick}
use Rattle.model_link.specs.Machine.{KeyboardMachine, LayeredKeyboard, keyboard}
use Rattle.model_link.specs.TickEdges.{is_down, shown, downs_in}
use Rattle.mcs48_core.specs.Cpu.{Cpu}
use Rattle.mcs48_ranges.specs.Sizes.{IsFine}
use Rattle.law_wires_agree.specs.Flips.{IsFlip}
use Rattle.law_wires_agree.specs.Without.{seen_in_bytes}
use Rattle.law_agreement.specs.Agreement.{IsPrompt, switched_on}
use Rattle.law_agreement.specs.Bytes.{IsInBytes}
use Rattle.law_agreement.specs.Firmware.{HasWholeCodes}
use Rattle.law_agreement.specs.Memory.{Holds}
use Rattle.law_agreement.specs.Wires.{IsLetGo}

-- edges and host events that may come to a keyboard with the layout, in any order, however often and fast: the edges are
-- at its places, what the host writes are bytes, and noise turns round data bits or the parity
pub record AreFor (layout : KeyLayout) (edges : List Edge) (events : List HostEvent) : Type 0 where
  pub places : All (λ edge. IsPlaceOf layout edge.place) edges
  pub written : AreWritten events
  pub flips : AreFlips events

-- the keys that the columns of a tick show as down, by the stamp of its start
abbrev pub columns_at : List Edge → ℕ → ℕ → Bool
columns_at edges start place = is_down edges place (start + 16 + 16 * (place / 8))

-- tick n shows at most four keys that changed since the tick before, or since power-on, when all are up; wherever both
-- ticks start, each at its multiple of 2,048 or one cycle past it
abbrev pub ShowsFew : List Edge → ℕ → Type 0
ShowsFew edges zero =
    (now : ℕ) → IsPrompt 0 now → length (shown (λ place. false) (columns_at edges now)) ≤ 4
ShowsFew edges (suc n) =
    (before now : ℕ) → IsPrompt n before → IsPrompt (suc n) now
    → length (shown (columns_at edges before) (columns_at edges now)) ≤ 4

-- the model from a start on, by the stamps of the starts: each tick gets the keys whose columns differ from those read
abbrev pub model_from : {S : Type 0} → KeyboardMachine S → List Edge → List HostEvent → (ℕ → ℕ) → Whole S → ℕ → Whole S
model_from kb edges events starts m zero = m
model_from kb edges events starts m (suc k) =
    whole_tick kb events (shown (kb.held (model_from kb edges events starts m k).keys) (downs_in starts edges k))
    (4096 + starts k) (starts (suc k) - starts k - 609) (model_from kb edges events starts m k)

-- what a state of the run shows as the model's: the keyboard, layers and switches in data memory, the PC's side in byte
-- time, the lights
abbrev pub switches_by : KeyLayout → World Beside → Switches
switches_by layout w = record { read = read_by (image_of layout) w.cpu.ram; settled = (shown_by w.cpu.ram).held }

abbrev pub model_at : KeyLayout → World Beside → Whole LayeredKeyboard
model_at layout w = record {
  keys = record { keyboard = shown_by w.cpu.ram; layers = layers_by w.cpu.ram; switches = switches_by layout w };
  side = seen_in_bytes w.board.pc.side;
  shown = w.board.shown;
}

-- the state is a tick start at which data memory shows a keyboard of the layout, at its multiple of 2,048 or one cycle
-- past it: what repeats is pressed, the Fn key is down if it is held, the queue breaks no code, the keys that are held
-- or were read down are the layout's, and with a debounce at most four wait to settle. No byte is on the way,
-- what the PC has for the keyboard is a byte, the latch of port 2 pulls neither wire and shows the lights that were shown
-- last, and port 1 selects no column
pub record ShowsKeyboard (layout : KeyLayout) (n : ℕ) (w : World Beside) : Type 0 where
  pub started : IsStarted w.cpu
  pub time : IsOnTime n w
  pub repeating : IsRepeating (image_of layout) w.cpu.ram
  pub fn : (layers_by w.cpu.ram).fn_down ≡ is_fn_held (image_of layout) (shown_by w.cpu.ram)
  pub codes : HasWholeCodes w.cpu.ram
  pub placed : AreKnown layout (switches_by layout w)
  pub waits : layout.debounce ≡ true
      → length (shown (is_held (shown_by w.cpu.ram)) (is_down_at (switches_by layout w).read)) ≤ 4
  pub idle : is_busy w.board.pc.side.port.link ≡ false
  pub flip : IsFlip w.board.pc.side.port.flip
  pub in_bytes : IsInBytes (seen_in_bytes w.board.pc.side)
  pub lit : lights_of w.cpu.p2 ≡ w.board.shown
  pub released : IsLetGo w.cpu.p2
  pub column : w.cpu.p1 ≡ (if nat_le w.cycle 4097 then 255 else 44)

-- the run from a state is never stuck; its start k is prompt as start `first + k`, and shows a keyboard: the model's, which
-- goes on from what it is at the run's first start; and what was said up to there is what the model says
pub record GoesOnAs (layout : KeyLayout) (edges : List Edge) (events : List HostEvent) (from : World Beside) (first : ℕ)
    (at : ℕ → Whole LayeredKeyboard) : Type 0 where
  pub goes_on : (k : ℕ) → (w : World Beside) × (run_at (joint_board edges events) (image_of layout) from k ≡ Some w)
  pub starts : ℕ → ℕ
  pub each : (k : ℕ) → IsStart (joint_board edges events) TICK (image_of layout) from k (starts k)
  pub prompt : (k : ℕ) → IsPrompt (first + k) (starts k)
  pub shows : (k stamp : ℕ) (s : IsStart (joint_board edges events) TICK (image_of layout) from k stamp)
      → ShowsKeyboard layout (first + k) s.state
  pub holds : (k stamp : ℕ) (s : IsStart (joint_board edges events) TICK (image_of layout) from k stamp)
      → Holds s.state (model_from (keyboard layout) edges events starts (at (starts 0)) k).keys
  pub log : (k stamp : ℕ) (s : IsStart (joint_board edges events) TICK (image_of layout) from k stamp)
      → log_of s.state.board ≡ (model_from (keyboard layout) edges events starts (at (starts 0)) k).side.log

-- so it is from any tick start at which data memory shows a keyboard, if at most four keys differ there from those read,
-- and each later tick shows few
abbrev pub FromAnyStart : Type 0
FromAnyStart =
    (layout : KeyLayout) (edges : List Edge) (events : List HostEvent) (n : ℕ) (w : World Beside) → IsKeyLayout layout
    → AreFor layout edges events → ShowsKeyboard layout n w
    → length (shown (is_down_at (switches_by layout w).read) (columns_at edges (w.cycle - 4096))) ≤ 4
    → ((k : ℕ) → ShowsFew edges (suc (n + k)))
    → GoesOnAs layout edges events w n (λ stamp. model_at layout w)

-- and of the run of a part that held anything when it was switched on, from the model at power-on, whether or not keys
-- bounce, if each tick shows few
abbrev pub AsShown : Type 0
AsShown =
    (layout : KeyLayout) (edges : List Edge) (events : List HostEvent) → IsKeyLayout layout → AreFor layout edges events
    → ((n : ℕ) → ShowsFew edges n) → (m : Cpu) → IsFine m
    → GoesOnAs layout edges events (switched_on edges events m) 0
    (λ stamp. whole_at (keyboard layout) edges events (λ n. stamp) 0)

-- the edges that tick n may see: those later than the first read of the tick before
abbrev pub edges_from : ℕ → List Edge → List Edge
edges_from zero edges = edges
edges_from (suc n) edges = filter (λ e. nat_lt (2048 * n + 16) e.stamp) edges

-- the ticks from one on show few if the edges that they may see are in order, and of any five in a row the last is at least
-- 2,240 cycles later than the first
abbrev pub ThinShowsFew : Type 0
ThinShowsFew =
    (edges : List Edge) (n : ℕ) → ArePlaces edges → AreInOrder (edges_from n edges) → IsThin (edges_from n edges)
    → (k : ℕ) → ShowsFew edges (n + k)
