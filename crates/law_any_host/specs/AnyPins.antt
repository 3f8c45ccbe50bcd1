-- The run of a layout's image at any host: whatever the pins show, in each cycle.
use Rattle.std.specs.Prelude.{◌≡◌, ◌≤◌, ◌<◌, ℕ, zero, suc, ◌+◌, ◌-◌, ◌/◌, ◌%◌, Bool, true, List, length, Some}
use Rattle.bits.specs.Bits.{bit}
use Rattle.fw_compile.specs.Image.{image_of}
use Rattle.fw_kernel.specs.declared.labels.TheConstants.{TICK}
use Rattle.law_fw_keys.specs.Frameless.{edges_now, latch_now, shown_by, layers_by, read_by}
use Rattle.law_fw_link.specs.Drives.{Drives, DrivesTick}
use Rattle.law_fw_link.specs.Latch.{Frame, tick_latch}
use Rattle.law_fw_logic.specs.Boards.{numbered, power_on}
use Rattle.law_fw_logic.specs.Selecting.{column_latch, Selects}
use Rattle.law_fw_logic.specs.Ticks.{column_read}
use Rattle.joint_run.specs.Joint.{lights_of}
use Rattle.joint_run.specs.Run.{Board, World, run_at}
use Rattle.joint_run.specs.Starts.{at_tick, IsStart}
use Rattle.model_keyboard.specs.Codes.{keys_of}
use Rattle.model_keyboard.specs.Keyboard.{offer}
use Rattle.model_keyboard.specs.Layers.{layered, all_layers_after}
use Rattle.model_keyboard.specs.Tick.{ticked}
use Rattle.model_keyboard.specs.declared.meeting.Meeting.{Meeting}
use Rattle.layout_reader.specs.Layouts.{KeyLayout, IsKeyLayout, HasEntry, is_fn_place}
use Rattle.model_link.specs.Debounce.{is_down_at, switched, taken}
use Rattle.model_link.specs.Machine.{LayeredKeyboard, keyboard}
use Rattle.model_link.specs.TickEdges.{shown}
use Rattle.mcs48_core.specs.Cpu.{Cpu}
use Rattle.mcs48_core.specs.declared.levels.Pins.{Pins}
use Rattle.mcs48_ranges.specs.Sizes.{IsFine}
use Rattle.law_agreement.specs.Agreement.{IsPrompt}
use Rattle.law_agreement.specs.AnyKeys.{shortest_tick, tick_with}
use Rattle.law_agreement.specs.Firmware.{Finds}
use Rattle.law_agreement.specs.Wires.{IsLetGo}

-- whether a tick's columns show a key as down: each column is read in its own cycle
abbrev pub is_shown : (d : Board) → World d.State → ℕ → Bool
is_shown d w place = bit (place % 8) (column_read d w (place / 8))

-- they show no key as down that the layout doesn't have, and any number of those that it has
pub record ShowsOwnKeys (layout : KeyLayout) (d : Board) (w : World d.State) : Type 0 where
  pub placed : (place : ℕ) → place < 96 → is_shown d w place ≡ true → HasEntry layout place

-- a tick of the model's keyboard, by the edges that its reading shows and by a meeting as the keyboard knows it: a byte that
-- it gets may have wrong parity
abbrev pub keyboard_tick : KeyLayout → Meeting → List (ℕ × Bool) → LayeredKeyboard → LayeredKeyboard
keyboard_tick layout meeting edges k = record {
  keyboard =
      ticked (keys_of layout) meeting (layered (is_fn_place layout) (taken layout.debounce edges k.switches) k.layers) k.keyboard;
  layers = all_layers_after (is_fn_place layout) (taken layout.debounce edges k.switches) k.layers;
  switches = switched layout.debounce edges k.switches;
}

-- the keyboard after so many ticks, by their meetings and edges
abbrev pub keyboard_after : KeyLayout → (ℕ → Meeting) → (ℕ → List (ℕ × Bool)) → ℕ → LayeredKeyboard
keyboard_after layout meetings edges zero = (keyboard layout).start
keyboard_after layout meetings edges (suc n) =
    keyboard_tick layout (meetings n) (edges n) (keyboard_after layout meetings edges n)

-- and the edges that it takes of those
abbrev pub takes_at : KeyLayout → (ℕ → Meeting) → (ℕ → List (ℕ × Bool)) → ℕ → List (ℕ × Bool)
takes_at layout meetings edges n =
    taken layout.debounce (edges n) (keyboard_after layout meetings edges n).switches

-- a tick start: data memory shows this keyboard. The tick's columns show these edges against what was read last, and its
-- looks find this frame and this meeting. Up to the next start both ports are in each cycle those of a tick with the frame: outside the frame
-- neither wire is pulled, and from offset 232 on the lights are the keyboard's. What is offered is a byte
pub record TicksBy (layout : KeyLayout) (d : Board) (k : LayeredKeyboard) (frame : Frame) (meeting : Meeting)
    (edges : List (ℕ × Bool)) (w : World d.State) : Type 0 where
  pub keyboard : shown_by w.cpu.ram ≡ k.keyboard
  pub layers : layers_by w.cpu.ram ≡ k.layers
  pub read : read_by (image_of layout) w.cpu.ram ≡ k.switches.read
  pub edges_shown : shown (is_down_at k.switches.read) (is_shown d w) ≡ edges
  pub takes : edges_now (image_of layout) d w ≡ taken layout.debounce edges k.switches
  pub finds : Finds d w frame meeting
  pub before : IsLetGo w.cpu.p2
  pub afterwards : IsLetGo (latch_now d w)
  pub lit : lights_of (latch_now d w) ≡ k.keyboard.lights
  pub offered : (byte : ℕ) → offer k.keyboard ≡ Some byte → byte < 256
  pub drives : DrivesTick d TICK (image_of layout) w (λ c. tick_latch w.cpu.p2 (latch_now d w) frame (c - w.cycle))
      (λ e. (at_tick d TICK e ≡ true) × (e.cpu.p2 ≡ latch_now d w))
  pub columns : Selects d TICK (image_of layout) w (λ c. column_latch w.cpu.p1 (c - w.cycle))

-- the run from a state is never stuck; up to its first tick start port 2 pulls no wire and lights no light; each start
-- comes at least 2,016 cycles after the one before, and at most 2,054, and 62 more for each key that the tick takes as
-- changed, or with a debounce 314 more; if no tick takes more than four, start n is at its multiple of 2,048 or one cycle
-- past it; and at each start is the model's keyboard, after the ticks before
pub record WorksAlone (layout : KeyLayout) (d : Board) (from : World d.State) : Type 0 where
  pub goes_on : (k : ℕ) → (w : World d.State) × (run_at d (image_of layout) from k ≡ Some w)
  pub first : Drives d TICK (image_of layout) from (λ c. 255) (λ e. at_tick d TICK e ≡ true)
  pub starts : ℕ → ℕ
  pub each : (n : ℕ) → IsStart d TICK (image_of layout) from n (starts n)
  pub frames : ℕ → Frame
  pub meetings : ℕ → Meeting
  pub edges : ℕ → List (ℕ × Bool)
  pub apart : (n : ℕ) → starts n + shortest_tick ≤ starts (suc n)
  pub soon : (n : ℕ) → starts (suc n) ≤ starts n + tick_with (image_of layout) (length (takes_at layout meetings edges n))
  pub prompt : ((n : ℕ) → length (takes_at layout meetings edges n) ≤ 4) → (n : ℕ) → IsPrompt n (starts n)
  pub ticks : (n stamp : ℕ) (s : IsStart d TICK (image_of layout) from n stamp)
      → TicksBy layout d (keyboard_after layout meetings edges n) (frames n) (meetings n) (edges n) s.state

-- so is the run of every layout's image, whatever the part held when it was switched on, on every board with numbers as
-- states, whatever its pins show by both ports, the cycle and the state, if each tick's columns show keys of the layout alone, any number at once
abbrev pub AnyPinsLaw : Type 0
AnyPinsLaw =
    (layout : KeyLayout) → IsKeyLayout layout → (pins : ℕ → ℕ → ℕ → ℕ → Pins) (tick : ℕ → ℕ → ℕ → ℕ)
    → ((p1 p2 c s : ℕ) → (pins p1 p2 c s).bus < 256) → (m : Cpu) → IsFine m → (board : ℕ)
    → ((n stamp : ℕ)
    (s : IsStart (numbered pins tick) TICK (image_of layout) (power_on (numbered pins tick) m board) n stamp)
    → ShowsOwnKeys layout (numbered pins tick) s.state)
    → WorksAlone layout (numbered pins tick) (power_on (numbered pins tick) m board)

-- what the looks of a tick find is one frame and one meeting
abbrev pub OneMeetingLaw : Type 0
OneMeetingLaw =
    (pins : ℕ → ℕ → ℕ → ℕ → Pins) (tick : ℕ → ℕ → ℕ → ℕ) (w : World ℕ) (frame other : Frame) (meeting met : Meeting)
    → Finds (numbered pins tick) w frame meeting → Finds (numbered pins tick) w other met
    → (frame ≡ other) × (meeting ≡ met)
