-- Ticks without a frame, from one tick start to the next.
use Rattle.std.specs.Prelude.{◌≡◌, ◌≤◌, ◌<◌, ◌⊎◌, ℕ, ◌+◌, ◌-◌, ◌==◌, Bool, true, false, List}
use Rattle.std.specs.Prelude.{All, drop, length, slice_index, slice_index_or, bit_and, bit_xor, Some, None}
use Rattle.std.specs.declared.option.Option.{Option}
use Rattle.mcs48_core.specs.declared.levels.Pins.{Pins}
use Rattle.mcs48_core.specs.Cpu.{Cpu}
use Rattle.mcs48_core.specs.Step.{takes_timer}
use Rattle.fw_kernel.specs.Tables.{rate_at}
use Rattle.fw_kernel.specs.declared.cells.TheConstants.{HELD, PENDING}
use Rattle.fw_kernel.specs.declared.labels.TheConstants.{TICK}
use Rattle.fw_kernel.specs.Places.{HasKernel}
use Rattle.joint_run.specs.Run.{Board, World}
use Rattle.joint_run.specs.Starts.{Comes, Tick}
use Rattle.mcs48_ranges.specs.Sizes.{IsByte, IsFine}
use Rattle.board_terms.specs.Matrix.{all_up}
use Rattle.law_fw_logic.specs.Boards.{numbered, power_on}
use Rattle.law_fw_logic.specs.Scan.{levels_in, in_tick, lights_cell}
use Rattle.law_fw_logic.specs.Ticks.{IsEntered, column_read}
use Rattle.model_keyboard.specs.declared.meeting.Meeting.{Meeting}
use Rattle.model_keyboard.specs.declared.state.Repeat.{Repeat}
use Rattle.model_keyboard.specs.declared.meeting.Meeting.TheVariants.{Idle, Inhibited, Sent, Cut, Got}
use Rattle.model_keyboard.specs.Codes.{Keys}
use Rattle.model_keyboard.specs.Keyboard.{Keyboard, at_power_on, offer}
use Rattle.model_keyboard.specs.Layers.{Layers, no_layers, layered, all_layers_after}
use Rattle.model_keyboard.specs.Tick.{ticked}
use Rattle.law_fw_keys.specs.State.{keyboard_of, layers_of, held_by, debounces, read_of, Inv}
use Rattle.law_fw_keys.specs.Edges.{image_keys, tick_edges, IsSilentAlike}
use Rattle.law_fw_keys.specs.Healing.{healed}

-- the keyboard that 128 bytes of data memory show
abbrev pub cells_in : List ℕ → ℕ → ℕ
cells_in ram i = slice_index ram i

abbrev pub shown_by : List ℕ → Keyboard
shown_by ram = keyboard_of (cells_in ram) (drop 112 ram)

abbrev pub layers_by : List ℕ → Layers
layers_by ram = layers_of (cells_in ram)

-- the keys that the last reading showed down
abbrev pub read_by : List ℕ → List ℕ → List Bool
read_by bytes ram = read_of (debounces bytes) (cells_in ram)

-- the layers as the edges of a tick with this meeting find them
abbrev pub layers_met : List ℕ → Meeting → List ℕ → Layers
layers_met bytes meeting ram = healed bytes meeting (shown_by ram) (layers_by ram)

-- what repeats is a key that sends something, in the layer of the last press at its place
abbrev pub IsPressed : Keys → Layers → Option Repeat → Type 0
IsPressed keys layers None = Unit {0}
IsPressed keys layers (Some r) =
    (r.place < 96) × (keys.is_fn r.place ≡ false) × (slice_index_or layers.pressed_in r.place false ≡ r.on_fn)

abbrev pub IsRepeating : List ℕ → List ℕ → Type 0
IsRepeating bytes ram = IsPressed (image_keys bytes) (layers_by ram) (shown_by ram).repeats

-- a tick start at which data memory holds a keyboard
pub record IsStarted (m : Cpu) : Type 0 where
  pub entered : IsEntered m
  pub fine : IsFine m
  pub inv : Inv (cells_in m.ram)

-- the keys that a column shows otherwise than held
abbrev pub differing_now : (d : Board) → World d.State → ℕ → ℕ
differing_now d w c = bit_xor (slice_index w.cpu.ram (HELD + c)) (column_read d w c)

-- those of them that change: all, or with a debounce those that the last reading showed so too
abbrev pub changed_by : Bool → ℕ → ℕ → ℕ
changed_by false pending differing = differing
changed_by true pending differing = bit_and differing pending

abbrev pub changed_now : List ℕ → (d : Board) → World d.State → ℕ → ℕ
changed_now bytes d w c = changed_by (debounces bytes) (slice_index w.cpu.ram (PENDING + c)) (differing_now d w c)

-- and the edges that they are
abbrev pub edges_now : List ℕ → (d : Board) → World d.State → List (ℕ × Bool)
edges_now bytes d w = tick_edges (changed_now bytes d w) (column_read d w)

-- what the looks see, at the clock at offset 256 and at data at 258
abbrev pub latch_now : (d : Board) → World d.State → ℕ
latch_now d w = 255 - slice_index w.cpu.ram lights_cell

abbrev pub clock_now : (d : Board) → World d.State → Bool
clock_now d w = (levels_in d (w.cycle + 232) 44 (latch_now d w) (in_tick d w 232) 24).t0

abbrev pub data_now : (d : Board) → World d.State → Bool
data_now d w = (levels_in d (w.cycle + 232) 44 (latch_now d w) (in_tick d w 232) 26).t1

-- data is looked at again at offset 286 if it was low at 258
abbrev pub data_again : (d : Board) → World d.State → Bool
data_again d w = (levels_in d (w.cycle + 232) 44 (latch_now d w) (in_tick d w 232) 54).t1

-- a tick without a frame: the power-on test runs; or both wires are high and nothing is offered; or data is low at the
-- first look alone; or the clock is held
abbrev pub tests_in : (d : Board) → World d.State → Bool
tests_in d w = (shown_by w.cpu.ram).test == 0

abbrev pub IsFrameless : (d : Board) → World d.State → Meeting → Type 0
IsFrameless d w Idle =
    (tests_in d w ≡ false)
    ⊎ (((tests_in d w ≡ true) × (clock_now d w ≡ true) × (data_now d w ≡ true) × (offer (shown_by w.cpu.ram) ≡ None))
    ⊎ ((tests_in d w ≡ true) × (clock_now d w ≡ true) × (data_now d w ≡ false) × (data_again d w ≡ true)))
IsFrameless d w Inhibited = (tests_in d w ≡ true) × (clock_now d w ≡ false)
IsFrameless d w Sent = ⊥
IsFrameless d w Cut = ⊥
IsFrameless d w (Got byte good) = ⊥

-- such a tick: the next start is 2,048 cycles later, give or take the one cycle; the keyboard and the layers that data
-- memory shows are a tick of the model later, with the Fn key as it is held if a reset is made; memory shows what was
-- read; and the latch of port 2 shows the lights and pulls no wire
pub record GoesOn (d : Board) (bytes : List ℕ) (meeting : Meeting) (w v : World d.State) : Type 0 where
  pub started : IsStarted v.cpu
  pub time : v.cycle + w.cpu.pre ≡ w.cycle + 2048 + v.cpu.pre
  pub keyboard : shown_by v.cpu.ram ≡ ticked (image_keys bytes) meeting
      (layered (image_keys bytes).is_fn (edges_now bytes d w) (layers_met bytes meeting w.cpu.ram)) (shown_by w.cpu.ram)
  pub layers : layers_by v.cpu.ram
      ≡ all_layers_after (image_keys bytes).is_fn (edges_now bytes d w) (layers_met bytes meeting w.cpu.ram)
  pub read : read_by bytes v.cpu.ram ≡ held_by (column_read d w)
  pub repeating : IsRepeating bytes v.cpu.ram
  pub latch : v.cpu.p2 ≡ latch_now d w

-- a program whose every tick without a frame does so, whatever the pins show, if four edges are seen at most
abbrev pub KeepsFrameless : List ℕ → Type 0
KeepsFrameless bytes = (pins : ℕ → ℕ → ℕ → ℕ → Pins) (tick : ℕ → ℕ → ℕ → ℕ)
    → ((p1 p2 c s : ℕ) → (pins p1 p2 c s).bus < 256)
    → (w : World ℕ) → IsStarted w.cpu → IsRepeating bytes w.cpu.ram → length (edges_now bytes (numbered pins tick) w) ≤ 4
    → (meeting : Meeting) → IsFrameless (numbered pins tick) w meeting
    → Tick (numbered pins tick) TICK bytes w (GoesOn (numbered pins tick) bytes meeting w)

-- every image that has the kernel's bytes outside the layout's tables is one, if a place has codes in both layers or
-- in neither
abbrev pub FramelessLaw : Type 0
FramelessLaw = (bytes : List ℕ) → HasKernel bytes → IsSilentAlike bytes → All IsByte bytes → KeepsFrameless bytes

-- a tick start at which data memory shows the keyboard at power-on, before any press or reading; no wire is pulled, and no
-- light is lit
pub record FromPowerOn (bytes : List ℕ) (m : Cpu) : Type 0 where
  pub started : IsStarted m
  pub keyboard : shown_by m.ram ≡ at_power_on (slice_index bytes rate_at)
  pub layers : layers_by m.ram ≡ no_layers
  pub read : read_by bytes m.ram ≡ all_up
  pub latch : m.p2 ≡ 255

-- a program that comes there from power-on, whatever the processor held before and whatever the pins show
abbrev pub PowersOn : List ℕ → Type 0
PowersOn bytes = (pins : ℕ → ℕ → ℕ → ℕ → Pins) (tick : ℕ → ℕ → ℕ → ℕ) (m : Cpu) (board : ℕ)
    → IsFine m → ((p1 p2 c s : ℕ) → (pins p1 p2 c s).bus < 256)
    → Comes (numbered pins tick) TICK bytes (power_on (numbered pins tick) m board) (λ w. FromPowerOn bytes w.cpu)

abbrev pub PowerOnLaw : Type 0
PowerOnLaw = (bytes : List ℕ) → HasKernel bytes → All IsByte bytes → PowersOn bytes

-- a program that comes there from any state at 000 that enters no interrupt, pulls no wire and lights no light, if the
-- pin INT is high: whatever the status with its register bank, the memory bank, the stack, the timer, both interrupts, the
-- mark of a service and data memory are. The start comes when it does from power-on
abbrev pub Restarts : List ℕ → Type 0
Restarts bytes = (pins : ℕ → ℕ → ℕ → ℕ → Pins) (tick : ℕ → ℕ → ℕ → ℕ) (m : Cpu) (board : ℕ)
    → IsFine m → ((p1 p2 c s : ℕ) → (pins p1 p2 c s).bus < 256) → ((p1 p2 c s : ℕ) → (pins p1 p2 c s).int_pin ≡ true)
    → m.pc ≡ 0 → m.p2 ≡ 255 → m.clk ≡ false → takes_timer m ≡ false
    → Comes (numbered pins tick) TICK bytes (record { cpu = m; board = board; cycle = 0 })
    (λ w. FromPowerOn bytes w.cpu × (4096 ≤ w.cycle) × (w.cycle ≤ 4097))

abbrev pub RestartLaw : Type 0
RestartLaw = (bytes : List ℕ) → HasKernel bytes → All IsByte bytes → Restarts bytes
