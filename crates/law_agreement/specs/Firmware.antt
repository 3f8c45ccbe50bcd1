-- A tick of the firmware, whatever the pins show: by what its looks find, what it drives, and what data memory shows
-- at the next start.
use Rattle.std.specs.Prelude.{◌≡◌, ◌≤◌, ◌<◌, ℕ, ◌+◌, ◌-◌, ◌*◌, ◌==◌, Bool, true, false, List, All, length, Some}
use Rattle.mcs48_core.specs.declared.levels.Pins.{Pins}
use Rattle.fw_kernel.specs.declared.labels.TheConstants.{TICK}
use Rattle.fw_kernel.specs.Places.{HasKernel}
use Rattle.law_fw_keys.specs.Edges.{image_code, IsSilentAlike}
use Rattle.law_fw_keys.specs.Frameless.{IsStarted, IsRepeating, IsFrameless, GoesOn, shown_by, tests_in, edges_now}
use Rattle.law_fw_keys.specs.Frameless.{latch_now, clock_now, data_now, data_again}
use Rattle.law_fw_link.specs.Latch.{Frame, NoFrame, SentFrame, CutFrame, ReceivedFrame, IsLook, tick_latch}
use Rattle.law_fw_link.specs.Reading.{byte_in, right_in}
use Rattle.law_fw_logic.specs.Boards.{numbered}
use Rattle.law_fw_logic.specs.Selecting.{column_latch, Selects}
use Rattle.joint_run.specs.Run.{Board, World, after_cycles}
use Rattle.joint_run.specs.Starts.{Tick}
use Rattle.model_keyboard.specs.Keyboard.{offer}
use Rattle.model_keyboard.specs.Laws.{whole}
use Rattle.model_keyboard.specs.declared.meeting.Meeting.{Meeting}
use Rattle.model_keyboard.specs.declared.meeting.Meeting.TheVariants.{Sent, Cut, Got}
use Rattle.mcs48_ranges.specs.Sizes.{IsByte}

-- the latch of port 2 at an offset of a tick with this frame; and the board so many cycles past the tick's start
abbrev pub latch_at : (d : Board) → World d.State → Frame → ℕ → ℕ
latch_at d w frame o = tick_latch w.cpu.p2 (latch_now d w) frame o

abbrev pub board_at : (d : Board) → World d.State → Frame → ℕ → d.State
board_at d w frame n = after_cycles n 0 (λ o. d.cycle (latch_at d w frame o) (w.cycle + o)) w.board

-- the levels at the pins at an offset, once the columns are read
abbrev pub levels_at : (d : Board) → World d.State → Frame → ℕ → Pins
levels_at d w frame o = d.pins 44 (latch_at d w frame o) (w.cycle + o) (board_at d w frame o)

-- a look at the clock if this byte is sent; and the look of cell k at data, at offset 306 + 32 k, if one is received
abbrev pub clock_in : (d : Board) → World d.State → ℕ → ℕ → Bool
clock_in d w byte look = (levels_at d w (SentFrame byte) (260 + look)).t0

abbrev pub data_in : (d : Board) → World d.State → ℕ → Bool
data_in d w k = (levels_at d w ReceivedFrame (306 + 32 * k)).t1

-- the power-on test has ended, and the look at the clock, at offset 256, finds it high
abbrev pub IsOpen : (d : Board) → World d.State → Type 0
IsOpen d w = (tests_in d w ≡ true) × (clock_now d w ≡ true)

-- so does that at data, at offset 258, and a byte is offered
abbrev pub Offers : (d : Board) → World d.State → ℕ → Type 0
Offers d w byte = IsOpen d w × (data_now d w ≡ true) × (offer (shown_by w.cpu.ram) ≡ Some byte)

-- the frame of a tick, and its meeting, by what the looks find. The byte offered is sent if the clock is high at the
-- looks of its frame; it is cut at the first that finds the clock low. A byte is received
-- if the clock is high, and data low at both looks at it: that of the first eight looks at data, right if the ninth is its parity
abbrev pub Finds : (d : Board) → World d.State → Frame → Meeting → Type 0
Finds d w NoFrame meeting = IsFrameless d w meeting
Finds d w (SentFrame byte) meeting =
    (meeting ≡ Sent) × Offers d w byte × ((look : ℕ) → IsLook look → clock_in d w byte look ≡ true)
Finds d w (CutFrame byte look) meeting =
    (meeting ≡ Cut) × Offers d w byte × IsLook look
    × ((earlier : ℕ) → IsLook earlier → earlier < look → clock_in d w byte earlier ≡ true) × (clock_in d w byte look ≡ false)
Finds d w ReceivedFrame meeting =
    (meeting ≡ Got (byte_in (data_in d w)) (right_in (data_in d w))) × IsOpen d w × (data_now d w ≡ false)
    × (data_again d w ≡ false)

-- in the queue that data memory shows no code is broken: after F0 is its code
abbrev pub HasWholeCodes : List ℕ → Type 0
HasWholeCodes ram = whole (shown_by ram).queue.break_started (shown_by ram).queue.bytes ≡ true

-- such a tick: the keyboard goes on by the meeting and the edges that the columns showed, and the board by the latch of
-- a tick with the frame, cycle by cycle; at the next start port 1 selects no column
pub record Does (d : Board) (bytes : List ℕ) (frame : Frame) (meeting : Meeting) (w v : World d.State) : Type 0 where
  pub goes_on : GoesOn d bytes meeting w v
  pub codes : HasWholeCodes v.cpu.ram
  pub board : (n : ℕ) → v.cycle ≡ w.cycle + n → v.board ≡ board_at d w frame n
  pub column : v.cpu.p1 ≡ 44

-- a program whose every tick does so, whatever the pins show, if four edges are seen at most; and in each cycle of
-- the tick port 1 selects its column
abbrev pub KeepsTicks : List ℕ → Type 0
KeepsTicks bytes = (pins : ℕ → ℕ → ℕ → ℕ → Pins) (tick : ℕ → ℕ → ℕ → ℕ)
    → ((p1 p2 c s : ℕ) → (pins p1 p2 c s).bus < 256)
    → (w : World ℕ) → IsStarted w.cpu → IsRepeating bytes w.cpu.ram → HasWholeCodes w.cpu.ram
    → length (edges_now bytes (numbered pins tick) w) ≤ 4
    → (frame : Frame) (meeting : Meeting) → Finds (numbered pins tick) w frame meeting
    → Tick (numbered pins tick) TICK bytes w (Does (numbered pins tick) bytes frame meeting w)
    × Selects (numbered pins tick) TICK bytes w (λ c. column_latch w.cpu.p1 (c - w.cycle))

-- no code of an image is the prefix of a break
abbrev pub HasNoPrefix : List ℕ → Type 0
HasNoPrefix bytes = (on_fn : Bool) (place : ℕ) → place < 96 → (image_code bytes on_fn place == 0xf0) ≡ false

-- every image that has the kernel's bytes outside the layout's tables is one
abbrev pub TickLaw : Type 0
TickLaw = (bytes : List ℕ) → HasKernel bytes → IsSilentAlike bytes → HasNoPrefix bytes → All IsByte bytes
    → KeepsTicks bytes
