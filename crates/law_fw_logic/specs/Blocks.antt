-- The blocks of a tick's work before its frame: the head, the columns, the lights and the looks.
use Rattle.std.specs.Prelude.{◌≡◌, ◌≤◌, ◌<◌, ◌⊎◌, ℕ, ◌+◌, ◌-◌, Bool, true, false, ◌&&◌, ◌||◌, ◌==◌, nat_le, nat_lt}
use Rattle.std.specs.Prelude.{List, length, slice_index, bit_and, bit_xor}
use Rattle.mcs48_core.specs.declared.levels.Pins.{Pins}
use Rattle.mcs48_core.specs.Cpu.{Cpu}
use Rattle.mcs48_core.specs.declared.processor.Count.TheVariants.{Timer}
use Rattle.fw_kernel.specs.declared.cells.TheConstants.{R0, R1, R2, R3, R4, R6, HELD, CHANGED}
use Rattle.fw_kernel.specs.declared.labels.TheConstants.{TICK, READ, OFFER, LAMPS, TESTED, LOOKS, SEND, GOT, PULLED}
use Rattle.fw_kernel.specs.Places.{HasKernel}
use Rattle.joint_run.specs.Run.{Board, World, after_cycles}
use Rattle.joint_run.specs.Starts.{Comes, Tick}
use Rattle.law_fw_logic.specs.Boards.{numbered}
use Rattle.law_fw_logic.specs.Scan.{levels_in, downs, in_tick, lights_cell}

-- a processor at work at a place: register bank 1, the lower half of the program, and no interrupt can come, since
-- both are off or one is in service. The stack pointer is any
pub record IsAt (place : ℕ) (m : Cpu) : Type 0 where
  pub pc : m.pc ≡ place
  pub bank : m.rb ≡ true
  pub lower : m.mb ≡ false
  pub free : (m.svc ≡ true) ⊎ ((m.ext_on ≡ false) × (m.tim_on ≡ false))
  pub memory : length m.ram ≡ 128

-- R0, R1 and R3
abbrev pub is_counting : ℕ → Bool
is_counting i = (i == R0) || (i == R1) || (i == R3)

-- the tick's head in 16 cycles: the timer is written, and the prescaler goes on; the first column is selected
pub record Heads (d : Board) (w e : World d.State) : Type 0 where
  pub to : IsAt READ e.cpu
  pub cycle : e.cycle ≡ w.cycle + 16
  pub board : e.board ≡ in_tick d w 16
  pub t : e.cpu.t ≡ 192
  pub pre : e.cpu.pre ≡ w.cpu.pre + 16
  pub column : e.cpu.p1 ≡ 32
  pub p2 : e.cpu.p2 ≡ w.cpu.p2
  pub f1 : e.cpu.f1 ≡ w.cpu.f1
  pub r0 : slice_index e.cpu.ram R0 ≡ HELD
  pub r1 : slice_index e.cpu.ram R1 ≡ CHANGED
  pub r3 : slice_index e.cpu.ram R3 ≡ 12
  pub others : (i : ℕ) → is_counting i ≡ false → slice_index e.cpu.ram i ≡ slice_index w.cpu.ram i

-- the reading's registers R0, R1 and R3, HELD and CHANGED
abbrev pub is_read : ℕ → Bool
is_read i = (i == R0) || (i == R1) || (i == R3) || (nat_le HELD i && nat_lt i (HELD + 12))
    || (nat_le CHANGED i && nat_lt i (CHANGED + 12))

-- the columns in 192 cycles
pub record ReadsColumns (d : Board) (w e : World d.State) : Type 0 where
  pub to : IsAt OFFER e.cpu
  pub cycle : e.cycle ≡ w.cycle + 192
  pub board : e.board ≡ in_tick d w 192
  pub p2 : e.cpu.p2 ≡ w.cpu.p2
  pub f1 : e.cpu.f1 ≡ w.cpu.f1
  pub held : (c : ℕ) → c < 12 → slice_index e.cpu.ram (HELD + c) ≡ downs d w.cycle w.cpu.p2 w.board c
  pub changed : (c : ℕ) → c < 12
      → slice_index e.cpu.ram (CHANGED + c)
      ≡ bit_xor (slice_index w.cpu.ram (HELD + c)) (slice_index e.cpu.ram (HELD + c))
  pub others : (i : ℕ) → is_read i ≡ false → slice_index e.cpu.ram i ≡ slice_index w.cpu.ram i

-- the lights in six cycles; the latch is put in the fifth
pub record PutsLights (d : Board) (w e : World d.State) : Type 0 where
  pub to : IsAt TESTED e.cpu
  pub cycle : e.cycle ≡ w.cycle + 6
  pub p1 : e.cpu.p1 ≡ w.cpu.p1
  pub p2 : e.cpu.p2 ≡ 255 - slice_index w.cpu.ram lights_cell
  pub f1 : e.cpu.f1 ≡ w.cpu.f1
  pub board : e.board ≡ after_cycles 2 (w.cycle + 4) (d.cycle e.cpu.p2) (in_tick d w 4)
  pub others : (i : ℕ) → (i == R1) ≡ false → slice_index e.cpu.ram i ≡ slice_index w.cpu.ram i

-- the clock in cycle 16 of the looks, data in cycle 18
abbrev pub clock_seen : (d : Board) → World d.State → Bool
clock_seen d w = (levels_in d w.cycle w.cpu.p1 w.cpu.p2 w.board 16).t0

abbrev pub data_seen : (d : Board) → World d.State → Bool
data_seen d w = (levels_in d w.cycle w.cpu.p1 w.cpu.p2 w.board 18).t1

-- R0, R1, R2 and R6
abbrev pub is_looking : ℕ → Bool
is_looking i = (i == R0) || (i == R1) || (i == R2) || (i == R6)

-- where the looks go, and when they are there
abbrev pub way : Bool → Bool → ℕ
way false b = PULLED
way true false = GOT
way true true = SEND

abbrev pub way_time : Bool → ℕ
way_time true = 20
way_time false = 18

-- meanwhile R2 becomes the latch with the lights and data low, and R6 what R4 is
pub record Looks (d : Board) (w e : World d.State) : Type 0 where
  pub to : IsAt (way (clock_seen d w) (data_seen d w)) e.cpu
  pub cycle : e.cycle ≡ w.cycle + way_time (clock_seen d w)
  pub board : e.board ≡ in_tick d w (way_time (clock_seen d w))
  pub p1 : e.cpu.p1 ≡ w.cpu.p1
  pub p2 : e.cpu.p2 ≡ w.cpu.p2
  pub f1 : e.cpu.f1 ≡ w.cpu.f1
  pub r2 : slice_index e.cpu.ram R2 ≡ bit_and (255 - slice_index w.cpu.ram lights_cell) 253
  pub r6 : slice_index e.cpu.ram R6 ≡ slice_index w.cpu.ram R4
  pub others : (i : ℕ) → is_looking i ≡ false → slice_index e.cpu.ram i ≡ slice_index w.cpu.ram i

-- the head's law: it begins with the tick's instruction, while the prescaler is 15 at most
abbrev pub HeadLaw : Type 0
HeadLaw = (bytes : List ℕ) → HasKernel bytes
    → (pins : ℕ → ℕ → ℕ → ℕ → Pins) (tick : ℕ → ℕ → ℕ → ℕ) (w : World ℕ) → IsAt TICK w.cpu
    → w.cpu.run ≡ Timer → w.cpu.pre ≤ 15 → Tick (numbered pins tick) TICK bytes w (Heads (numbered pins tick) w)

-- the columns' law: R0, R1 and R3 are set, and the first column is selected
abbrev pub ColumnsLaw : Type 0
ColumnsLaw = (bytes : List ℕ) → HasKernel bytes
    → (pins : ℕ → ℕ → ℕ → ℕ → Pins) (tick : ℕ → ℕ → ℕ → ℕ) (w : World ℕ) → IsAt READ w.cpu
    → slice_index w.cpu.ram R0 ≡ HELD → slice_index w.cpu.ram R1 ≡ CHANGED → slice_index w.cpu.ram R3 ≡ 12
    → w.cpu.p1 ≡ 32
    → Comes (numbered pins tick) TICK bytes w (ReadsColumns (numbered pins tick) w)

abbrev pub LampsLaw : Type 0
LampsLaw = (bytes : List ℕ) → HasKernel bytes
    → (pins : ℕ → ℕ → ℕ → ℕ → Pins) (tick : ℕ → ℕ → ℕ → ℕ) (w : World ℕ) → IsAt LAMPS w.cpu
    → Comes (numbered pins tick) TICK bytes w (PutsLights (numbered pins tick) w)

abbrev pub LooksLaw : Type 0
LooksLaw = (bytes : List ℕ) → HasKernel bytes
    → (pins : ℕ → ℕ → ℕ → ℕ → Pins) (tick : ℕ → ℕ → ℕ → ℕ) (w : World ℕ) → IsAt LOOKS w.cpu
    → Comes (numbered pins tick) TICK bytes w (Looks (numbered pins tick) w)
