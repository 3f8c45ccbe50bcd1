-- A tick from its start: its columns, and the next start if its work ends in time.
use Rattle.std.specs.Prelude.{◌≡◌, ◌≤◌, ◌<◌, ℕ, suc, ◌+◌, ◌-◌, ◌*◌, true, false, List, length, slice_index, bit_xor}
use Rattle.board_terms.specs.Cadence.{IsNear}
use Rattle.mcs48_core.specs.declared.levels.Pins.{Pins}
use Rattle.mcs48_core.specs.declared.processor.Count.TheVariants.{Timer}
use Rattle.mcs48_core.specs.Cpu.{Cpu}
use Rattle.fw_kernel.specs.declared.cells.TheConstants.{HELD, CHANGED}
use Rattle.fw_kernel.specs.declared.labels.TheConstants.{TICK, WAIT, OFFER, DONE}
use Rattle.fw_kernel.specs.Places.{HasKernel}
use Rattle.joint_run.specs.Run.{Board, World, after_cycles}
use Rattle.joint_run.specs.Starts.{Comes, Tick}
use Rattle.law_fw_logic.specs.Blocks.{IsAt, is_read}
use Rattle.law_fw_logic.specs.Boards.{numbered}
use Rattle.law_fw_logic.specs.Scan.{in_tick}

-- a tick start: the timer's interrupt has just been entered, at most a cycle late, from the main program at WAIT with
-- clear flags; the counter's low byte and the status are on the stack
pub record IsEntered (m : Cpu) : Type 0 where
  pub pc : m.pc ≡ TICK
  pub bank : m.rb ≡ true
  pub depth : m.sp ≡ 1
  pub lower : m.mb ≡ false
  pub external : m.ext_on ≡ false
  pub enabled : m.tim_on ≡ true
  pub serves : m.svc ≡ true
  pub carry : m.c ≡ false
  pub half : m.ac ≡ false
  pub flag : m.f0 ≡ false
  pub run : m.run ≡ Timer
  pub t : m.t ≡ 0
  pub early : 2 ≤ m.pre
  pub late : m.pre ≤ 3
  pub clear : m.rq ≡ false
  pub back : slice_index m.ram 8 ≡ WAIT
  pub status : slice_index m.ram 9 ≡ 16
  pub memory : length m.ram ≡ 128

-- tick n starts as many cycles late as the prescaler says, less two
abbrev pub IsOnTime : {S : Type 0} → ℕ → World S → Type 0
IsOnTime n w = w.cycle + 2 ≡ 4096 + 2048 * n + w.cpu.pre

-- the keys of column c that are down, as they are read at offset 16 + 16 c of a tick
abbrev pub column_read : (d : Board) → World d.State → ℕ → ℕ
column_read d w c = 255 - (d.pins (32 + c) w.cpu.p2 (w.cycle + (16 + 16 * c)) (in_tick d w (16 + 16 * c))).bus

-- the tick's head and its columns: 208 cycles from the start. HELD is what is down, CHANGED what differs from before
pub record ReadsTick (d : Board) (w e : World d.State) : Type 0 where
  pub to : IsAt OFFER e.cpu
  pub cycle : e.cycle ≡ w.cycle + 208
  pub board : e.board ≡ in_tick d w 208
  pub p2 : e.cpu.p2 ≡ w.cpu.p2
  pub held : (c : ℕ) → c < 12 → slice_index e.cpu.ram (HELD + c) ≡ column_read d w c
  pub changed : (c : ℕ) → c < 12
      → slice_index e.cpu.ram (CHANGED + c) ≡ bit_xor (slice_index w.cpu.ram (HELD + c)) (column_read d w c)
  pub others : (i : ℕ) → is_read i ≡ false → slice_index e.cpu.ram i ≡ slice_index w.cpu.ram i

-- the work of a tick has come to its end by offset 2,040: RETR is next, in the service that the start entered, with the
-- way back as it was; and the timer, into which the head wrote C0, has counted all the time, with the prescaler
pub record IsDone {S : Type 0} (w e : World S) : Type 0 where
  pub pc : e.cpu.pc ≡ DONE
  pub bank : e.cpu.rb ≡ true
  pub depth : e.cpu.sp ≡ 1
  pub lower : e.cpu.mb ≡ false
  pub external : e.cpu.ext_on ≡ false
  pub enabled : e.cpu.tim_on ≡ true
  pub serves : e.cpu.svc ≡ true
  pub run : e.cpu.run ≡ Timer
  pub clear : e.cpu.rq ≡ false
  pub t : e.cpu.t < 256
  pub pre : e.cpu.pre < 32
  pub counted : 32 * e.cpu.t + e.cpu.pre + w.cycle ≡ 32 * 0xc0 + w.cpu.pre + e.cycle
  pub back : slice_index e.cpu.ram 8 ≡ WAIT
  pub status : slice_index e.cpu.ram 9 ≡ 16
  pub memory : length e.cpu.ram ≡ 128
  pub afterwards : w.cycle ≤ e.cycle
  pub in_time : e.cycle ≤ w.cycle + 2040

-- the next tick start: 2,048 cycles later, but for how late both are, so it keeps the cadence if this one does; data
-- memory and both latches are as they were at the work's end, and the board has gone on
pub record IsNext (d : Board) (w e v : World d.State) : Type 0 where
  pub entered : IsEntered v.cpu
  pub time : v.cycle + w.cpu.pre ≡ w.cycle + 2048 + v.cpu.pre
  pub cadence : (n : ℕ) → IsOnTime n w → IsOnTime (suc n) v × IsNear (suc n) (v.cycle - 4096)
  pub memory : v.cpu.ram ≡ e.cpu.ram
  pub p1 : v.cpu.p1 ≡ e.cpu.p1
  pub p2 : v.cpu.p2 ≡ e.cpu.p2
  pub board : (n : ℕ) → v.cycle ≡ e.cycle + n → v.board ≡ after_cycles n e.cycle (d.cycle e.cpu.p2) e.board

-- from each tick start the columns are read at their offsets
abbrev pub ReadingLaw : Type 0
ReadingLaw = (bytes : List ℕ) → HasKernel bytes
    → (pins : ℕ → ℕ → ℕ → ℕ → Pins) (tick : ℕ → ℕ → ℕ → ℕ) (w : World ℕ) → IsEntered w.cpu
    → Tick (numbered pins tick) TICK bytes w (ReadsTick (numbered pins tick) w)

-- and if its work ends in time the next start comes
abbrev pub NextLaw : Type 0
NextLaw = (bytes : List ℕ) → HasKernel bytes
    → (pins : ℕ → ℕ → ℕ → ℕ → Pins) (tick : ℕ → ℕ → ℕ → ℕ) (w e : World ℕ) → IsEntered w.cpu → IsDone w e
    → Comes (numbered pins tick) TICK bytes e (IsNext (numbered pins tick) w e)
