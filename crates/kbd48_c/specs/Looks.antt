-- What C sees of a keyboard without a step.
use Rattle.std.specs.Prelude.{ℕ, ℤ, nat_lt, if◌then◌else◌, slice_index}
use Rattle.board_terms.specs.Matrix.{rows_of}
use Rattle.board_terms.specs.declared.lines.Lines.{Lines}
use Rattle.joint_run.specs.Cycle.{outside_wires}
use Rattle.joint_run.specs.declared.machine.Machine.{Machine}
use Rattle.mcs48_core.specs.declared.processor.Count.{Count}
use Rattle.mcs48_core.specs.declared.processor.Count.TheVariants.{Off, Timer, Counter}
use Rattle.live_board.specs.Calls.{place_of}
use Rattle.live_board.specs.declared.parts.Parts.{Parts as Keyboard}
use Rattle.kbd48_c.specs.Statuses.{done, no_such_cell, no_such_place}
use Rattle.kbd48_c.specs.declared.looks.Processor.{Processor}

-- how the timer runs, as a number
abbrev pub count_of : Count → ℕ
count_of Off = 0
count_of Timer = 1
count_of Counter = 2

-- the processor of a machine, with the byte of the program at its counter
abbrev pub processor_of : Machine → Processor
processor_of m = record {
  counter = m.mcu.pc;
  byte = (place_of m).byte;
  a = m.mcu.a;
  carry = m.mcu.c;
  half_carry = m.mcu.ac;
  f0 = m.mcu.f0;
  f1 = m.mcu.f1;
  register_bank = m.mcu.rb;
  memory_bank = m.mcu.mb;
  stack = m.mcu.sp;
  t = m.mcu.t;
  prescaler = m.mcu.pre;
  counts = count_of m.mcu.run;
  timer_flag = m.mcu.tf;
  external_on = m.mcu.ext_on;
  timer_on = m.mcu.tim_on;
  request = m.mcu.rq;
  service = m.mcu.svc;
  p1 = m.mcu.p1;
  p2 = m.mcu.p2;
  bus = m.mcu.bus;
}

-- a cell of data memory, of which there are 128, or what was there
abbrev pub cell_after : ℕ → Keyboard → ℕ → ℕ
cell_after number k before = if nat_lt number 128 then slice_index k.joint.mcu.ram number else before

abbrev pub cell_status : ℕ → ℤ
cell_status number = if nat_lt number 128 then done else no_such_cell

-- the rows of a column, of which there are 12, or what was there
abbrev pub column_after : ℕ → Keyboard → ℕ → ℕ
column_after number k before = if nat_lt number 12 then rows_of k.joint.matrix number else before

abbrev pub column_status : ℕ → ℤ
column_status number = if nat_lt number 12 then done else no_such_place

-- the two wires, as the keyboard's port 2 and the controller's link pull them
abbrev pub wires_of : Keyboard → Lines
wires_of k = outside_wires k.joint.mcu.p2 k.joint.outside
