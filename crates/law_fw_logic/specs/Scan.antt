-- What a tick reads, keeps and puts. A tick is described from its start's state to that of the next start.
use Rattle.std.specs.Prelude.{ℕ, ◌+◌, ◌-◌, ◌*◌}
use Rattle.fw_kernel.specs.declared.cells.TheConstants.{LIGHTS}
use Rattle.mcs48_core.specs.declared.levels.Pins.{Pins}
use Rattle.joint_run.specs.Run.{Board, World, after_cycles}

-- the levels so many cycles past a cycle, if both latches stay as they are meanwhile
abbrev pub levels_in : (d : Board) → ℕ → ℕ → ℕ → d.State → ℕ → Pins
levels_in d cycle p1 p2 board n = d.pins p1 p2 (cycle + n) (after_cycles n cycle (d.cycle p2) board)

-- the keys of column c that are down, to a reading that begins in a cycle and reads one column in each 16 cycles
abbrev pub downs : (d : Board) → ℕ → ℕ → d.State → ℕ → ℕ
downs d cycle p2 board c = 255 - (levels_in d cycle (32 + c) p2 board (16 * c)).bus

-- the board so many cycles past a tick's start, if the latch of port 2 stays as it is
abbrev pub in_tick : (d : Board) → World d.State → ℕ → d.State
in_tick d w n = after_cycles n w.cycle (d.cycle w.cpu.p2) w.board

-- the byte in which the lights are, at bits 4 to 6; a latch bit 0 lights
abbrev pub lights_cell : ℕ
lights_cell = LIGHTS
