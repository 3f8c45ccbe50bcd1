-- The keyboard's processor on its board, joined to the controller, the host and INT 09h.
use Rattle.std.specs.Prelude.{ℕ, ◌+◌, Bool, true, List, if◌then◌else◌}
use Rattle.std.specs.List.{filter}
use Rattle.board_terms.specs.declared.event.Edge.{Edge}
use Rattle.board_terms.specs.declared.event.HostEvent.{HostEvent}
use Rattle.board_terms.specs.declared.lines.Lines.{Lines}
use Rattle.board_terms.specs.Edges.{is_made}
use Rattle.board_terms.specs.Matrix.{all_up, turned_by, rows_of}
use Rattle.host_turn.specs.declared.stamped.Stamped.{Stamped}
use Rattle.host_turn.specs.Run.{says_lights}
use Rattle.mcs48_core.specs.declared.levels.Pins.{Pins}
use Rattle.mcs48_core.specs.Cpu.{Cpu}
use Rattle.mcs48_core.specs.Reset.{reset_cpu, reset_in}
use Rattle.bits.specs.Bits.{bit}
use Rattle.ctl_wire.specs.Wires.{Pc, pc_at_start, wires, board_cycle}
use Rattle.joint_run.specs.Run.{Board, World}

-- what is beside the processor: the PC's side of the wires, and the lights that the keyboard shows
pub record Beside : Type 0 where
  pub pc : Pc
  pub shown : ℕ

-- bits 0 and 1 of port 2 drive the clock and the data wire
abbrev pub latch_of : ℕ → Lines
latch_of p2 = record { clk = bit 0 p2; dat = bit 1 p2 }

-- bits 4, 5 and 6 of port 2 light Scroll, Num and Caps if they are 0; in the lights' value these are bits 0, 1, 2
abbrev pub lights_of : ℕ → ℕ
lights_of p2 = (if bit 4 p2 then 0 else 1) + (if bit 5 p2 then 0 else 2) + (if bit 6 p2 then 0 else 4)

-- the keys that are down in a step that begins at a cycle: the edges are made whose stamp is reached, in their order
abbrev pub keys_at : List Edge → ℕ → List Bool
keys_at edges cycle = turned_by (filter (is_made cycle) edges) all_up

-- the levels that the processor reads, by the keys that are down: the rows of the column that the low nibble of port 1
-- selects, and the wires as they were after the last cycle. All other pins are high
abbrev pub pins_by : List Bool → ℕ → ℕ → Beside → Pins
pins_by keys p1 p2 s =
    let line : Lines = wires (latch_of p2) s.pc in
    record { p1 = 0xff; p2 = 0xff; bus = rows_of keys p1; t0 = line.clk; t1 = line.dat; int_pin = true }

-- the levels that the processor reads in a step that begins at a cycle, under the edges of a history
unfoldable pub joint_pins : List Edge → ℕ → ℕ → ℕ → Beside → Pins
joint_pins edges p1 p2 cycle s = pins_by (keys_at edges cycle) p1 p2 s

-- a cycle: lights that changed are said first
unfoldable pub joint_cycle : List HostEvent → ℕ → ℕ → Beside → Beside
joint_cycle events p2 now s = record {
  pc = board_cycle events now (latch_of p2) (record s.pc { side = says_lights now s.shown (lights_of p2) s.pc.side });
  shown = lights_of p2;
}

-- the board under these edges of keys and these events of the host
abbrev pub joint_board : List Edge → List HostEvent → Board
joint_board edges events = record { State = Beside; pins = joint_pins edges; cycle = joint_cycle events }

-- what is beside the processor at power-on
abbrev pub beside_at_start : Beside
beside_at_start = record { pc = pc_at_start; shown = 0 }

-- power-on: the first state of the joint run, with cleared memory
abbrev pub joint_start : World Beside
joint_start = record { cpu = reset_cpu; board = beside_at_start; cycle = 0 }

-- the processor of a part that held anything when it was switched on, after its reset: what reset leaves it still holds,
-- and it may have an interrupt marked as in service
abbrev pub powered : Cpu → Cpu
powered held = record (reset_in held) { svc = held.svc }

-- the first state of the run of such a part
abbrev pub joint_start_of : Cpu → World Beside
joint_start_of held = record { cpu = powered held; board = beside_at_start; cycle = 0 }

-- what was said so far, in order
abbrev pub log_of : Beside → List Stamped
log_of s = s.pc.side.log
