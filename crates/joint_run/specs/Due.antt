-- The joint machine, and its step by the events that are handed in.
use Rattle.std.specs.Prelude.{◌≡◌, ℕ, ◌+◌, ◌%◌, Bool, true, List, [], ◌∷◌, length, slice_index, if◌then◌else◌}
use Rattle.std.specs.Prelude.{Some, None, Ok, Err}
use Rattle.std.specs.declared.option.Option.{Option}
use Rattle.std.specs.declared.result.Result.{Result}
use Rattle.board_terms.specs.declared.event.Edge.{Edge}
use Rattle.board_terms.specs.declared.event.HostEvent.{HostEvent}
use Rattle.board_terms.specs.declared.lines.Lines.{Lines}
use Rattle.board_terms.specs.Edges.{is_made}
use Rattle.board_terms.specs.Matrix.{all_up, turned_by}
use Rattle.ctl_wire.specs.declared.wire.Wire.{Wire}
use Rattle.host_turn.specs.declared.stamped.Stamped.{Stamped}
use Rattle.host_turn.specs.Cycle.{desk_at_start}
use Rattle.int09.specs.Bios.{start}
use Rattle.mcs48_core.specs.Cpu.{Cpu}
use Rattle.mcs48_core.specs.Reset.{reset_cpu}
use Rattle.mcs48_core.specs.declared.stepping.Stuck.{Stuck}
use Rattle.joint_run.specs.declared.due.Due.{Due}
use Rattle.joint_run.specs.declared.due.Seen.{Seen}
use Rattle.joint_run.specs.declared.machine.Machine.{Machine}
use Rattle.joint_run.specs.declared.outside.Outside.{Outside}
use Rattle.ctl_wire.specs.Wires.{wires}
use Rattle.joint_run.specs.Run.{Board, World, after_cycles, joint_step}
use Rattle.joint_run.specs.Joint.{Beside, latch_of, pins_by, joint_cycle, powered}

-- what is outside the processor at power-on
abbrev pub outside_at_start : Outside
outside_at_start = record {
  desk = desk_at_start Wire start;
  clock = true;
  shown = 0;
}

-- the machine of a part at power-on that held this when it was switched on, with this program
abbrev pub powered_on_from : Cpu → List ℕ → Machine
powered_on_from held image = record {
  image = record { bytes = image };
  matrix = all_up;
  mcu = powered held;
  outside = outside_at_start;
  cycle = 0;
  steps = 0;
}

-- with cleared memory
abbrev pub powered_on : List ℕ → Machine
powered_on image = powered_on_from reset_cpu image

-- what is outside the processor as a state of the joint run, with so many events of the host done and this said
abbrev pub beside : Outside → ℕ → List Stamped → Beside
beside o done log = record {
  pc = record {
    side = record { port = o.desk.port; masked = o.desk.masked; bios = o.desk.bios; done = done; log = log };
    clock = o.clock;
  };
  shown = o.shown;
}

-- what is outside in a state of the run: all but what is done and said
abbrev pub outside_of : Beside → Outside
outside_of s = record {
  desk = record { port = s.pc.side.port; masked = s.pc.side.masked; bios = s.pc.side.bios };
  clock = s.pc.clock;
  shown = s.shown;
}

-- what is outside after so many cycles, with what is done and said in them
abbrev pub passed : ℕ → ℕ → ℕ → List HostEvent → Outside → Beside
passed cycles now p2 events o = after_cycles cycles now (joint_cycle events p2) (beside o 0 [])

-- the cycles of a step have passed: what is outside then, what was said, and the answer, which is how many of the
-- host's events were done, and the wires after the first and after the last cycle
pub record HasPassed (cycles now p2 : ℕ) (events : List HostEvent) (old new : Outside) (said : List Stamped)
    (answer : ℕ × Lines × Lines) : Type 0 where
  pub outside : new ≡ outside_of (passed cycles now p2 events old)
  pub items : said ≡ (passed cycles now p2 events old).pc.side.log
  pub done : answer.0 ≡ (passed cycles now p2 events old).pc.side.done
  pub first : answer.1 ≡ wires (latch_of p2) (passed 1 now p2 events old).pc
  pub last : answer.2 ≡ wires (latch_of p2) (passed cycles now p2 events old).pc

-- the edges that are made in a step: the first ones, up to one whose stamp isn't reached
abbrev pub made_first : ℕ → List Edge → List Edge
made_first cycle [] = []
made_first cycle (e ∷ es) = if is_made cycle e then e ∷ made_first cycle es else []

-- the keys that are down in the step to come
abbrev pub keys_in_step : Due → Machine → List Bool
keys_in_step due m = turned_by (made_first m.cycle due.edges.items) m.matrix

-- the board in the step to come: its matrix, and the events of the host from the next one on
abbrev pub due_board : Due → Machine → Board
due_board due m = record {
  State = Beside;
  pins = λ p1 p2 cycle s. pins_by (keys_in_step due m) p1 p2 s;
  cycle = joint_cycle due.host.items;
}

-- the machine as a state of the run, of whose events and items none are counted yet
abbrev pub world_of : Machine → World Beside
world_of m = record { cpu = m.mcu; board = beside m.outside 0 []; cycle = m.cycle }

-- the step: the joint step on that board
abbrev pub due_step : Due → Machine → Option (World Beside)
due_step due m = joint_step (due_board due m) m.image.bytes (world_of m)

-- the machine after a step that comes to this state
abbrev pub machine_after : Due → Machine → World Beside → Machine
machine_after due m w = record {
  image = m.image;
  matrix = keys_in_step due m;
  mcu = w.cpu;
  outside = outside_of w.board;
  cycle = w.cycle;
  steps = m.steps + 1;
}

-- the wires after a step's first cycle and after its last one
abbrev pub lines_in_step : Due → Machine → World Beside → List Lines
lines_in_step due m w =
    wires (latch_of w.cpu.p2) (passed 1 m.cycle w.cpu.p2 due.host.items m.outside).pc
    ∷ wires (latch_of w.cpu.p2) w.board.pc ∷ []

-- what a step that comes to this state answers: its cycles, how many edges were made and events of the host done, what
-- was said, and the wires
pub record IsSeen (due : Due) (old : Machine) (w : World Beside) (seen : Seen) : Type 0 where
  pub cycles : old.cycle + seen.cycles ≡ w.cycle
  pub edges : seen.edges ≡ length (made_first old.cycle due.edges.items)
  pub host : seen.host ≡ w.board.pc.side.done
  pub items : seen.items.items ≡ w.board.pc.side.log
  pub lines : seen.lines ≡ lines_in_step due old w

-- the state that a step of so many cycles comes to, of which the processor's part is made and the cycles are to pass
abbrev pub ended : ℕ → Due → Machine → World Beside
ended cycles due m = record {
  cpu = m.mcu;
  board = passed cycles m.cycle m.mcu.p2 due.host.items m.outside;
  cycle = m.cycle + cycles;
}

-- a call of `step`: if the processor is stuck the counter and the byte are answered, and nothing has changed
abbrev pub IsJointStep : Due → Machine → Option (World Beside) → Result Seen Stuck → Machine → Type 0
IsJointStep due old (Some w) (Ok seen) new = (new ≡ machine_after due old w) × IsSeen due old w seen
IsJointStep due old (Some w) (Err stuck) new = ⊥
IsJointStep due old None (Ok seen) new = ⊥
IsJointStep due old None (Err stuck) new =
    (stuck ≡ record { pc = old.mcu.pc; byte = slice_index old.image.bytes (old.mcu.pc % 2048) }) × (new ≡ old)

-- what a step that is reported in a place of the caller's answers
abbrev pub with_seen : Result (Unit {0}) Stuck → Seen → Result Seen Stuck
with_seen (Ok done) seen = Ok seen
with_seen (Err stuck) seen = Err stuck

-- nothing was done and said yet
abbrev pub nothing_seen : Seen
nothing_seen = record {
  cycles = 0;
  edges = 0;
  host = 0;
  items = record { items = [] };
  lines = record { clk = true; dat = true } ∷ record { clk = true; dat = true } ∷ [];
}
