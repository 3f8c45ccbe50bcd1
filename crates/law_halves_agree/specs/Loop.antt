-- A loop that joins a keyboard and a controller, each by its own calls, with a host beside the controller.
use Rattle.std.specs.Prelude.{ℕ, zero, suc, ◌+◌, Bool, false, List, [], ◌++◌, Some, None, slice_get, if◌then◌else◌}
use Rattle.std.specs.declared.option.Option.{Option}
use Rattle.board_terms.specs.declared.event.Edge.{Edge}
use Rattle.board_terms.specs.declared.event.HostEvent.{HostEvent}
use Rattle.board_terms.specs.declared.lines.Lines.{Lines}
use Rattle.chip_core.specs.Chips.{after, cycles_of, next_of}
use Rattle.ctl_half.specs.Controllers.{CtlState, at_start, looked, settles, settling}
use Rattle.ctl_wire.specs.Wire.{drive}
use Rattle.ctl_wire.specs.Wires.{joined}
use Rattle.host_turn.specs.declared.stamped.Stamped.{Stamped}
use Rattle.host_turn.specs.Cycle.{said_of}
use Rattle.host_turn.specs.Host.{Host, Turn, is_done, turn}
use Rattle.host_turn.specs.Run.{lights_said, stamped}
use Rattle.int09.specs.Bios.{State, start}
use Rattle.joint_run.specs.Joint.{keys_at, latch_of, lights_of}
use Rattle.joint_run.specs.Run.{after_cycles}
use Rattle.kbd_half.specs.declared.keyboard.KbdHalf.{KbdHalf}
use Rattle.kbd_half.specs.Keyboards.{keyboard_on, pins_at, with_chip}
use Rattle.mcs48_core.specs.Step.{Stepped}

-- the controller, and the host beside it: whether it has masked the interrupt, INT 09h, how many of its events are
-- done, what was said so far, and the lights that were seen last
pub record PcSide : Type 0 where
  pub ctl : CtlState
  pub masked : Bool
  pub bios : State
  pub done : ℕ
  pub log : List Stamped
  pub shown : ℕ

-- the keyboard, the PC's side, and how many cycles are done
pub record Joined : Type 0 where
  pub kbd : KbdHalf
  pub pc : PcSide
  pub cycle : ℕ

-- what the host sees of the controller, and the controller after the host's turn
abbrev pub host_at : CtlState → PcSide → Host
host_at c s = record { core = c.port.core; masked = s.masked; bios = s.bios; flip = c.port.flip }

abbrev pub with_host : Host → CtlState → CtlState
with_host h c = record c { port = record c.port { core = h.core; flip = h.flip } }

-- the wires: what the keyboard's latch of port 2 drives, with what the controller drives since its last cycle
abbrev pub wires_at : ℕ → CtlState → Lines
wires_at p2 c = joined (latch_of p2) (drive c.port.link)

-- after the host's turn the controller settles; changed lights were said before
abbrev pub settled_in : ℕ → ℕ → Bool → Turn → CtlState → PcSide → PcSide
settled_in now lights done t c s = record {
  ctl = settles now (with_host t.host c);
  masked = t.host.masked;
  bios = t.host.bios;
  done = if done then s.done + 1 else s.done;
  log = (s.log ++ lights_said now s.shown lights)
      ++ stamped now (t.items ++ said_of (settling now (with_host t.host c)).did);
  shown = lights;
}

-- the host's turn, after the controller's look
abbrev pub host_in : List HostEvent → ℕ → ℕ → CtlState → PcSide → PcSide
host_in events now lights c s =
    settled_in now lights (is_done now (slice_get events s.done) c.port.core)
    (turn now c.port.filled (slice_get events s.done) (host_at c s)) c s

-- a cycle: the controller looks at the wires, the host has its turn, and the controller settles
abbrev pub loop_cycle : List HostEvent → ℕ → ℕ → PcSide → PcSide
loop_cycle events p2 now s = host_in events now (lights_of p2) (looked now (wires_at p2 s.ctl) s.ctl) s

-- the keyboard's step is made, and its cycles pass; none if the keyboard is stuck
abbrev pub loop_after : List HostEvent → Option Stepped → Joined → Option Joined
loop_after events None j = None
loop_after events (Some n) j = Some (record {
  kbd = with_chip (after (Some n) j.kbd.chip) j.kbd;
  pc = after_cycles (cycles_of (Some n)) j.cycle (loop_cycle events n.cpu.p2) j.pc;
  cycle = j.cycle + cycles_of (Some n);
})

-- a turn of the loop: a step of the keyboard at the levels of the wires, and its cycles
abbrev pub loop_step : List HostEvent → Joined → Option Joined
loop_step events j =
    loop_after events
    (next_of (pins_at (wires_at j.kbd.chip.mcu.p2 j.pc.ctl) j.kbd.matrix j.kbd.chip.mcu.p1) j.kbd.chip) j

-- just switched on with this program; the processor's data memory, A and T hold this byte
abbrev pub switched_on : ℕ → List ℕ → Joined
switched_on fill program = record {
  kbd = keyboard_on fill program;
  pc = record { ctl = at_start; masked = false; bios = start; done = 0; log = []; shown = 0 };
  cycle = 0;
}

-- before a step the edges of a history are made whose stamp is reached
abbrev pub keys_turned : List Edge → Joined → Joined
keys_turned edges j = record j { kbd = record j.kbd { matrix = keys_at edges j.cycle } }

abbrev pub loop_on : List Edge → List HostEvent → Option Joined → Option Joined
loop_on edges events None = None
loop_on edges events (Some j) = loop_step events (keys_turned edges j)

-- the loop after so many turns, if it isn't stuck
abbrev pub loop_at : List Edge → List HostEvent → Joined → ℕ → Option Joined
loop_at edges events from zero = Some from
loop_at edges events from (suc n) = loop_on edges events (loop_at edges events from n)
