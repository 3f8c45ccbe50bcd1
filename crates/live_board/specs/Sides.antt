-- Which side pulls which wire.
use Rattle.ctl_wire.specs.Wire.{drive}
use Rattle.joint_run.specs.Joint.{Beside, latch_of}
use Rattle.joint_run.specs.Run.{World}
use Rattle.joint_run.specs.declared.machine.Machine.{Machine}
use Rattle.live_board.specs.declared.sides.Sides.{Sides}

-- what each side drives: the keyboard by its port 2, and the controller by the state of its link
abbrev pub sides_of : Machine → Sides
sides_of m = record { keyboard = latch_of m.mcu.p2; controller = drive m.outside.desk.port.link }

-- the same in a state of the run
abbrev pub sides_in : World Beside → Sides
sides_in w = record { keyboard = latch_of w.cpu.p2; controller = drive w.board.pc.side.port.link }
