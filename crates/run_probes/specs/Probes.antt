-- A probe as its callers see it, and what it makes of a step.
use Rattle.std.specs.Prelude.{ℕ, suc, Bool, false, ◌==◌, ◌&&◌, nat_lt, List, [], ◌∷◌, slice_index}
use Rattle.std.specs.Prelude.{Some, None, if◌then◌else◌}
use Rattle.std.specs.declared.option.Option.{Option}
use Rattle.board_terms.specs.declared.lines.Lines.{Lines}
use Rattle.joint_run.specs.Cycle.{outside_wires}
use Rattle.joint_run.specs.Joint.{Beside, latch_of}
use Rattle.joint_run.specs.Run.{World}
use Rattle.joint_run.specs.declared.machine.Machine.{Machine}
use Rattle.mcs48_core.specs.Cpu.{Cpu}
use Rattle.mcs48_core.specs.Registers.{register}
use Rattle.ctl_wire.specs.Wires.{wires}
use Rattle.board_terms.specs.declared.transfer.Transfer.{Transfer}
use Rattle.run_probes.specs.declared.tally.Arms.{Arms}
use Rattle.run_probes.specs.Tallies.{Counted, noted}
use Rattle.run_probes.specs.Tallies as tally
use Rattle.run_probes.specs.Transfers.{Ear, completed, heard, is_later_than, sample, silence}

-- a probe: its kind, its arms with what it counted, and what it heard of the wires
pub record Watch : Type 0 where
  pub kind : ℕ
  pub counted : Counted
  pub ear : Ear

-- what a look sees: the processor, how many cycles are done, and the wires after the last of them
pub record Sight : Type 0 where
  pub cpu : Cpu
  pub cycle : ℕ
  pub lines : Lines

-- of a joint machine
abbrev pub sight_of : Machine → Sight
sight_of m = record { cpu = m.mcu; cycle = m.cycle; lines = outside_wires m.mcu.p2 m.outside }

-- of a state of a run
abbrev pub sight_in : World Beside → Sight
sight_in w = record { cpu = w.cpu; cycle = w.cycle; lines = wires (latch_of w.cpu.p2) w.board.pc }

-- the first kind looks at the program counter, the second at a register of the selected bank, the third at a place of
-- data memory, and the fourth listens to the wires
abbrev pub address_kind : ℕ
address_kind = 0

abbrev pub register_kind : ℕ
register_kind = 1

abbrev pub cell_kind : ℕ
cell_kind = 2

abbrev pub line_kind : ℕ
line_kind = 3

-- whether a processor's state meets arms of a kind; what lies past the registers or the memory is never met
abbrev pub met_by : ℕ → Arms → Cpu → Bool
met_by kind arms m =
    if kind == address_kind then m.pc == arms.a
    else (if kind == register_kind then nat_lt arms.a 8 && register arms.a m == arms.b
    else (if kind == cell_kind then nat_lt arms.a 128 && slice_index m.ram arms.a == arms.b
    else false))

-- without arms no state meets
abbrev pub met_if : ℕ → Option Arms → Cpu → Bool
met_if kind None m = false
met_if kind (Some arms) m = met_by kind arms m

-- an ear hears a sample that is after its last one, and no other
abbrev pub ear_after : Sight → Ear → Ear
ear_after sight ear =
    if is_later_than sight.cycle ear.last then heard (sample sight.cycle sight.lines) ear else ear

-- the transfer that it hears completed
abbrev pub transfer_heard : Sight → Ear → Option Transfer
transfer_heard sight ear =
    if is_later_than sight.cycle ear.last then completed (sample sight.cycle sight.lines) ear else None

-- whether a transfer is what arms wait for: their byte, from the keyboard if `a` is 0, from the host if it is 1
abbrev pub is_awaited : Arms → Transfer → Bool
is_awaited arms t = (arms.a == (if t.from_host then 1 else 0)) && (arms.b == t.byte)

-- whether there is such a transfer
abbrev pub awaited_if : Option Arms → Option Transfer → Bool
awaited_if None transfer = false
awaited_if (Some arms) None = false
awaited_if (Some arms) (Some t) = is_awaited arms t

-- what is heard by a probe of a kind, armed or not; the first three kinds hear nothing
abbrev pub listening : ℕ → Sight → Ear → Ear
listening kind sight ear = if kind == line_kind then ear_after sight ear else ear

-- whether what is seen meets arms of a kind, if so much was heard before
abbrev pub met_as : ℕ → Option Arms → Ear → Sight → Bool
met_as kind arms ear sight =
    if kind == line_kind then awaited_if arms (transfer_heard sight ear) else met_if kind arms sight.cpu

-- whether what is seen meets a probe
abbrev pub meets : Sight → Watch → Bool
meets sight watch = met_as watch.kind watch.counted.arms watch.ear sight

-- a probe after it has looked at what the step of this number led to
abbrev pub looked : ℕ → Sight → Watch → Watch
looked step sight watch = record {
  kind = watch.kind;
  counted = noted step (meets sight watch) watch.counted;
  ear = listening watch.kind sight watch.ear;
}

-- a probe that was armed, and counts anew; what it heard stays
abbrev pub armed : ℕ → ℕ → Watch → Watch
armed a b watch = record { kind = watch.kind; counted = tally.armed a b; ear = watch.ear }

-- a probe that isn't armed yet, and has heard nothing
abbrev pub unarmed : ℕ → Watch
unarmed kind = record { kind = kind; counted = tally.unarmed; ear = silence }

-- a probe of a kind that hears nothing, with what it counted
abbrev pub seen_as : ℕ → Counted → Watch
seen_as kind counted = record { kind = kind; counted = counted; ear = silence }

-- a probe that listens to the wires, with what it counted and heard
abbrev pub heard_as : Counted → Ear → Watch
heard_as counted ear = record { kind = line_kind; counted = counted; ear = ear }

-- the number of the first probe that is met by what is seen, of probes numbered from this one on
abbrev pub first_met : ℕ → Sight → List Watch → Option ℕ
first_met number sight [] = None
first_met number sight (watch ∷ others) =
    if meets sight watch then Some number else first_met (suc number) sight others

-- the first one that was met, of those before and this one
abbrev pub or_met : Option ℕ → Bool → ℕ → Option ℕ
or_met (Some first) met number = Some first
or_met None met number = if met then Some number else None
