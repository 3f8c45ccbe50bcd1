-- What a row of the opcode table says of the places that can follow, and of the registers of the selected bank.
use Rattle.std.specs.Prelude.{ℕ, ◌+◌, ◌%◌, Bool, true, false, not, ◌==◌, if◌then◌else◌, List, [], ◌∷◌, Option}
use Rattle.std.specs.Prelude.{Some, None}
use Rattle.mcs48_isa.specs.Text.{target}
use Rattle.mcs48_isa.specs.declared.operation.Op.{Op}
use Rattle.mcs48_isa.specs.declared.operation.Op.TheVariants.{Moves, Unary, Flow, Control}
use Rattle.mcs48_isa.specs.declared.operation.MoveOp.TheVariants.{MovRA, MovIA, MovRN, MovIN, MovPswA, XchR, XchI}
use Rattle.mcs48_isa.specs.declared.operation.MoveOp.TheVariants.{XchdI}
use Rattle.mcs48_isa.specs.declared.operation.UnaryOp.TheVariants.{IncR, IncI, DecR}
use Rattle.mcs48_isa.specs.declared.operation.FlowOp.{FlowOp}
use Rattle.mcs48_isa.specs.declared.operation.FlowOp.TheVariants.{Jmp, Call, Ret, Retr, Jmpp, Djnz, Jb, Jc, Jnc}
use Rattle.mcs48_isa.specs.declared.operation.FlowOp.TheVariants.{Jz, Jnz, Jt0, Jnt0, Jt1, Jnt1, Jf0, Jf1, Jtf}
use Rattle.mcs48_isa.specs.declared.operation.FlowOp.TheVariants.{Jni}
use Rattle.mcs48_isa.specs.declared.operation.ControlOp.TheVariants.{EnI, EnTcnti, SelRb1}
use Rattle.cycle_cert.specs.declared.rows.When.{When}
use Rattle.cycle_cert.specs.declared.rows.When.TheVariants.{Always, NotAtOne, AtOne}
use Rattle.cycle_cert.specs.declared.rows.Way.{Way}
use Rattle.cycle_cert.specs.declared.rows.Ways.{Ways}
use Rattle.cycle_cert.specs.Bounds.{byte_values}

-- whether a row may be certified: not one that returns, jumps to a place that the program computes, turns an interrupt
-- on, or may select another bank
abbrev pub is_certifiable : Op → Bool
is_certifiable (Flow Ret) = false
is_certifiable (Flow Retr) = false
is_certifiable (Flow Jmpp) = false
is_certifiable (Control EnI) = false
is_certifiable (Control EnTcnti) = false
is_certifiable (Control SelRb1) = false
is_certifiable (Moves MovPswA) = false
is_certifiable op = true

-- whether a way can be taken if a register has this value before the row
abbrev pub fits : When → ℕ → ℕ → Bool
fits Always register value = true
fits (NotAtOne counter) register value = if register == counter then not (value == 1) else true
fits (AtOne counter) register value = if register == counter then value == 1 else true

-- the place so many bytes after a place
abbrev pub place_after : ℕ → ℕ → ℕ
place_after place len = (place + len) % 2048

-- a way that no register decides
abbrev pub way : ℕ → Way
way to = record { to = to; when = Always }

-- the ways out of a conditional jump with the low byte n: the jump, in the page of its second byte, and what follows,
-- with when each is taken
abbrev pub two_ways : When → When → ℕ → ℕ → ℕ → List Way
two_ways made unmade n len place =
    record { to = target place n; when = made } ∷ record { to = place_after place len; when = unmade } ∷ []

-- those of a jump that no register decides
abbrev pub branch_ways : ℕ → ℕ → ℕ → List Way
branch_ways n len place = two_ways Always Always n len place

-- those of a counting jump: it is made exactly if the register's new value isn't 00, so if the old one isn't 01
abbrev pub counting_ways : ℕ → ℕ → ℕ → ℕ → List Way
counting_ways r n len place = two_ways (NotAtOne r) (AtOne r) n len place

-- the ways out of a jump, a call or a return
abbrev pub flow_ways : FlowOp → ℕ → ℕ → List Way
flow_ways (Jmp to) len place = way to ∷ []
flow_ways (Call to) len place = way to ∷ []
flow_ways (Djnz r n) len place = counting_ways r n len place
flow_ways (Jb b n) len place = branch_ways n len place
flow_ways (Jc n) len place = branch_ways n len place
flow_ways (Jnc n) len place = branch_ways n len place
flow_ways (Jz n) len place = branch_ways n len place
flow_ways (Jnz n) len place = branch_ways n len place
flow_ways (Jt0 n) len place = branch_ways n len place
flow_ways (Jnt0 n) len place = branch_ways n len place
flow_ways (Jt1 n) len place = branch_ways n len place
flow_ways (Jnt1 n) len place = branch_ways n len place
flow_ways (Jf0 n) len place = branch_ways n len place
flow_ways (Jf1 n) len place = branch_ways n len place
flow_ways (Jtf n) len place = branch_ways n len place
flow_ways (Jni n) len place = branch_ways n len place
-- those that aren't certified
flow_ways op len place = way (place_after place len) ∷ []

-- the ways out of a row of this many bytes at a place
abbrev pub ways : Op → ℕ → ℕ → List Way
ways (Flow op) len place = flow_ways op len place
ways op len place = way (place_after place len) ∷ []

-- the ways as the program keeps them
abbrev pub ways_in : Ways → List Way
ways_in all = all.first ∷ elim all.second [ None ↦ [] | Some second ↦ second ∷ [] ]

-- the value that a row gives to a register, from its value before, if it names one
abbrev pub value_given : Op → ℕ → ℕ → Option ℕ
value_given (Moves (MovRN r n)) register value = if register == r then Some n else None
value_given (Unary (IncR r)) register value = if register == r then Some ((value + 1) % 256) else None
value_given (Unary (DecR r)) register value = if register == r then Some ((value + 255) % 256) else None
value_given (Flow (Djnz r n)) register value = if register == r then Some ((value + 255) % 256) else None
value_given op register value = None

-- whether a row can write a register: it names the register as written, or it writes at @Ri
abbrev pub writes : Op → ℕ → Bool
writes (Moves (MovRA r)) register = register == r
writes (Moves (MovRN r n)) register = register == r
writes (Moves (XchR r)) register = register == r
writes (Unary (IncR r)) register = register == r
writes (Unary (DecR r)) register = register == r
writes (Flow (Djnz r n)) register = register == r
writes (Moves (MovIA i)) register = true
writes (Moves (MovIN i n)) register = true
writes (Moves (XchI i)) register = true
writes (Moves (XchdI i)) register = true
writes (Unary (IncI i)) register = true
writes op register = false

-- the values that a row allows a register after it, from its value before: the one that it gives; else any if it can
-- write the register, and the same if it can't
abbrev pub values_after : Op → ℕ → ℕ → List ℕ
values_after op register value =
    elim (value_given op register value) [
      | Some given ↦ given ∷ []
      | None ↦ if writes op register then byte_values else value ∷ []
    ]

-- of these the one of the greatest weight
abbrev pub heaviest : Op → ℕ → ℕ → ℕ
heaviest op register value =
    elim (value_given op register value) [ Some given ↦ given | None ↦ if writes op register then 0 else value ]
