use Rattle.std.proofs.Common.{IfSome, arith, sym, subst}
use Rattle.mcs48_isa.specs.Operands.{IsOp}
use Rattle.mcs48_isa.proofs.Sound.{each_row}
use Rattle.mcs48_isa.proofs.decoding.row.Goals as goal

pub returns-clause-operands : goal.returns-clause-operands
returns-clause-operands s c =
    subst (λ r. IfSome r (λ d. IsOp d.op)) (sym c.read_row.ensures)
    (each_row (λ d. IsOp d.op) c.args.first c.args.n (λ d s. s.0) (omega arith) (omega arith))
