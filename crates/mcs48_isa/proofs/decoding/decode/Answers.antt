use Rattle.std.proofs.Common.{◌≡◌, ◌<◌, is_none, IfSome, slice_index, arith, sym, subst, ◌∙◌}
use Rattle.mcs48_isa.specs.Encoding.{code_of, taken}
use Rattle.mcs48_isa.specs.Instructions.{entry_of}
use Rattle.mcs48_isa.specs.Operands.{IsOp}
use Rattle.mcs48_isa.specs.Table.{is_empty_byte}
use Rattle.mcs48_isa.proofs.Empty.{empty-row}
use Rattle.mcs48_isa.proofs.Sound.{each_row}
use Rattle.mcs48_isa.proofs.decoding.decode.Goals as goal

pub returns-clause-operands : goal.returns-clause-operands
returns-clause-operands c =
    subst (λ r. IfSome r (λ d. IsOp d.op)) (sym (c.decoded.ensures ∙ c.read_row.ensures))
    (each_row (λ d. IsOp d.op) (slice_index c.args.b 0) (slice_index c.args.b 1) (λ d s. s.0) (omega arith) (omega arith))

pub returns-clause-some : goal.returns-clause-some
returns-clause-some c =
    subst (λ r. IfSome r (λ d. 0 < d.cycles)) (sym (c.decoded.ensures ∙ c.read_row.ensures))
    (each_row (λ d. 0 < d.cycles) (slice_index c.args.b 0) (slice_index c.args.b 1) (λ d s. s.1.0) (omega arith) (omega arith))

pub returns-clause-few : goal.returns-clause-few
returns-clause-few c =
    subst (λ r. IfSome r (λ d. d.cycles < 3)) (sym (c.decoded.ensures ∙ c.read_row.ensures))
    (each_row (λ d. d.cycles < 3) (slice_index c.args.b 0) (slice_index c.args.b 1) (λ d s. s.1.1) (omega arith) (omega arith))

pub returns-clause-whole : goal.returns-clause-whole
returns-clause-whole c =
    subst (λ r. IfSome r (λ d. 0 < d.len)) (sym (c.decoded.ensures ∙ c.read_row.ensures))
    (each_row (λ d. 0 < d.len) (slice_index c.args.b 0) (slice_index c.args.b 1) (λ d s. s.2.0) (omega arith) (omega arith))

pub returns-clause-short : goal.returns-clause-short
returns-clause-short c =
    subst (λ r. IfSome r (λ d. d.len < 3)) (sym (c.decoded.ensures ∙ c.read_row.ensures))
    (each_row (λ d. d.len < 3) (slice_index c.args.b 0) (slice_index c.args.b 1) (λ d s. s.2.1) (omega arith) (omega arith))

pub returns-clause-back : goal.returns-clause-back
returns-clause-back c =
    subst (λ r. IfSome r (λ d. code_of d.op ≡ taken d.len (slice_index c.args.b 0) (slice_index c.args.b 1)))
    (sym (c.decoded.ensures ∙ c.read_row.ensures))
    (each_row (λ d. code_of d.op ≡ taken d.len (slice_index c.args.b 0) (slice_index c.args.b 1))
    (slice_index c.args.b 0) (slice_index c.args.b 1) (λ d s. s.3) (omega arith) (omega arith))

pub returns-clause-cycles : goal.returns-clause-cycles
returns-clause-cycles c =
    subst (λ r. IfSome r (λ d. d.cycles ≡ (entry_of d.op).cycles)) (sym (c.decoded.ensures ∙ c.read_row.ensures))
    (each_row (λ d. d.cycles ≡ (entry_of d.op).cycles) (slice_index c.args.b 0) (slice_index c.args.b 1) (λ d s. s.4)
    (omega arith) (omega arith))

pub returns-clause-empty : goal.returns-clause-empty
returns-clause-empty c =
    subst (λ r. is_none r ≡ is_empty_byte (slice_index c.args.b 0)) (sym (c.decoded.ensures ∙ c.read_row.ensures))
    (empty-row (slice_index c.args.b 0) (slice_index c.args.b 1) (omega arith))
