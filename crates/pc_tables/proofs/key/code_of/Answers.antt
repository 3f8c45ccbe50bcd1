use Rattle.std.proofs.Common.{◌<◌, ap, ◌∙◌, arith}
use Rattle.pc_tables.specs.Keys.{Row, row_at}
use Rattle.pc_tables.proofs.KeyLaws.{own-code-of, code-some, code-range}
use Rattle.pc_tables.proofs.key.code_of.Goals as goal

pub returns-clause-own : goal.returns-clause-own
returns-clause-own c =
    let below : c.args.k < 84 = omega arith in
    own-code-of c.args.k _ below
    (ap (λ (r : Row). r.code) (c.result.view_is ∙ c.key_row.ensures ∙ ap row_at c.k.view_is))

pub returns-clause-some : goal.returns-clause-some
returns-clause-some c =
    let below : c.args.k < 84 = omega arith in
    code-some c.args.k _ below
    (ap (λ (r : Row). r.code) (c.result.view_is ∙ c.key_row.ensures ∙ ap row_at c.k.view_is))

pub returns-clause-range : goal.returns-clause-range
returns-clause-range c =
    let below : c.args.k < 84 = omega arith in
    code-range c.args.k _ below
    (ap (λ (r : Row). r.code) (c.result.view_is ∙ c.key_row.ensures ∙ ap row_at c.k.view_is))
