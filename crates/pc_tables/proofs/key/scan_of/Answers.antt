use Rattle.std.proofs.Common.{◌<◌, ap, ◌∙◌, arith}
use Rattle.pc_tables.specs.Keys.{Row, row_at}
use Rattle.pc_tables.proofs.KeyLaws.{own-scan-of, scan-some, scan-range}
use Rattle.pc_tables.proofs.key.scan_of.Goals as goal

pub returns-clause-own : goal.returns-clause-own
returns-clause-own c =
    let below : c.args.k < 84 = omega arith in
    own-scan-of c.args.k _ below
    (ap (λ (r : Row). r.scan) (c.result.view_is ∙ c.key_row.ensures ∙ ap row_at c.k.view_is))

pub returns-clause-some : goal.returns-clause-some
returns-clause-some c =
    let below : c.args.k < 84 = omega arith in
    scan-some c.args.k _ below
    (ap (λ (r : Row). r.scan) (c.result.view_is ∙ c.key_row.ensures ∙ ap row_at c.k.view_is))

pub returns-clause-range : goal.returns-clause-range
returns-clause-range c =
    let below : c.args.k < 84 = omega arith in
    scan-range c.args.k _ below
    (ap (λ (r : Row). r.scan) (c.result.view_is ∙ c.key_row.ensures ∙ ap row_at c.k.view_is))
