use Rattle.std.proofs.Common.{◌<◌, ap, ◌∙◌, arith}
use Rattle.pc_tables.specs.Keys.{Row, row_at}
use Rattle.pc_tables.proofs.KeyLaws.{own-name-of}
use Rattle.pc_tables.proofs.key.name_of.Goals as goal

pub returns-clause-own : goal.returns-clause-own
returns-clause-own c =
    let below : c.args.k < 84 = omega arith in
    own-name-of c.args.k _ below
    (ap (λ (r : Row). r.name) (c.key_row-2.view_is ∙ c.key_row.ensures ∙ ap row_at c.k.view_is))
