use Rattle.std.proofs.Common.{sym, ap, ◌∙◌, set}
use Rattle.board_terms.specs.Columns.{column_keys}
use Rattle.board_terms.proofs.Columns.{row_down, row_up}
use Rattle.board_terms.proofs.matrix.turn_row.Goals as goal

pub returns-then-down : goal.returns-then-down
returns-then-down c =
    row_down c.args.rows c.args.row c.ranges.rows.fits c.requires
    ∙ ap (λ v. set (column_keys c.args.rows) c.args.row v) (sym c.if-down.true)

pub returns-else-down : goal.returns-else-down
returns-else-down c =
    row_up c.args.rows c.args.row c.ranges.rows.fits c.requires ∙ ap (λ v. set (column_keys c.args.rows) c.args.row v) (sym c.if-down.false)
