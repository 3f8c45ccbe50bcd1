use Rattle.std.proofs.Common.{◌<◌, ◌∙◌, ap, subst}
use Rattle.board_terms.proofs.Columns.{reads_column, reads_none}
use Rattle.board_terms.specs.Matrix.{rows_of}
use Rattle.board_terms.proofs.matrix.Matrix.rows.Goals as goal

pub returns-then-column-lt12 : goal.returns-then-column-lt12
returns-then-column-lt12 c = record {
  rows =
      c.shown.ensures.rows
      ∙ reads_column c.self.inside.columns c.args.p1 c.self.told c.if-column-lt12.true
      (subst (λ b. b < 256) c.shown.ensures.rows c.shown.ensures.byte)
      ∙ ap (λ keys. rows_of keys c.args.p1) c.self.view_is;
}

pub returns-else-column-lt12 : goal.returns-else-column-lt12
returns-else-column-lt12 c = record {
  rows = reads_none c.self.inside.columns c.args.p1 c.if-column-lt12.false ∙ ap (λ keys. rows_of keys c.args.p1) c.self.view_is;
}
