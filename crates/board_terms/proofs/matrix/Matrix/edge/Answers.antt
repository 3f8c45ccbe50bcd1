use Rattle.std.proofs.Common.{ap, ◌∙◌}
use Rattle.board_terms.specs.Matrix.{turned}
use Rattle.board_terms.proofs.Columns.{edge_turned}
use Rattle.board_terms.proofs.matrix.Matrix.edge.Goals as goal

pub returns : goal.returns
returns c = record {
  keys =
      edge_turned c.self.inside.columns c.args.place c.number.result c.number-2.result c.turn_row.result c.args.down
      c.self.told c.number.ensures.range
      c.number.ensures.number c.number-2.ensures.number c.turn_row.ensures
      ∙ ap (λ keys. turned c.args.place c.args.down keys) c.self.view_is;
}
