-- After a mark is one more piece.
use Rattle.std.proofs.Common.{sym, subst}
use Rattle.text_lines.specs.Fields.{HasMore}
use Rattle.text_lines.proofs.Afterwards.{two_pieces}
use Rattle.text_lines.proofs.pieces.single.Goals as goal

pub returns-in-Some : goal.returns-in-Some
returns-in-Some c = record {
  pieces = subst HasMore (sym c.in-Some.ensures.pieces) (two_pieces c.args.mark c.in-Some.field-0.0.now c.in-Some.field-0.1.now);
}
