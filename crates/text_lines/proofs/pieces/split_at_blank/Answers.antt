use Rattle.std.proofs.Common.{ℕ, sym, arith}
use Rattle.std.proofs.lemmas.List.{length-take, length-drop}
use Rattle.text_lines.specs.Fields.{is_blank}
use Rattle.text_lines.proofs.Splits.{split_some, split_none, is_within}
use Rattle.text_lines.proofs.pieces.split_at_blank.Goals as goal

pub returns-in-Some-clause-pieces : goal.returns-in-Some-clause-pieces
returns-in-Some-clause-pieces c = split_some is_blank c.args.text.now c.in-Some.place (sym c.in-Some.ensures)

pub returns-in-None-clause-pieces : goal.returns-in-None-clause-pieces
returns-in-None-clause-pieces c = split_none is_blank c.args.text.now (sym c.in-None.ensures)

pub returns-in-Some-clause-shorter : goal.returns-in-Some-clause-shorter
returns-in-Some-clause-shorter c =
    let within = is_within is_blank c.args.text.now c.in-Some.place (sym c.in-Some.ensures) in
    omega (arith, within, length-take {A = ℕ}, length-drop {A = ℕ})
