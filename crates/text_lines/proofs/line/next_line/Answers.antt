use Rattle.std.proofs.Common.{sym, ap, ◌∙◌, ◌∷◌}
use Rattle.std.specs.Str.Lines.{lines}
use Rattle.text_lines.proofs.FirstLine.{lines-first}
use Rattle.text_lines.proofs.line.next_line.Goals as goal

pub returns-in-Some-clause-lines : goal.returns-in-Some-clause-lines
returns-in-Some-clause-lines c =
    lines-first c.args.text.now c.in-Some.line.now c.in-Some.after.now c.in-Some.ensures.pieces
    ∙ sym (ap (λ first. first ∷ lines c.in-Some.after.now) c.without_return.ensures)
