use Rattle.std.proofs.Common.{ℕ, List, Option, ap, ◌∙◌}
use Rattle.std.specs.Option.{option_map}
use Rattle.std.specs.Borrow.{Bor}
use Rattle.mcs48_asm.specs.Statements.{statement_of, line_with}
use Rattle.mcs48_asm.proofs.Commutes.{line-capped}
use Rattle.mcs48_asm.proofs.line.line_with.Goals as goal

-- a label's text
abbrev label_of : Option (Bor (List ℕ)) → Option (List ℕ)
label_of label = option_map (λ (name : Bor (List ℕ)). name.now) label

pub returns-in-Ok : goal.returns-in-Ok
returns-in-Ok c =
    let label = label_of c.args.label in
    ap (line_with label) c.in-Ok.ensures ∙ line-capped label (statement_of c.args.text.now)

pub returns-in-Err : goal.returns-in-Err
returns-in-Err c =
    let label = label_of c.args.label in
    c.flawed.ensures ∙ ap (line_with label) c.in-Err.ensures ∙ line-capped label (statement_of c.args.text.now)
