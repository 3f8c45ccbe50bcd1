use Rattle.std.proofs.Common.{◌≡◌, true, sym, ap, ◌∙◌}
use Rattle.std.specs.Option.{option_map}
use Rattle.std.specs.Str.{bytes_eq}
use Rattle.mcs48_asm.specs.Tokens.{tokens_of}
use Rattle.mcs48_asm.specs.Rows.{read_all}
use Rattle.mcs48_asm.specs.Statements.{instruction_with}
use Rattle.mcs48_asm.specs.Kept.{form_seen}
use Rattle.mcs48_asm.proofs.Commutes.{instruction-capped}
use Rattle.mcs48_asm.proofs.statement.instruction_in.Goals as goal

pub returns : goal.returns
returns c =
    let form = form_seen c.args.row.now in
    let fits : bytes_eq form.word c.args.word.now ≡ true = sym c.is_spelled.ensures ∙ c.if-not-is_spelled.false in
    rw fits (c.instruction_with.ensures ∙ ap (option_map (instruction_with form.first)) c.read_all.ensures
    ∙ instruction-capped form.first (read_all form.operands (tokens_of c.args.operands.now)))
