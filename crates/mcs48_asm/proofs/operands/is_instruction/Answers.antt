use Rattle.std.proofs.Common.{◌∙◌, ap}
use Rattle.std.specs.List.{list_any}
use Rattle.std.specs.Str.{bytes_eq}
use Rattle.mcs48_asm.specs.Rows.{Form, is_instruction}
use Rattle.mcs48_asm.specs.Kept.{form_seen}
use Rattle.mcs48_asm.proofs.Tables.{list_any-map}
use Rattle.mcs48_asm.proofs.operands.is_instruction.Goals as goal

pub returns : goal.returns
unfolding is_instruction
returns c =
    c.is_first_word.ensures
    ∙ list_any-map (λ (form : Form). bytes_eq form.word c.args.word.now) form_seen c.instructions.result.now
    ∙ ap (list_any (λ (form : Form). bytes_eq form.word c.args.word.now)) c.instructions.ensures
