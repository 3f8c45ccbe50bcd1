use Rattle.std.proofs.Common.{ap, ◌∙◌}
use Rattle.mcs48_asm.specs.Capped.{line_capped}
use Rattle.mcs48_asm.proofs.OperandParts.{line_of_parts-more}
use Rattle.mcs48_asm.proofs.line.line_in.Goals as goal

pub returns-in-Some-split_once : goal.returns-in-Some-split_once
returns-in-Some-split_once c =
    c.flawed.ensures
    ∙ ap line_capped (line_of_parts-more c.args.text.now c.in-Some.label.now c.in-Some.rest.now
    c.in-Some-split_once.field-0.0.now c.in-Some-split_once.field-0.1.now
    c.in-Some.ensures.pieces c.in-Some-split_once.ensures.pieces)
