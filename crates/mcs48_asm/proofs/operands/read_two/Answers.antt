use Rattle.std.proofs.Common.{ap, ◌∙◌}
use Rattle.std.specs.Option.{option_map}
use Rattle.mcs48_asm.specs.Capped.{reading_capped}
use Rattle.mcs48_asm.specs.Kept.{operand_seen}
use Rattle.mcs48_asm.proofs.OperandParts.{read_two-one, read_two-two, read_two-more}
use Rattle.mcs48_asm.proofs.operands.read_two.Goals as goal

pub returns-in_default : goal.returns-in_default
returns-in_default c =
    ap (option_map reading_capped)
    (read_two-one (operand_seen c.args.first) (operand_seen c.args.second) c.args.text.now c.in_default.ensures.pieces)

pub returns-in-None : goal.returns-in-None
returns-in-None c =
    c.read_both.ensures
    ∙ ap (option_map reading_capped)
    (read_two-two (operand_seen c.args.first)
    (operand_seen c.args.second) c.args.text.now c.in-Some.front.now c.in-Some.back.now c.in-Some.ensures.pieces
    c.in-None.ensures.pieces)

pub returns-in-Some-split_once : goal.returns-in-Some-split_once
returns-in-Some-split_once c =
    ap (option_map reading_capped)
    (read_two-more (operand_seen c.args.first)
    (operand_seen c.args.second) c.args.text.now c.in-Some.front.now c.in-Some.back.now
    c.in-Some-split_once.field-0.0.now c.in-Some-split_once.field-0.1.now
    c.in-Some.ensures.pieces c.in-Some-split_once.ensures.pieces)
