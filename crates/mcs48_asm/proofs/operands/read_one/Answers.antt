use Rattle.std.proofs.Common.{ap, ◌∙◌}
use Rattle.std.specs.Option.{option_map}
use Rattle.mcs48_asm.specs.Capped.{reading_capped}
use Rattle.mcs48_asm.specs.Kept.{operand_seen}
use Rattle.mcs48_asm.proofs.OperandParts.{read_one-one, read_one-more}
use Rattle.mcs48_asm.proofs.operands.read_one.Goals as goal

pub returns-in-None : goal.returns-in-None
returns-in-None c = c.read.ensures.reading
    ∙ ap (option_map reading_capped) (read_one-one (operand_seen c.args.operand) c.args.text.now c.in-None.ensures.pieces)

pub returns-in-Some : goal.returns-in-Some
returns-in-Some c =
    ap (option_map reading_capped)
    (read_one-more (operand_seen c.args.operand) c.args.text.now c.in-Some.field-0.0.now c.in-Some.field-0.1.now
    c.in-Some.ensures.pieces)
