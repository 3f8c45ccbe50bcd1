use Rattle.std.proofs.Common.{ap, ◌∙◌}
use Rattle.std.specs.Option.{option_map}
use Rattle.mcs48_asm.specs.Capped.{reading_capped}
use Rattle.mcs48_asm.specs.Tokens.{tokens_of}
use Rattle.mcs48_asm.specs.Rows.{both, read}
use Rattle.mcs48_asm.specs.Kept.{reading_seen, operand_seen}
use Rattle.mcs48_asm.proofs.Commutes.{both-capped}
use Rattle.mcs48_asm.proofs.operands.read_both.Goals as goal

pub returns : goal.returns
returns c =
    let front = read (operand_seen c.args.first) (tokens_of c.args.text.now) in
    let back = read (operand_seen c.args.second) (tokens_of c.args.other.now) in
    c.both.ensures
    ∙ ap (λ said. both said (option_map reading_seen c.read-2.result)) c.read.ensures.reading
    ∙ ap (both (option_map reading_capped front)) c.read-2.ensures.reading
    ∙ both-capped front back
