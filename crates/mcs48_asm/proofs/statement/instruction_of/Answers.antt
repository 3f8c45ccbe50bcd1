use Rattle.std.proofs.Common.{◌∷◌}
use Rattle.mcs48_asm.specs.Tokens.{tokens_of}
use Rattle.mcs48_asm.proofs.Commutes.{instruction-found}
use Rattle.mcs48_asm.proofs.statement.instruction_of.Goals as goal

pub returns-in-Some : goal.returns-in-Some
returns-in-Some c = instruction-found _ (c.args.word.now ∷ tokens_of c.args.operands.now) _ c.instructions.ensures c.in-Some.ensures

pub returns-in-None : goal.returns-in-None
returns-in-None c = instruction-found _ (c.args.word.now ∷ tokens_of c.args.operands.now) _ c.instructions.ensures c.in-None.ensures
