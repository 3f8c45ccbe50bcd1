use Rattle.std.proofs.Common.{◌≡◌, ◌∷◌, drop}
use Rattle.mcs48_asm.specs.Tokens.{tokens_of}
use Rattle.mcs48_asm.specs.Kept.{kept_fit}
use Rattle.mcs48_asm.proofs.statement.first_fit.Given as goal

abbrev pub invariant-loop-row : goal.invariant-loop-row
invariant-loop-row l = kept_fit l.rows (l.word ∷ tokens_of l.operands) ≡ kept_fit (drop l.row-index l.rows) (l.word ∷ tokens_of l.operands)
