use Rattle.std.proofs.Common.{◌≡◌, length}
use Rattle.mcs48_asm.specs.Tokens.{tokens_of}
use Rattle.mcs48_asm.proofs.words.unindented.Given as goal

abbrev pub invariant-loop-rest : goal.invariant-loop-rest
invariant-loop-rest l = tokens_of l.text ≡ tokens_of l.rest

abbrev pub decreases-loop-rest : goal.decreases-loop-rest
decreases-loop-rest l = length l.rest
