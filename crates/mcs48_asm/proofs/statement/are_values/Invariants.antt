use Rattle.std.proofs.Common.{◌≡◌, is_some, length}
use Rattle.mcs48_asm.specs.Tokens.{tokens_of, parts_of}
use Rattle.mcs48_asm.specs.Statements.{values_of}
use Rattle.mcs48_asm.proofs.statement.are_values.Given as goal

abbrev pub invariant-loop-part : goal.invariant-loop-part
invariant-loop-part l = is_some (values_of (parts_of (tokens_of l.text))) ≡ is_some (values_of (parts_of (tokens_of l.rest)))

abbrev pub decreases-loop-part : goal.decreases-loop-part
decreases-loop-part l = length l.rest
