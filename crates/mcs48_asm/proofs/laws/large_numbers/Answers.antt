use Rattle.mcs48_asm.proofs.Large.{large-numbers}
use Rattle.mcs48_asm.proofs.laws.large_numbers.Goals as goal

pub returns : goal.returns
returns c = record { capped = large-numbers }
