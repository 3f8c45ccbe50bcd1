use Rattle.mcs48_asm.proofs.Worked.{examples-right}
use Rattle.mcs48_asm.proofs.examples.worked_examples.Goals as goal

pub returns : goal.returns
returns c = record { examples = examples-right }
