-- The path computes.
use Rattle.std.proofs.Common.{refl}
use Rattle.mcs48_core.proofs.law.a_path_of_thirty_six_instructions.Goals as goal

pub returns : goal.returns
returns c = record { path = λ f pins m. refl }
