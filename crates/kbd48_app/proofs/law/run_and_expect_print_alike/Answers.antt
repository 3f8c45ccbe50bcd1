use Rattle.kbd48_app.proofs.PrintAlike.{answer_alike}
use Rattle.kbd48_app.proofs.law.run_and_expect_print_alike.Goals as goal

pub returns : goal.returns
returns c = record { alike = answer_alike }
