use Rattle.law_agreement.proofs.Run.{every_run, every_memory, every_start}
use Rattle.law_agreement.proofs.run_and_model_agree.Goals as goal

pub returns : goal.returns
returns c = record { agreement = every_run; any_memory = every_memory; prompt = every_start }
