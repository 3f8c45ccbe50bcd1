use Rattle.law_wires_heard.proofs.Run.{any_run_is_heard, every_run_is_heard}
use Rattle.law_wires_heard.proofs.wires_are_heard.Goals as goal

pub returns : goal.returns
returns c = record { heard = every_run_is_heard; any_memory = any_run_is_heard }
