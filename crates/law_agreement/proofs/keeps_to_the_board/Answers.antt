use Rattle.law_agreement.proofs.AnyRun.{every_execution, every_look, every_next_look}
use Rattle.law_agreement.proofs.keeps_to_the_board.Goals as goal

pub returns : goal.returns
returns c = record { executed = every_execution; late = every_look; soon = every_next_look }
