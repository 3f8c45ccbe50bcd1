use Rattle.law_agreement.proofs.Run.{every_holding}
use Rattle.law_agreement.proofs.memory_holds_keyboard.Goals as goal

pub returns : goal.returns
returns c = record { memory = every_holding }
