use Rattle.law_agreement.proofs.Does.{tick_law}
use Rattle.law_agreement.proofs.every_tick.Goals as goal

pub returns : goal.returns
returns c = record { ticks = tick_law }
