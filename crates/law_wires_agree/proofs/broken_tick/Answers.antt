use Rattle.law_wires_agree.proofs.Off.{all_broken}
use Rattle.law_wires_agree.proofs.broken_tick.Goals as goal

pub returns : goal.returns
returns c = record { broken = all_broken }
