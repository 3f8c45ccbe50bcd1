use Rattle.law_noisy_link.proofs.Counted.{counted, done_by_fate}
use Rattle.law_noisy_link.proofs.Again.{comes_again}
use Rattle.law_noisy_link.proofs.Ending.{ends}
use Rattle.law_noisy_link.proofs.Parted.{parted}
use Rattle.law_noisy_link.proofs.noise_over_the_link.Goals as goal

pub returns-clause-done : goal.returns-clause-done
returns-clause-done c = done_by_fate

pub returns-clause-counted : goal.returns-clause-counted
returns-clause-counted c = counted

pub returns-clause-again : goal.returns-clause-again
returns-clause-again c =
    λ layout history starts last n byte cadence within fate. comes_again layout history starts last n byte cadence within fate

pub returns-clause-ends : goal.returns-clause-ends
returns-clause-ends c = λ layout history starts last n byte cadence sent. ends layout history starts last cadence n byte sent

pub returns-clause-arrived : goal.returns-clause-arrived
returns-clause-arrived c = parted
