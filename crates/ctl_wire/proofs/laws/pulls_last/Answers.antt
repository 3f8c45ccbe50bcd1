use Rattle.ctl_wire.proofs.Pulls.{pulls_last}
use Rattle.ctl_wire.proofs.laws.pulls_last.Goals as goal

pub returns : goal.returns
returns c = record { pulls = pulls_last }
