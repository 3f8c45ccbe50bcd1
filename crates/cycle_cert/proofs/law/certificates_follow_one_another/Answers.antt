use Rattle.cycle_cert.proofs.Onward.{follows}
use Rattle.cycle_cert.proofs.law.certificates_follow_one_another.Goals as goal

pub returns : goal.returns
returns c = record { follows = follows }
