use Rattle.law_ctl_obeys.proofs.CtlRules.{controller_keeps}
use Rattle.law_ctl_obeys.proofs.Joined.{at_controller}
use Rattle.law_ctl_obeys.proofs.controller_keeps_rules.Goals as goal

pub returns : goal.returns
returns c = record { rules = controller_keeps; works = at_controller }
