use Rattle.law_keys_bounce.proofs.Bouncing.{bounces_go_on, bounces_show_few}
use Rattle.law_keys_bounce.proofs.keys_may_bounce.Goals as goal

pub returns : goal.returns
returns c = record { few = bounces_show_few; go_on = bounces_go_on }
