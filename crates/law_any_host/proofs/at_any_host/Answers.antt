use Rattle.law_any_host.proofs.OneMeeting.{one_meeting}
use Rattle.law_any_host.proofs.Run.{any_pins}
use Rattle.law_any_host.proofs.at_any_host.Goals as goal

pub returns : goal.returns
returns c = record { any_pins = any_pins; one_meeting = one_meeting }
