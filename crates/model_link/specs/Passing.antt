-- When a byte may begin to pass.
use Rattle.std.specs.Prelude.{◌≡◌, false}
use Rattle.ctl_link.specs.declared.link.Link.{Link}
use Rattle.ctl_link.specs.Empty.{is_held}
use Rattle.model_controller.specs.declared.UnderWay.{UnderWay}
use Rattle.model_controller.specs.declared.meeting.Meeting.{Meeting}
use Rattle.model_controller.specs.declared.meeting.Meeting.TheVariants.{Got, Inhibited, Idle, Sent, Cut}

-- if a byte is to pass, the link isn't held
abbrev pub MayBegin : Meeting → Link UnderWay → Type 0
MayBegin (Got byte) link = is_held link ≡ false
MayBegin (Sent byte) link = is_held link ≡ false
MayBegin Inhibited link = Unit {0}
MayBegin Idle link = Unit {0}
MayBegin Cut link = Unit {0}
