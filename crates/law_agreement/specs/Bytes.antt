-- What the PC has for the keyboard is a byte.
use Rattle.std.specs.Prelude.{◌<◌, Some, None}
use Rattle.std.specs.declared.option.Option.{Option}
use Rattle.model_controller.specs.declared.UnderWay.{UnderWay}
use Rattle.ctl_core.specs.declared.port.Input.{Input}
use Rattle.ctl_link.specs.declared.link.Link.{Link}
use Rattle.ctl_link.specs.declared.link.Link.TheVariants.{Free, Hold, Ask, Request, Busy}
use Rattle.ctl_link.specs.declared.port.LinkEnd.{LinkEnd}
use Rattle.host_turn.specs.Run.{Side}

-- the input buffer's byte, if it has one, is below 256
abbrev pub HoldsByte : Option Input → Type 0
HoldsByte None = Unit {0}
HoldsByte (Some input) = input.byte < 256

-- so is the byte for the keyboard, if the link has one
abbrev pub AsksByte : {F : Type 0} → Link F → Type 0
AsksByte Free = Unit {0}
AsksByte (Hold since) = Unit {0}
AsksByte (Ask byte since) = byte < 256
AsksByte (Request byte) = byte < 256
AsksByte (Busy under_way) = Unit {0}

-- both, of the controller and of the PC's side
abbrev pub IsPortInBytes : {F : Type 0} → LinkEnd F → Type 0
IsPortInBytes p = HoldsByte p.core.input × AsksByte p.link

abbrev pub IsInBytes : Side UnderWay → Type 0
IsInBytes m = IsPortInBytes m.port
