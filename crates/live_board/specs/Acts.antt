-- What the host does by each call, and that it is answered.
use Rattle.std.specs.Prelude.{ℕ, Bool, true, false, List, IsSome}
use Rattle.board_terms.specs.declared.event.HostAct.{HostAct}
use Rattle.board_terms.specs.declared.event.HostAct.TheVariants.{Write60, Write64, Read60, Mask, Unmask, Take}
use Rattle.board_terms.specs.declared.event.HostAct.TheVariants.{Status, Flip}
use Rattle.ctl_core.specs.declared.port.Port.{Port}
use Rattle.ctl_core.specs.declared.port.Port.TheVariants.{P60, P64}
use Rattle.host_turn.specs.declared.stamped.Stamped.{Stamped}
use Rattle.live_board.specs.Answers.{first_in}

-- a write of a byte to a port
abbrev pub write_of : Port → ℕ → HostAct
write_of P60 byte = Write60 byte
write_of P64 byte = Write64 byte

-- INT 09h reads, or is masked
abbrev pub masking_of : Bool → HostAct
masking_of true = Unmask
masking_of false = Mask

-- what the host asks for is answered in these items
abbrev pub IsAnswered : HostAct → List Stamped → Type 0
IsAnswered (Write60 byte) items = Unit {0}
IsAnswered (Write64 byte) items = Unit {0}
IsAnswered Read60 items = IsSome (first_in (λ t. t.read) items)
IsAnswered Mask items = Unit {0}
IsAnswered Unmask items = Unit {0}
IsAnswered Take items = IsSome (first_in (λ t. t.taken) items)
IsAnswered Status items = IsSome (first_in (λ t. t.status) items)
IsAnswered (Flip bit) items = Unit {0}
