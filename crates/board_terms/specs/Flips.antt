-- Noise: a bit of a frame that is turned round on its way to the controller.
use Rattle.std.specs.Prelude.{◌≤◌, ℕ, List, All}
use Rattle.board_terms.specs.declared.event.HostAct.{HostAct}
use Rattle.board_terms.specs.declared.event.HostAct.TheVariants.{Write60, Write64, Read60, Mask, Unmask, Take}
use Rattle.board_terms.specs.declared.event.HostAct.TheVariants.{Status, Flip}
use Rattle.board_terms.specs.declared.event.HostEvent.{HostEvent}

-- the bits that may be turned round: the data, 1 to 8, and the parity, 9; the start is bit 0
abbrev pub IsDataOrParity : ℕ → Type 0
IsDataOrParity bit = (1 ≤ bit) × (bit ≤ 9)

-- an event that turns a bit round turns one of these
abbrev pub FlipsDataOrParity : HostAct → Type 0
FlipsDataOrParity (Flip bit) = IsDataOrParity bit
FlipsDataOrParity (Write60 byte) = Unit {0}
FlipsDataOrParity (Write64 byte) = Unit {0}
FlipsDataOrParity Read60 = Unit {0}
FlipsDataOrParity Mask = Unit {0}
FlipsDataOrParity Unmask = Unit {0}
FlipsDataOrParity Take = Unit {0}
FlipsDataOrParity Status = Unit {0}

-- each of these events that turns a bit round turns a data bit or the parity
abbrev pub AreFlips : List HostEvent → Type 0
AreFlips events = All (λ event. FlipsDataOrParity event.act) events
