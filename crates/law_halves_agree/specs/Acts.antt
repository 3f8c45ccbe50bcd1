-- What the host does in its turn, as calls of the controller.
use Rattle.std.specs.Prelude.{◌≡◌, ℕ, Bool, true, List, [], ◌∷◌, is_some, Some, None, if◌then◌else◌}
use Rattle.std.specs.declared.option.Option.{Option}
use Rattle.board_terms.specs.declared.event.HostAct.{HostAct}
use Rattle.board_terms.specs.declared.event.HostAct.TheVariants.{Write60, Write64, Read60, Mask, Unmask, Take}
use Rattle.board_terms.specs.declared.event.HostAct.TheVariants.{Status, Flip}
use Rattle.board_terms.specs.declared.event.HostEvent.{HostEvent}
use Rattle.ctl_core.specs.Controller.{emptied, written}
use Rattle.ctl_core.specs.declared.port.Port.{Port}
use Rattle.ctl_half.specs.Controllers.{CtlState, is_turnable, with_core, with_flip}
use Rattle.host_turn.specs.Host.{turn}
use Rattle.law_halves_agree.specs.Loop.{PcSide, host_at, with_host}

-- a call: a byte for a port, a read of port 60h, or noise in a bit of the next frame
pub data Call : Type 0 where
  Writes : Port → ℕ → Call
  Reads : Call
  Flips : ℕ → Call

-- the controller after a call; a full input buffer refuses a byte
abbrev pub called : Call → CtlState → CtlState
called (Writes port byte) c = if is_some c.port.core.input then c else with_core (written port byte c.port.core) c
called Reads c = with_core (emptied c.port.core) c
called (Flips bit) c = with_flip bit c

-- and after calls, one after another
abbrev pub all_called : List Call → CtlState → CtlState
all_called [] c = c
all_called (call ∷ calls) c = all_called calls (called call c)

-- whether an act's noise is in a bit that noise may turn round, as in each key file
abbrev pub may_be_done : HostAct → Bool
may_be_done (Write60 byte) = true
may_be_done (Write64 byte) = true
may_be_done Read60 = true
may_be_done Mask = true
may_be_done Unmask = true
may_be_done Take = true
may_be_done Status = true
may_be_done (Flip bit) = is_turnable bit

abbrev pub MayBeDone : Option HostEvent → Type 0
MayBeDone None = Unit {0}
MayBeDone (Some event) = may_be_done event.act ≡ true

-- the host's turn in the loop does no more to the controller than some calls of it
abbrev pub ActLaw : Type 0
ActLaw =
    (now : ℕ) (next : Option HostEvent) (c : CtlState) (s : PcSide) → MayBeDone next
    → (calls : List Call) × (with_host (turn now c.port.filled next (host_at c s)).host c ≡ all_called calls c)
