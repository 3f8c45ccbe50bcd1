-- The host's turn is some calls of the controller.
use Rattle.std.proofs.Common.{◌≡◌, ℕ, ◌+◌, Bool, true, false, not, List, [], ◌∷◌, ◌++◌, Some, None, refl, ap, sym, ◌∙◌}
use Rattle.std.specs.Prelude.{◌&&◌, if◌then◌else◌, nat_le}
use Rattle.std.specs.declared.option.Option.{Option}
use Rattle.board_terms.specs.declared.event.HostAct.{HostAct}
use Rattle.board_terms.specs.declared.event.HostAct.TheVariants.{Write60, Write64, Read60, Mask, Unmask, Take, Status, Flip}
use Rattle.board_terms.specs.declared.event.HostEvent.{HostEvent}
use Rattle.ctl_core.specs.Controller.{written}
use Rattle.ctl_core.specs.declared.port.Port.TheVariants.{P60, P64}
use Rattle.ctl_half.specs.Controllers.{CtlState, with_core}
use Rattle.host_turn.specs.Host.{Host, acted_where, event_turn, in_silence, interrupts, is_done, read_by_bios, turn, waits}
use Rattle.law_halves_agree.specs.Acts.{Call, MayBeDone, all_called, called, may_be_done}
use Rattle.law_halves_agree.specs.Acts.Call.{Writes, Reads, Flips}
use Rattle.law_halves_agree.specs.Loop.{PcSide, host_at, with_host}

abbrev Comes : Host → CtlState → Type 0
Comes h c = (calls : List Call) × (with_host h c ≡ all_called calls c)

act_is : (act : HostAct) (c : CtlState) (s : PcSide) → waits act c.port.core ≡ false → may_be_done act ≡ true
    → Comes (acted_where true act (host_at c s)).host c
act_is (Write60 byte) c s free may =
    (Writes P60 byte ∷ [], ap (λ t. if t then c else with_core (written P60 byte c.port.core) c) (sym free))
act_is (Write64 byte) c s free may =
    (Writes P64 byte ∷ [], ap (λ t. if t then c else with_core (written P64 byte c.port.core) c) (sym free))
act_is Read60 c s free may = (Reads ∷ [], refl)
act_is Mask c s free may = ([], refl)
act_is Unmask c s free may = ([], refl)
act_is Take c s free may = ([], refl)
act_is Status c s free may = ([], refl)
act_is (Flip bit) c s free may =
    (Flips bit ∷ [], ap (λ t. if t then record c { port = record c.port { flip = Some bit } } else c) (sym may))

both : (a b : Bool) → (a && not b) ≡ true → b ≡ false
both true false h = refl
both true true h = absurd (cc h)
both false b h = absurd (cc h)

event_by : (done : Bool) (act : HostAct) (c : CtlState) (s : PcSide) → (done ≡ true → waits act c.port.core ≡ false)
    → may_be_done act ≡ true → Comes (acted_where done act (host_at c s)).host c
event_by true act c s free may = act_is act c s (free refl) may
event_by false act c s free may = ([], refl)

event_is : (now : ℕ) (next : Option HostEvent) (c : CtlState) (s : PcSide) → MayBeDone next
    → Comes (event_turn now next (host_at c s)).host c
event_is now None c s may = ([], refl)
event_is now (Some e) c s may =
    event_by (is_done now (Some e) c.port.core) e.act c s (both (nat_le (e.stamp + 4096) now) (waits e.act c.port.core)) may

appended : (calls : List Call) (call : Call) (c : CtlState)
    → all_called (calls ++ call ∷ []) c ≡ called call (all_called calls c)
appended [] call c = refl
appended (first ∷ calls) call c = appended calls call (called first c)

read_is : (t : Bool) (h : Host) (c : CtlState) → Comes h c → Comes (if t then read_by_bios h else in_silence h).host c
read_is true h c come = (come.0 ++ Reads ∷ [], ap (called Reads) come.1 ∙ sym (appended come.0 Reads c))
read_is false h c come = come

-- the event that is due, and then the read of INT 09h
pub turn_is : (now : ℕ) (next : Option HostEvent) (c : CtlState) (s : PcSide) → MayBeDone next
    → (calls : List Call) × (with_host (turn now c.port.filled next (host_at c s)).host c ≡ all_called calls c)
turn_is now next c s may =
    let h : Host = (event_turn now next (host_at c s)).host in
    read_is (interrupts now c.port.filled h) h c (event_is now next c s may)
