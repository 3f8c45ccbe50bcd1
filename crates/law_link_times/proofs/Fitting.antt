-- Why the link is held after a cycle; and no byte is under way but in the 320 cycles of one.
use Rattle.std.proofs.Common.{◌≡◌, ℕ, suc, zero, ◌+◌, ◌<◌, ◌⊎◌, inl, inr, List, Bool, true, false}
use Rattle.std.proofs.Common.{◌||◌, Some, None, refl, ap, sym, ◌∙◌, subst, arith}
use Rattle.std.specs.Prelude.{if◌then◌else◌, nat_le}
use Rattle.std.specs.declared.option.Option.{Option}
use Rattle.std.proofs.lemmas.Bool.Decides.{nat_tests}
use Rattle.ctl_core.specs.Commands.{Taken, taken}
use Rattle.ctl_core.specs.Controller.{ControllerState, asks_again, is_disabled}
use Rattle.ctl_core.specs.declared.controller.Did.{Did}
use Rattle.ctl_core.specs.declared.controller.Did.TheVariants.{Nothing, ToKeyboard, Output, Pulse}
use Rattle.ctl_link.specs.declared.link.Link.{Link}
use Rattle.ctl_link.specs.declared.link.Link.TheVariants.{Free, Hold, Ask, Request, Busy}
use Rattle.ctl_link.specs.declared.port.LinkEnd.{LinkEnd}
use Rattle.ctl_link.specs.Link.{asking, broken_off, held_since, is_busy, link_after, next_link, settled, takes_input, took_where}
use Rattle.ctl_link.proofs.Breaks.{unbroken}
use Rattle.board_terms.specs.declared.event.HostEvent.{HostEvent}
use Rattle.host_turn.specs.Cycle.{port_by}
use Rattle.host_turn.specs.Run.{Side, goes_on}
use Rattle.host_turn.proofs.Turns.{turn_of}
use Rattle.model_controller.specs.declared.UnderWay.{UnderWay}
use Rattle.model_controller.specs.declared.meeting.Meeting.{Meeting}
use Rattle.model_controller.specs.declared.meeting.Meeting.TheVariants.{Got, Inhibited, Idle, Sent, Cut}
use Rattle.model_controller.specs.ByteTime.{Event, Quiet, Begins, Arrives, IsWhole, arrived_in, arriving}
use Rattle.model_controller.specs.ByteTime.{byte_cycle, carried, happened_at, is_open, quietly, sends}
use Rattle.model_controller.proofs.Quiet.{quiet_more}

-- why a link is as it is after a cycle, where it is held
abbrev pub Fits : ℕ → Bool → Bool → Link UnderWay → Type 0
Fits now full disabled Free = Unit {0}
Fits now full disabled (Hold since) = (full ≡ true) ⊎ ((disabled ≡ true) ⊎ (now < since + 64))
Fits now full disabled (Ask byte since) = now < since + 64
Fits now full disabled (Request byte) = Unit {0}
Fits now full disabled (Busy u) = Unit {0}

younger : (now since : ℕ) → nat_le (since + 64) now ≡ false → now < since + 64
younger now since e = grind (arith, nat_tests, e)

fits_by : (now : ℕ) (full disabled awaits : Bool) (l : Link UnderWay)
    → Fits now full disabled (link_after now (full || disabled) awaits l)
fits_by now full disabled true Free = tt
fits_by now true disabled false Free = inl refl
fits_by now false true false Free = inr (inl refl)
fits_by now false false false Free = tt
fits_by now true disabled awaits (Hold since) = inl refl
fits_by now false true awaits (Hold since) = inr (inl refl)
fits_by now false false awaits (Hold since) =
    elim (nat_le (since + 64) now) as (λ c. nat_le (since + 64) now ≡ c
    → Fits now false false (if c then Free else Hold since)) [
      | true ↦ λ e. tt
      | false ↦ λ e. inr (inr (younger now since e))
    ] refl
fits_by now full disabled awaits (Ask byte since) =
    elim (nat_le (since + 64) now) as (λ c. nat_le (since + 64) now ≡ c
    → Fits now full disabled (if c then Request byte else Ask byte since)) [
      | true ↦ λ e. tt
      | false ↦ λ e. younger now since e
    ] refl
fits_by now full disabled awaits (Request byte) = tt
fits_by now full disabled awaits (Busy u) = tt

abbrev pub FitsIn : ℕ → LinkEnd UnderWay → Type 0
FitsIn now p = Fits now p.core.output_full (is_disabled p.core) p.link

module _ (events : List HostEvent) where
  -- the controller before it settles
  abbrev before_settling : ℕ → Event → Side UnderWay → LinkEnd UnderWay
  before_settling now e m =
      let p : LinkEnd UnderWay = happened_at now e m.port in
      broken_off is_open now (port_by (turn_of events now (record m { port = p })) p)

  abbrev took_in : ℕ → Event → Side UnderWay → LinkEnd UnderWay
  took_in now e m = (takes_input now (before_settling now e m)).port

  -- a cycle
  fits_cycle : (now : ℕ) (e : Event) (m : Side UnderWay) → FitsIn now (byte_cycle events now e m).port
  unfolding byte_cycle goes_on
  fits_cycle now e m =
      let t : LinkEnd UnderWay = took_in now e m in
      fits_by now t.core.output_full (is_disabled t.core) t.awaits t.link

  -- so it is after some
  pub fits_span : (k n now end : ℕ) (m : Side UnderWay) → k + 1 ≡ n → k + now ≡ end
      → FitsIn end (quietly events n now m).port
  fits_span k n now end m s z =
      let w : FitsIn (k + now) (quietly events n now m).port =
      subst (λ (v : Side UnderWay). FitsIn (k + now) v.port) (sym (quiet_more events k 1 n now m s))
      (fits_cycle (k + now) Quiet (quietly events k now m)) in
      subst (λ y. FitsIn y (quietly events n now m).port) z w

  -- whether a byte is under way
  either_busy : (c : Bool) (x y : Link UnderWay) → is_busy x ≡ false → is_busy y ≡ false
      → is_busy (if c then x else y) ≡ false
  either_busy true x y hx hy = hx
  either_busy false x y hx hy = hy

  asking_idle : (since : ℕ) (d : Did) (l : Link UnderWay) → is_busy l ≡ false → is_busy (asking since d l) ≡ false
  asking_idle since Nothing l h = h
  asking_idle since (ToKeyboard byte) l h = refl
  asking_idle since (Output byte) l h = h
  asking_idle since (Pulse lines) l h = h

  where_idle : (now : ℕ) (since : Option ℕ) (input : Option Taken) (p : LinkEnd UnderWay) → is_busy p.link ≡ false
      → is_busy (took_where now since input p).port.link ≡ false
  where_idle now None input p h = h
  where_idle now (Some since) None p h = h
  where_idle now (Some since) (Some t) p h = asking_idle since t.did p.link h

  after_idle : (now : ℕ) (stop awaits : Bool) (l : Link UnderWay) → is_busy l ≡ false
      → is_busy (link_after now stop awaits l) ≡ false
  after_idle now stop true Free h = refl
  after_idle now true false Free h = refl
  after_idle now false false Free h = refl
  after_idle now true awaits (Hold since) h = refl
  after_idle now false awaits (Hold since) h = either_busy (nat_le (since + 64) now) Free (Hold since) refl refl
  after_idle now stop awaits (Ask byte since) h =
      either_busy (nat_le (since + 64) now) (Request byte) (Ask byte since) refl refl
  after_idle now stop awaits (Request byte) h = refl
  after_idle now stop awaits (Busy x) h = h

  settled_idle : (now : ℕ) (p : LinkEnd UnderWay) → is_busy p.link ≡ false → is_busy (settled now p).port.link ≡ false
  settled_idle now p h =
      let t : LinkEnd UnderWay = (takes_input now p).port in
      after_idle now (t.core.output_full || is_disabled t.core) t.awaits t.link
      (where_idle now (held_since now p.awaits p.link) (if p.core.output_full then None else taken p.core) p h)

  -- a cycle begins none
  idle_cycle : (now : ℕ) (e : Event) (m : Side UnderWay) → is_busy (happened_at now e m.port).link ≡ false
      → is_busy (byte_cycle events now e m).port.link ≡ false
  unfolding byte_cycle goes_on
  idle_cycle now e m h =
      let p : LinkEnd UnderWay = happened_at now e m.port in
      let q : LinkEnd UnderWay = port_by (turn_of events now (record m { port = p })) p in
      ap (λ v. is_busy (settled now v).port.link) (unbroken is_open now q h) ∙ settled_idle now q h

  -- if no byte is under way, none is after quiet cycles
  pub idle_span : (n now : ℕ) (m : Side UnderWay) → is_busy m.port.link ≡ false
      → is_busy (quietly events n now m).port.link ≡ false
  idle_span zero now m h = h
  idle_span (suc n) now m h =
      idle_span n (suc now) (byte_cycle events now Quiet m) (idle_cycle now Quiet m h)

  -- where a byte arrives none is under way any more
  afterwards_idle : (now : ℕ) (byte : Option ℕ) (s : ControllerState) → is_busy (next_link {F = UnderWay} now byte s) ≡ false
  afterwards_idle now (Some byte) s = refl
  afterwards_idle now None s = either_busy (asks_again s) (Ask 0xfe now) (Hold now) refl refl

  arrived_idle : (now byte : ℕ) (l : Link UnderWay) (p : LinkEnd UnderWay) → p.link ≡ l
      → is_busy (arrived_in now byte l p).link ≡ false
  arrived_idle now byte Free p e = ap is_busy e
  arrived_idle now byte (Hold since) p e = ap is_busy e
  arrived_idle now byte (Ask b since) p e = ap is_busy e
  arrived_idle now byte (Request b) p e = ap is_busy e
  arrived_idle now byte (Busy u) p e = afterwards_idle now (arriving u.flip byte) p.core

  -- so after the byte of a tick
  pub idle_carried : (begins : Meeting) (now : ℕ) (m : Side UnderWay) → is_busy m.port.link ≡ false
      → is_busy (carried events begins now m).port.link ≡ false
  idle_carried (Got byte) now m h =
      idle_cycle (320 + now) IsWhole (quietly events 319 (suc now) (byte_cycle events now (Begins false) m)) refl
  idle_carried Inhibited now m h = idle_span 321 now m h
  idle_carried Idle now m h = idle_span 321 now m h
  idle_carried (Sent byte) now m h =
      let s : Side UnderWay = sends events now m in
      idle_cycle (320 + now) (Arrives byte) s (arrived_idle (320 + now) byte s.port.link s.port refl)
  idle_carried Cut now m h = idle_span 321 now m h
