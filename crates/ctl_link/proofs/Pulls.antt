-- Settling keeps a pull of the clock for 64 cycles, and begins one where the link was free.
use Rattle.std.proofs.Common.{◌≡◌, ℕ, ◌+◌, ◌<◌, Bool, true, false, ◌||◌, Some, None, refl, ap, sym, ◌∙◌, subst, inl, inr, arith}
use Rattle.std.specs.Prelude.{if◌then◌else◌, nat_le}
use Rattle.std.specs.declared.option.Option.{Option}
use Rattle.std.proofs.lemmas.Bool.Decides.{nat_tests}
use Rattle.ctl_core.specs.Controller.{is_disabled}
use Rattle.ctl_core.specs.Commands.{Taken, taken}
use Rattle.ctl_core.specs.declared.controller.Did.{Did}
use Rattle.ctl_core.specs.declared.controller.Did.TheVariants.{Nothing, ToKeyboard, Output, Pulse}
use Rattle.ctl_link.specs.declared.link.Link.{Link}
use Rattle.ctl_link.specs.declared.link.Link.TheVariants.{Free, Hold, Ask, Request, Busy}
use Rattle.ctl_link.specs.declared.port.LinkEnd.{LinkEnd}
use Rattle.ctl_link.specs.Link.{held_since, asking, took_where, takes_input, link_after, settled}
use Rattle.ctl_link.specs.Pulls.{pulled, Begins, KeepsPull, BeginsPull}

too_early : (now h : ℕ) → now < h + 64 → nat_le (h + 64) now ≡ false
too_early now h l = grind (arith, nat_tests)

module _ (F : Type 0) where
  abbrev holding : ℕ → Link F
  holding since = Hold since

  abbrev free : Link F
  free = Free

  abbrev request : ℕ → Link F
  request byte = Request byte

  abbrev ask : ℕ → ℕ → Link F
  ask byte since = Ask byte since

  asking_pulled : (since : ℕ) (d : Did) → pulled (asking since d (holding since)) ≡ Some since
  asking_pulled since Nothing = refl
  asking_pulled since (ToKeyboard byte) = refl
  asking_pulled since (Output byte) = refl
  asking_pulled since (Pulse lines) = refl

  took_pulled : (now : ℕ) (awaits : Bool) (input : Option Taken) (p : LinkEnd F) (l : Link F) (h : ℕ) → pulled l ≡ Some h
      → pulled (took_where now (held_since now awaits l) input (record p { link = l })).port.link ≡ Some h
  took_pulled now awaits input p Free h e = absurd cc
  took_pulled now awaits None p (Hold since) h e = e
  took_pulled now awaits (Some t) p (Hold since) h e = asking_pulled since t.did ∙ e
  took_pulled now awaits input p (Ask byte since) h e = e
  took_pulled now awaits input p (Request byte) h e = absurd cc
  took_pulled now awaits input p (Busy x) h e = absurd cc

  after_pulled : (now : ℕ) (stop awaits : Bool) (l : Link F) (h : ℕ) → pulled l ≡ Some h → nat_le (h + 64) now ≡ false
      → pulled (link_after now stop awaits l) ≡ Some h
  after_pulled now stop awaits Free h e early = absurd cc
  after_pulled now true awaits (Hold since) h e early = e
  after_pulled now false awaits (Hold since) h e early =
      let s : since ≡ h = cc in ap (λ c. pulled (if c then free else holding since)) (ap (λ k. nat_le (k + 64) now) s ∙ early) ∙ e
  after_pulled now stop awaits (Ask byte since) h e early =
      let s : since ≡ h = cc in ap (λ c. pulled (if c then request byte else ask byte since)) (ap (λ k. nat_le (k + 64) now) s ∙ early) ∙ e
  after_pulled now stop awaits (Request byte) h e early = absurd cc
  after_pulled now stop awaits (Busy x) h e early = absurd cc

  -- a pull of the clock that is younger than 64 cycles goes on through settling
  pub keeps_pull : (now : ℕ) (p : LinkEnd F) → KeepsPull now p.link (settled now p).port.link
  keeps_pull now p h e early =
      let t : LinkEnd F = (takes_input now p).port in
      after_pulled now (t.core.output_full || is_disabled t.core) t.awaits t.link h
      (took_pulled now p.awaits (if p.core.output_full then None else taken p.core) p p.link h e) (too_early now h early)

  -- from a free link it stays free, or the controller begins to pull
  asking_begins : (now : ℕ) (stop : Bool) (d : Did) → Begins now (link_after now stop false (asking now d free))
  asking_begins now true Nothing = inr refl
  asking_begins now false Nothing = inl refl
  asking_begins now stop (ToKeyboard byte) = inr (after_pulled now stop false (ask byte now) now refl (too_early now now (omega arith)))
  asking_begins now true (Output byte) = inr refl
  asking_begins now false (Output byte) = inl refl
  asking_begins now true (Pulse lines) = inr refl
  asking_begins now false (Pulse lines) = inl refl

  stop_begins : (now : ℕ) (stop : Bool) → Begins now (link_after now stop false free)
  stop_begins now true = inr refl
  stop_begins now false = inl refl

  settling_begins : (now : ℕ) (awaits : Bool) (input : Option Taken) (p : LinkEnd F) (stop : Bool) → p.awaits ≡ awaits
      → Begins now (link_after now stop awaits (took_where now (held_since now awaits free) input (record p { link = Free })).port.link)
  settling_begins now true input p stop e = inl refl
  settling_begins now false None p stop e = stop_begins now stop
  settling_begins now false (Some t) p stop e = asking_begins now stop t.did

  took_awaits : (now : ℕ) (since : Option ℕ) (input : Option Taken) (p : LinkEnd F) → (took_where now since input p).port.awaits ≡ p.awaits
  took_awaits now None input p = refl
  took_awaits now (Some since) None p = refl
  took_awaits now (Some since) (Some t) p = refl

  -- from a free link settling begins nothing but a pull
  pub begins_pull : (now : ℕ) (p : LinkEnd F) → BeginsPull now p.link (settled now p).port.link
  begins_pull now p e =
      let input : Option Taken = if p.core.output_full then None else taken p.core in
      let t : LinkEnd F = (takes_input now p).port in
      let same : t.link ≡ (took_where now (held_since now p.awaits free) input (record p { link = Free })).port.link =
      ap (λ l. (took_where now (held_since now p.awaits l) input (record p { link = l })).port.link) e in
      let stop : Bool = t.core.output_full || is_disabled t.core in
      subst (Begins now) (sym
      (ap (λ l. link_after now stop t.awaits l) same
      ∙ ap (λ a. link_after now stop a
      (took_where now (held_since now p.awaits free) input (record p { link = Free })).port.link)
      (took_awaits now (held_since now p.awaits p.link) input p)))
      (settling_begins now p.awaits input p stop refl)
