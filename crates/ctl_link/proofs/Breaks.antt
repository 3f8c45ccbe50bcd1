-- Breaking off a byte of the keyboard: where none is under way nothing is broken off; one under way stays, or is broken
-- off, and the controller pulls from now on.
use Rattle.std.proofs.Common.{◌≡◌, ℕ, Bool, true, false, not, ◌&&◌, ◌||◌, Some, None, refl, ap, sym, ◌∙◌, subst, ◌⊎◌, inl, inr, arith}
use Rattle.std.specs.Prelude.{if◌then◌else◌, is_some}
use Rattle.std.specs.declared.option.Option.{Option}
use Rattle.ctl_core.specs.Controller.{is_disabled}
use Rattle.ctl_core.specs.Commands.{Taken, taken}
use Rattle.ctl_link.specs.declared.link.Link.{Link}
use Rattle.ctl_link.specs.declared.link.Link.TheVariants.{Free, Hold, Ask, Request, Busy}
use Rattle.ctl_link.specs.declared.port.LinkEnd.{LinkEnd}
use Rattle.ctl_link.specs.Link.{held_since, took_where, takes_input, link_after, is_busy, may_break, broken_off, settled}
use Rattle.ctl_link.specs.Pulls.{pulled, KeepsPull, BeginsPull}
use Rattle.ctl_link.proofs.Pulls.{keeps_pull}

module _ {F : Type 0} (breaks : F → Bool) where
  kept_by : (l : Link F) (a i : Bool) (now : ℕ) (p : LinkEnd F) → is_busy l ≡ false
      → (if may_break breaks l && a && i then record p { link = Hold now } else p) ≡ p
  kept_by Free a i now p h = refl
  kept_by (Hold since) a i now p h = refl
  kept_by (Ask byte since) a i now p h = refl
  kept_by (Request byte) a i now p h = refl
  kept_by (Busy x) a i now p h = absurd cc

  -- a link without a byte under way stays as it is
  pub unbroken : (now : ℕ) (p : LinkEnd F) → is_busy p.link ≡ false → broken_off breaks now p ≡ p
  unbroken now p h = kept_by p.link (not p.awaits) (is_some p.core.input) now p h

  -- no byte is under way where the clock is pulled
  pub pulled_idle : (l : Link F) (h : ℕ) → pulled l ≡ Some h → is_busy l ≡ false
  pulled_idle Free h e = refl
  pulled_idle (Hold since) h e = refl
  pulled_idle (Ask byte since) h e = refl
  pulled_idle (Request byte) h e = refl
  pulled_idle (Busy x) h e = absurd cc

  -- what is kept, or begun, after the break was so before it
  pub kept_after : (now : ℕ) (p : LinkEnd F) (l : Link F) → KeepsPull now (broken_off breaks now p).link l → KeepsPull now p.link l
  kept_after now p l keeps since e early =
      keeps since (ap (λ (q : LinkEnd F). pulled q.link) (unbroken now p (pulled_idle p.link since e)) ∙ e) early

  -- if nothing but a pull begins from a free link after a break, nothing else does from before it
  pub begun_after : (now : ℕ) (p : LinkEnd F) (l : Link F) → BeginsPull now (broken_off breaks now p).link l → BeginsPull now p.link l
  begun_after now p l begins e =
      begins (ap (λ (q : LinkEnd F). q.link) (unbroken now p (ap is_busy e)) ∙ e)

  took_busy : (now : ℕ) (awaits : Bool) (input : Option Taken) (p : LinkEnd F) (x : F) → p.link ≡ Busy x
      → (took_where now (held_since now awaits p.link) input p).port.link ≡ Busy x
  took_busy now awaits input p x e = ap (λ l. (took_where now (held_since now awaits l) input p).port.link) e ∙ e

  -- a byte under way is settled as it is
  pub settles_busy : (now : ℕ) (p : LinkEnd F) (x : F) → p.link ≡ Busy x → (settled now p).port.link ≡ Busy x
  settles_busy now p x e =
      let t : LinkEnd F = (takes_input now p).port in
      ap (λ l. link_after now (t.core.output_full || is_disabled t.core) t.awaits l)
      (took_busy now p.awaits (if p.core.output_full then None else taken p.core) p x e)

  -- still under way, or broken off now
  abbrev pub Stays : F → ℕ → Link F → Type 0
  Stays x now l = (l ≡ Busy x) ⊎ ((breaks x ≡ true) × (pulled l ≡ Some now))

  by_rest : (o a i : Bool) (now : ℕ) (p : LinkEnd F) (x : F) → breaks x ≡ o → p.link ≡ Busy x
      → Stays x now (settled now (if o && a && i then record p { link = Hold now } else p)).port.link
  by_rest true true true now p x is e = inr (is, keeps_pull F now (record p { link = Hold now }) now refl (omega arith))
  by_rest true true false now p x is e = inl (settles_busy now p x e)
  by_rest true false i now p x is e = inl (settles_busy now p x e)
  by_rest false a i now p x is e = inl (settles_busy now p x e)

  -- a byte under way stays so, or was broken off, after the controller has settled
  pub breaks_or_not : (now : ℕ) (p : LinkEnd F) (x : F) → p.link ≡ Busy x → Stays x now (settled now (broken_off breaks now p)).port.link
  breaks_or_not now p x e =
      subst (λ l. Stays x now
      (settled now (if may_break breaks l && not p.awaits && is_some p.core.input then record p { link = Hold now } else p)).port.link)
      (sym e) (by_rest (breaks x) (not p.awaits) (is_some p.core.input) now p x refl e)
