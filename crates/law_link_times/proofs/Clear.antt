-- What the controller and its link do while no input waits and no flip comes hangs on few of the controller's fields.
use Rattle.std.proofs.Common.{◌≡◌, ℕ, Bool, true, false, not, ◌&&◌, ◌||◌, Some, None, refl, ap, sym, ◌∙◌, subst}
use Rattle.std.specs.Prelude.{if◌then◌else◌, is_some}
use Rattle.std.specs.Option.{option_map_or}
use Rattle.std.specs.declared.option.Option.{Option}
use Rattle.ctl_core.specs.Commands.{taken_from}
use Rattle.ctl_core.specs.Controller.{ControllerState, at_start, emptied, is_disabled, put_out}
use Rattle.ctl_core.specs.Translation.{arrived, translates, translation}
use Rattle.ctl_core.specs.declared.port.Input.{Input}
use Rattle.ctl_core.specs.declared.translation.Translated.{Translated}
use Rattle.ctl_link.specs.declared.link.Link.{Link}
use Rattle.ctl_link.specs.declared.link.Link.TheVariants.{Free, Hold, Ask, Request, Busy}
use Rattle.ctl_link.specs.declared.port.LinkEnd.{LinkEnd}
use Rattle.ctl_link.specs.Link.{broken_off, held_since, filled_by, may_break, moves_link, received, settled, took_where}
use Rattle.host_turn.specs.Host.{Host, interrupts}
use Rattle.int09.specs.Bios.{start}
use Rattle.model_controller.specs.declared.UnderWay.{UnderWay}
use Rattle.model_controller.specs.ByteTime.{Event, Quiet, Begins, Closes, Arrives, IsWhole, arrived_in, arriving, happened_at, is_open}
use Rattle.law_link_times.proofs.EachRead.{IsUnflipped, closed_unflipped, stays_unflipped}

-- no input waits, and no flip is pending or under way
pub record IsClear (p : LinkEnd UnderWay) : Type 0 where
  pub input : p.core.input ≡ None
  pub flip : p.flip ≡ None
  pub unflipped : IsUnflipped p.link

-- the fields on which it hangs; all others as at power-on
abbrev pub plain_core : ControllerState → ControllerState
plain_core s = record at_start {
  output_full = s.output_full;
  output = s.output;
  command_byte = s.command_byte;
  break_mark = s.break_mark;
}

abbrev pub plain : LinkEnd UnderWay → LinkEnd UnderWay
plain p = record p { core = plain_core p.core }

-- the controller's view after the read, if any
abbrev pub read_core : Bool → ControllerState → ControllerState
read_core c s = if c then emptied s else s

-- the host's view, whatever INT 09h
abbrev pub view : Bool → LinkEnd UnderWay → Host
view masked p = record { core = p.core; masked = masked; bios = start; flip = p.flip }

abbrev reads : ℕ → Bool → LinkEnd UnderWay → Bool
reads now masked p = interrupts now p.filled (view masked p)

-- the controller after a cycle, by itself
abbrev pub next_port : ℕ → Bool → LinkEnd UnderWay → LinkEnd UnderWay
next_port now masked p =
    (settled now (broken_off is_open now (record p { core = read_core (reads now masked p) p.core }))).port

-- without an input nothing is broken off or taken
none_left : (c : Bool) (s : ControllerState) → s.input ≡ None → (read_core c s).input ≡ None
none_left true s e = e
none_left false s e = e

unbroken : (b a : Bool) (o : Option Input) → o ≡ None → (b && a && is_some o) ≡ false
unbroken true true o e = ap (λ i. is_some i) e
unbroken true false o e = refl
unbroken false a o e = refl

none_taken : (now : ℕ) (held : Option ℕ) (full : Bool) (input : Option Input) (p : LinkEnd UnderWay) → input ≡ None
    → (took_where now held (if full then None else taken_from input p.core) p).port ≡ p
none_taken now None full input p e = refl
none_taken now (Some since) true input p e = refl
none_taken now (Some since) false None p e = refl
none_taken now (Some since) false (Some input) p e = absurd cc

abbrev moved : ℕ → Bool → LinkEnd UnderWay → LinkEnd UnderWay
moved now c p = moves_link now (record p { core = read_core c p.core })

next_is : (now : ℕ) (masked : Bool) (p : LinkEnd UnderWay) → p.core.input ≡ None
    → next_port now masked p ≡ moved now (reads now masked p) p
next_is now masked p e =
    let c : Bool = reads now masked p in
    let q : LinkEnd UnderWay = record p { core = read_core c p.core } in
    let i : q.core.input ≡ None = none_left c p.core e in
    let b : broken_off is_open now q ≡ q =
    ap (λ v. if v then record q { link = Hold now } else q)
    (unbroken (may_break is_open q.link) (not q.awaits) q.core.input i) in
    ap (λ v. (settled now v).port) b
    ∙ ap (λ v. moves_link now v)
    (none_taken now (held_since now q.awaits q.link) q.core.output_full q.core.input q i)

moved_plain : (now : ℕ) (c : Bool) (p : LinkEnd UnderWay) → plain (moved now c p) ≡ moved now c (plain p)
moved_plain now true p = refl
moved_plain now false p = refl

-- a cycle of the controller hangs on these fields, and it stays clear
pub next_plain : (now : ℕ) (masked : Bool) (p : LinkEnd UnderWay) → IsClear p
    → plain (next_port now masked p) ≡ next_port now masked (plain p)
next_plain now masked p h =
    ap plain (next_is now masked p h.input) ∙ moved_plain now (reads now masked p) p
    ∙ sym (next_is now masked (plain p) refl)

moved_clear : (now : ℕ) (c : Bool) (p : LinkEnd UnderWay) → IsClear p → IsClear (moved now c p)
moved_clear now c p h = record {
  input = none_left c p.core h.input;
  flip = h.flip;
  unflipped = stays_unflipped now ((read_core c p.core).output_full || is_disabled (read_core c p.core)) p.awaits p.link
      h.unflipped;
}

-- a cycle keeps that no input waits and no flip is pending or under way
pub next_clear : (now : ℕ) (masked : Bool) (p : LinkEnd UnderWay) → IsClear p → IsClear (next_port now masked p)
next_clear now masked p h =
    subst IsClear (sym (next_is now masked p h.input)) (moved_clear now (reads now masked p) p h)

-- and so does what comes over the link
same_input : (o : Option ℕ) (s : ControllerState) → (option_map_or (λ byte. put_out byte s) o s).input ≡ s.input
same_input None s = refl
same_input (Some byte) s = refl

abbrev core_with : Option ℕ → Bool → ControllerState → ControllerState
core_with o mark s = arrived (record { byte = o; mark = mark }) s

plain_with : (o : Option ℕ) (mark : Bool) (s : ControllerState)
    → plain_core (core_with o mark s) ≡ core_with o mark (plain_core s)
plain_with None mark s = refl
plain_with (Some code) mark s = refl

comes_plain : (now byte : ℕ) (p : LinkEnd UnderWay) → plain (received now (Some byte) p) ≡ received now (Some byte) (plain p)
comes_plain now byte p =
    let t : Translated = translation (translates p.core) p.core.break_mark byte in
    ap (λ c. record {
      core = c;
      filled = filled_by now c p.filled;
      link = Hold now;
      awaits = false;
      flip = p.flip;
    }) (plain_with t.byte t.mark p.core)

arrived_plain : (now byte : ℕ) (l : Link UnderWay) (p : LinkEnd UnderWay) → IsUnflipped l
    → plain (arrived_in now byte l p) ≡ arrived_in now byte l (plain p)
arrived_plain now byte Free p e = refl
arrived_plain now byte (Hold since) p e = refl
arrived_plain now byte (Ask asked since) p e = refl
arrived_plain now byte (Request asked) p e = refl
arrived_plain now byte (Busy u) p e =
    subst (λ o. plain (received now (arriving o byte) p) ≡ received now (arriving o byte) (plain p)) (sym e)
    (comes_plain now byte p)

-- what comes over the link depends on the output buffer, the command byte and the break mark alone
pub happened_plain : (now : ℕ) (e : Event) (p : LinkEnd UnderWay) → IsClear p
    → plain (happened_at now e p) ≡ happened_at now e (plain p)
happened_plain now Quiet p h = refl
happened_plain now (Begins true) p h = refl
happened_plain now (Begins false) p h = refl
happened_plain now Closes p h = refl
happened_plain now (Arrives byte) p h = arrived_plain now byte p.link p h.unflipped
happened_plain now IsWhole p h = refl

comes_clear : (now byte : ℕ) (p : LinkEnd UnderWay) → IsClear p → IsClear (received now (Some byte) p)
comes_clear now byte p h =
    let t : Translated = translation (translates p.core) p.core.break_mark byte in
    record {
      input = same_input t.byte (record p.core { break_mark = t.mark; resends = 0 }) ∙ h.input;
      flip = h.flip;
      unflipped = tt;
    }

arrived_clear : (now byte : ℕ) (l : Link UnderWay) (p : LinkEnd UnderWay) → IsUnflipped l → IsClear p
    → IsClear (arrived_in now byte l p)
arrived_clear now byte Free p e h = h
arrived_clear now byte (Hold since) p e h = h
arrived_clear now byte (Ask asked since) p e h = h
arrived_clear now byte (Request asked) p e h = h
arrived_clear now byte (Busy u) p e h =
    subst (λ o. IsClear (received now (arriving o byte) p)) (sym e) (comes_clear now byte p h)

-- what comes over the link keeps that no input waits and no flip is pending or under way
pub happened_clear : (now : ℕ) (e : Event) (p : LinkEnd UnderWay) → IsClear p → IsClear (happened_at now e p)
happened_clear now Quiet p h = h
happened_clear now (Begins true) p h = record { input = h.input; flip = refl; unflipped = h.flip }
happened_clear now (Begins false) p h = record { input = h.input; flip = h.flip; unflipped = refl }
happened_clear now Closes p h =
    record { input = h.input; flip = h.flip; unflipped = closed_unflipped p.link h.unflipped }
happened_clear now (Arrives byte) p h = arrived_clear now byte p.link p h.unflipped h
happened_clear now IsWhole p h = record { input = h.input; flip = h.flip; unflipped = tt }
