-- Without an input, settling moves the link alone, and a look at the wires leaves a full output buffer as it is.
use Rattle.std.proofs.Common.{◌≡◌, ℕ, ◌+◌, ◌==◌, not, ◌&&◌, ◌||◌, Bool, true, false}
use Rattle.std.proofs.Common.{[], ◌∷◌, ◌++◌, length, Some, None, refl, ap, sym, ◌∙◌, subst}
use Rattle.std.specs.Prelude.{if◌then◌else◌, is_some}
use Rattle.std.specs.Option.{option_map_or}
use Rattle.std.specs.declared.option.Option.{Option}
use Rattle.board_terms.specs.Frame.{byte_of}
use Rattle.board_terms.specs.declared.lines.Lines.{Lines}
use Rattle.ctl_core.specs.Commands.{taken_from}
use Rattle.ctl_core.specs.Controller.{ControllerState, asks_again, gave_up, put_out}
use Rattle.ctl_core.specs.Translation.{translates, translation}
use Rattle.ctl_core.specs.declared.controller.Did.TheVariants.{Nothing}
use Rattle.ctl_core.specs.declared.port.Input.{Input}
use Rattle.ctl_core.specs.declared.translation.Translated.{Translated}
use Rattle.ctl_link.proofs.Empty.{keeps_empty}
use Rattle.ctl_link.specs.Empty.{fits}
use Rattle.ctl_link.specs.Link.{Settled, broken_off, core_after, held_since, may_break, moves_link, received, settled, took_where}
use Rattle.ctl_link.specs.declared.link.Link.{Link}
use Rattle.ctl_link.specs.declared.link.Link.TheVariants.{Free, Hold, Ask, Request, Busy}
use Rattle.ctl_link.specs.declared.port.LinkEnd.{LinkEnd}
use Rattle.ctl_wire.specs.Cycles.{port_looked}
use Rattle.ctl_wire.specs.Wire.{edge_at, edge_in, turned}
use Rattle.ctl_wire.specs.declared.wire.Wire.{Wire}
use Rattle.ctl_wire.specs.declared.wire.Wire.TheVariants.{Recv, Send}

or_true : (b : Bool) → (b || true) ≡ true
or_true true = refl
or_true false = refl

-- without an input nothing is broken off or taken
unbroken : (b a : Bool) (o : Option Input) → o ≡ None → (b && a && is_some o) ≡ false
unbroken true true o e = ap (λ i. is_some i) e
unbroken true false o e = refl
unbroken false a o e = refl

module _ {F : Type 0} where
  none_taken : (now : ℕ) (held : Option ℕ) (full : Bool) (input : Option Input) (p : LinkEnd F) → input ≡ None
      → took_where now held (if full then None else taken_from input p.core) p ≡ record { port = p; did = Nothing }
  none_taken now None full input p e = refl
  none_taken now (Some since) true input p e = refl
  none_taken now (Some since) false None p e = refl
  none_taken now (Some since) false (Some input) p e = absurd cc

  abbrev Fits : LinkEnd F → Type 0
  Fits p = fits p.core.output_full p.link ≡ true

  unbroken_off : (breaks : F → Bool) (now : ℕ) (p : LinkEnd F) → p.core.input ≡ None → broken_off breaks now p ≡ p
  unbroken_off breaks now p e =
      ap (λ v. if v then record p { link = Hold now } else p)
      (unbroken (may_break breaks p.link) (not p.awaits) p.core.input e)

  alone : (now : ℕ) (p : LinkEnd F) → p.core.input ≡ None → settled now p ≡ record { port = moves_link now p; did = Nothing }
  alone now p e =
      ap (λ (t : Settled F). record { port = moves_link now t.port; did = t.did })
      (none_taken now (held_since now p.awaits p.link) p.core.output_full p.core.input p e)

  -- without an input the controller settles by moving its link alone
  pub settles : (breaks : F → Bool) (now : ℕ) (p : LinkEnd F) → p.core.input ≡ None
      → settled now (broken_off breaks now p) ≡ record { port = moves_link now p; did = Nothing }
  settles breaks now p e = ap (settled now) (unbroken_off breaks now p e) ∙ alone now p e

  -- after the link has moved by itself the output buffer still fits it
  pub moved_fits : (now : ℕ) (p : LinkEnd F) → p.core.input ≡ None → Fits p → Fits (moves_link now p)
  moved_fits now p e h = subst (λ (t : Settled F). Fits t.port) (alone now p e) (keeps_empty now p h)

-- what comes over the wires leaves a full output buffer, and no input
pub record Looks (p q : LinkEnd Wire) : Type 0 where
  pub input : q.core.input ≡ None
  pub command : q.core.command_byte ≡ p.core.command_byte
  pub held : fits q.core.output_full q.link ≡ true
  pub stays : p.core.output_full ≡ true → q ≡ p

same_looks : (p : LinkEnd Wire) → p.core.input ≡ None → Fits p → Looks p p
same_looks p e h = record { input = e; command = refl; held = h; stays = λ full. refl }

-- over an empty buffer
never : (p q : LinkEnd Wire) → p.core.output_full ≡ false → p.core.output_full ≡ true → q ≡ p
never p q off on = let both : true ≡ false = sym on ∙ off in absurd cc

still_empty : (p : LinkEnd Wire) (l : Link Wire) (flip : Option ℕ) (awaits : Bool) → p.core.input ≡ None → p.core.output_full ≡ false
    → Looks p (record p { link = l; flip = flip; awaits = awaits })
still_empty p l flip awaits e off = record {
  input = e;
  command = refl;
  held = ap (λ b. fits b l) off;
  stays = never p (record p { link = l; flip = flip; awaits = awaits }) off;
}

-- a byte that is put out, or that came wrong, leaves the input and the command byte
abbrev Leaves : ControllerState → ControllerState → Type 0
Leaves s t = (t.input ≡ s.input) × (t.command_byte ≡ s.command_byte)

put_leaves : (o : Option ℕ) (s : ControllerState) → Leaves s (option_map_or (λ byte. put_out byte s) o s)
put_leaves None s = (refl, refl)
put_leaves (Some byte) s = (refl, refl)

wrong_leaves : (b : Bool) (s : ControllerState) → Leaves s (if b then record s { resends = s.resends + 1 } else gave_up s)
wrong_leaves true s = (refl, refl)
wrong_leaves false s = (refl, refl)

wrong_fits : (b : Bool) (now : ℕ) (s : ControllerState) → s.output_full ≡ false
    → fits {F = Wire} (if b then record s { resends = s.resends + 1 } else gave_up s).output_full
    (if b then Ask 0xfe now else Hold now) ≡ true
wrong_fits true now s off = ap (λ (b : Bool). not b || false) off
wrong_fits false now s off = refl

comes : (now : ℕ) (o : Option ℕ) (p : LinkEnd Wire) → p.core.input ≡ None → p.core.output_full ≡ false
    → Looks p (received now o p)
comes now (Some byte) p e off =
    let t : Translated = translation (translates p.core) p.core.break_mark byte in
    record {
      input = (put_leaves t.byte (record p.core { break_mark = t.mark; resends = 0 })).0 ∙ e;
      command = (put_leaves t.byte (record p.core { break_mark = t.mark; resends = 0 })).1;
      held = or_true (not (core_after (Some byte) p.core).output_full);
      stays = never p (received now (Some byte) p) off;
    }
comes now None p e off = record {
  input = (wrong_leaves (asks_again p.core) p.core).0 ∙ e;
  command = (wrong_leaves (asks_again p.core) p.core).1;
  held = wrong_fits (asks_again p.core) now p.core off;
  stays = never p (received now None p) off;
}

ends_or : (b : Bool) (p q r : LinkEnd Wire) → Looks p q → Looks p r → Looks p (if b then q else r)
ends_or true p q r h k = h
ends_or false p q r h k = k

in_frame : (now : ℕ) (dat : Bool) (w : Wire) (p : LinkEnd Wire) → p.core.input ≡ None → p.core.output_full ≡ false
    → Looks p (edge_in now dat w p)
in_frame now dat (Recv flip bits) p e off =
    ends_or (length bits == 10) p (received now (byte_of (turned flip (bits ++ dat ∷ []))) p)
    (record p { link = Busy (Recv flip (bits ++ dat ∷ [])) })
    (comes now (byte_of (turned flip (bits ++ dat ∷ []))) p e off)
    (still_empty p (Busy (Recv flip (bits ++ dat ∷ []))) p.flip p.awaits e off)
in_frame now dat (Send byte edges) p e off =
    ends_or (edges == 10) p (record p { link = Free; awaits = true }) (record p { link = Busy (Send byte (edges + 1)) })
    (still_empty p Free p.flip true e off) (still_empty p (Busy (Send byte (edges + 1))) p.flip p.awaits e off)

at_edge : (now : ℕ) (dat : Bool) (l : Link Wire) (full : Bool) (p : LinkEnd Wire) → p.core.input ≡ None → Fits p
    → p.core.output_full ≡ full → fits full l ≡ true → Looks p (edge_at now dat l p)
at_edge now dat Free true p e h is f = absurd cc
at_edge now dat Free false p e h is f = still_empty p (Busy (Recv p.flip (dat ∷ []))) None p.awaits e is
at_edge now dat (Hold since) full p e h is f = same_looks p e h
at_edge now dat (Ask byte since) full p e h is f = same_looks p e h
at_edge now dat (Request byte) true p e h is f = absurd cc
at_edge now dat (Request byte) false p e h is f = still_empty p (Busy (Send byte 1)) p.flip p.awaits e is
at_edge now dat (Busy w) true p e h is f = absurd cc
at_edge now dat (Busy w) false p e h is f = in_frame now dat w p e is

-- a look at the wires leaves a full output buffer, the command byte, and an input buffer that is empty
pub looks_at : (now : ℕ) (clock : Bool) (line : Lines) (p : LinkEnd Wire) → p.core.input ≡ None → Fits p
    → Looks p (port_looked now clock line p)
looks_at now clock line p e h =
    ends_or (clock && not line.clk) p (edge_at now line.dat p.link p) p
    (at_edge now line.dat p.link p.core.output_full p e h refl h) (same_looks p e h)
