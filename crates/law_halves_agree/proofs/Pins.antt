-- With the joint machine's pins the controller alone settles as that machine's: what C0 puts out is B0 either way.
use Rattle.std.proofs.Common.{◌≡◌, ℕ, Bool, true, false, not, Some, None, refl, ap, sym, subst, ◌∙◌}
use Rattle.std.proofs.lemmas.Bool.{eqb-true}
use Rattle.std.specs.Prelude.{◌==◌, ◌&&◌, is_some, if◌then◌else◌}
use Rattle.std.specs.declared.option.Option.{Option}
use Rattle.ctl_core.specs.Commands.{Taken, taken}
use Rattle.ctl_core.specs.declared.port.Input.{Input}
use Rattle.ctl_core.specs.declared.port.Port.{Port}
use Rattle.ctl_core.specs.declared.port.Port.TheVariants.{P60, P64}
use Rattle.ctl_half.specs.Controllers.{is_pins_command, pins_put}
use Rattle.ctl_link.specs.Link.{Settled, broken_off, held_since, may_break, moves_link, settled, took_where}
use Rattle.ctl_link.specs.declared.link.Link.TheVariants.{Hold}
use Rattle.ctl_link.specs.declared.port.LinkEnd.{LinkEnd}
use Rattle.ctl_wire.specs.declared.wire.Wire.{Wire}
use Rattle.ctl_wire.specs.Wire.{is_breakable}

-- B0 is put out, or what was
abbrev put : Bool → Settled Wire → Settled Wire
put reads s = record {
  port = record s.port { core = record s.port.core { output = if reads then 0xb0 else s.port.core.output } };
  did = s.did;
}

-- a settling, by since when the link is held and by what is taken
abbrev settled_by : ℕ → Option ℕ → Option Taken → LinkEnd Wire → Settled Wire
settled_by now held input p =
    record { port = moves_link now (took_where now held input p).port; did = (took_where now held input p).did }

-- with this input, and whether the output buffer is full
abbrev settled_with : ℕ → Option ℕ → Bool → Option Input → LinkEnd Wire → Settled Wire
settled_with now held full input p =
    let q = record p { core = record p.core { input = input } } in
    settled_by now held (if full then None else taken q.core) q

never : (asks : Bool) → (asks && false) ≡ false
never true = refl
never false = refl

-- an input that wasn't taken reads no pins
unread : (input : Option Input) → (is_pins_command input && not (is_some input)) ≡ false
unread None = refl
unread (Some input) = never (is_pins_command (Some input))

abbrev IsMachines : ℕ → Option ℕ → Bool → Option Input → LinkEnd Wire → Type 0
IsMachines now held full input p =
    pins_put 0xb0 (record p.core { input = input }) (settled_with now held full input p)
    ≡ settled_with now held full input p

-- an input that is taken, by whether it is C0
taken_is : (port : Port) (byte now since : ℕ) (is_c0 : Bool) (p : LinkEnd Wire) → (byte == 0xc0) ≡ is_c0
    → IsMachines now (Some since) false (Some (record { port = port; byte = byte })) p
taken_is P60 byte now since is_c0 p h = refl
taken_is P64 byte now since true p h =
    subst (λ b. IsMachines now (Some since) false (Some (record { port = P64; byte = b })) p) (sym (eqb-true byte 0xc0 h)) refl
taken_is P64 byte now since false p h =
    let s = settled_with now (Some since) false (Some (record { port = P64; byte = byte })) p in
    ap (λ reads. put (reads && not (is_some s.port.core.input)) s) h

settled_is : (now : ℕ) (held : Option ℕ) (full : Bool) (input : Option Input) (p : LinkEnd Wire)
    → IsMachines now held full input p
settled_is now None full input p = ap (λ reads. put reads (settled_with now None full input p)) (unread input)
settled_is now (Some since) true input p =
    ap (λ reads. put reads (settled_with now (Some since) true input p)) (unread input)
settled_is now (Some since) false None p = refl
settled_is now (Some since) false (Some input) p = taken_is input.port input.byte now since (input.byte == 0xc0) p refl

-- a break-off leaves the buffers
buffers_are : (breaks : Bool) (now : ℕ) (p : LinkEnd Wire)
    → p.core ≡ (if breaks then record p { link = Hold now } else p).core
buffers_are true now p = refl
buffers_are false now p = refl

-- the settling of a cycle
pub pins_are : (now : ℕ) (p : LinkEnd Wire)
    → pins_put 0xb0 p.core (settled now (broken_off is_breakable now p)) ≡ settled now (broken_off is_breakable now p)
pins_are now p =
    let q = broken_off is_breakable now p in
    ap (λ core. pins_put 0xb0 core (settled now q))
    (buffers_are (may_break is_breakable p.link && not p.awaits && is_some p.core.input) now p)
    ∙ settled_is now (held_since now q.awaits q.link) q.core.output_full q.core.input q
