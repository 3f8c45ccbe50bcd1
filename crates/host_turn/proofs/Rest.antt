-- At rest, and with no event due, a cycle changes nothing.
use Rattle.std.proofs.Common.{◌≡◌, ℕ, ◌+◌, [], ◌++◌, Bool, true, false, not, ◌&&◌, ◌||◌, Some, None, refl, ap, ◌∙◌}
use Rattle.std.specs.Prelude.{is_some, if◌then◌else◌, nat_le}
use Rattle.std.specs.declared.option.Option.{Option}
use Rattle.std.proofs.lemmas.Bool.{not-true}
use Rattle.bits.proofs.Every.{and-left, and-right}
use Rattle.ctl_core.specs.Commands.{Taken, taken_from}
use Rattle.ctl_core.specs.Controller.{ControllerState, is_idle, is_disabled, interrupt_enabled}
use Rattle.ctl_core.specs.declared.port.Input.{Input}
use Rattle.ctl_core.specs.declared.controller.Did.TheVariants.{Nothing}
use Rattle.ctl_link.specs.declared.link.Link.{Link}
use Rattle.ctl_link.specs.declared.link.Link.TheVariants.{Free, Hold, Ask, Request, Busy}
use Rattle.ctl_link.specs.declared.port.LinkEnd.{LinkEnd}
use Rattle.ctl_link.specs.Link.{Settled, broken_off, settled, is_busy, took_where, held_since, link_after, moves_link}
use Rattle.ctl_link.proofs.Breaks.{unbroken}
use Rattle.board_terms.specs.declared.event.HostEvent.{HostEvent}
use Rattle.host_turn.specs.declared.desk.Desk.{Desk}
use Rattle.host_turn.specs.Host.{Host, Turn, event_turn, bios_turn, turn, acted_where, in_silence, read_by_bios, is_done, waits}
use Rattle.host_turn.specs.Cycle.{cycled, ends_cycle, host_of}
use Rattle.host_turn.specs.Rest.{is_free, is_at_rest, is_due}

no_input : (i : Option Input) → is_some i ≡ false → i ≡ None
no_input None h = refl
no_input (Some x) h = absurd cc

-- the settling, with an empty input buffer and nothing to stop for
settles_free : {F : Type 0} (now : ℕ) (p : LinkEnd F) (l : Link F) (awaits : Bool) → is_free l ≡ true
    → (took_where now (held_since now awaits l) None (record p { link = l; awaits = awaits }))
    ≡ record { port = record p { link = l; awaits = awaits }; did = Nothing }
settles_free now p Free true h = refl
settles_free now p Free false h = refl
settles_free now p (Hold since) awaits h = absurd cc
settles_free now p (Ask byte since) awaits h = absurd cc
settles_free now p (Request byte) awaits h = absurd cc
settles_free now p (Busy x) awaits h = absurd cc

stays : {F : Type 0} (now : ℕ) (l : Link F) (awaits : Bool) → is_free l ≡ true → link_after now false awaits l ≡ l
stays now Free true h = refl
stays now Free false h = refl
stays now (Hold since) awaits h = absurd cc
stays now (Ask byte since) awaits h = absurd cc
stays now (Request byte) awaits h = absurd cc
stays now (Busy x) awaits h = absurd cc

silent : (now : ℕ) (next : Option HostEvent) (h : Host) → is_done now next h.core ≡ false → event_turn now next h ≡ in_silence h
silent now None h e = refl
silent now (Some event) h e = ap (λ c. acted_where c event.act h) e

not_done : (now : ℕ) (next : Option HostEvent) (s : ControllerState) → is_due now next ≡ false → is_done now next s ≡ false
not_done now None s e = refl
not_done now (Some event) s e = ap (λ c. c && not (waits event.act s)) e

-- a free link has no byte under way
free_idle : {F : Type 0} (l : Link F) → is_free l ≡ true → is_busy l ≡ false
free_idle Free h = refl
free_idle (Hold since) h = absurd cc
free_idle (Ask byte since) h = absurd cc
free_idle (Request byte) h = absurd cc
free_idle (Busy x) h = absurd cc

-- a cycle at rest, in which no event is due, changes nothing and says nothing
pub rests : {F : Type 0} (breaks : F → Bool) (now : ℕ) (next : Option HostEvent) (d : Desk F)
    → (is_at_rest d && not (is_due now next)) ≡ true
    → cycled breaks now next d ≡ record { desk = d; items = []; done = false }
rests {F = F} breaks now next d rest =
    let p : LinkEnd F = d.port in
    let no_in : Bool = not (is_some p.core.input) in
    let no_out : Bool = not p.core.output_full in
    let idle : is_idle p.core ≡ true = and-right (is_free p.link) (is_idle p.core) (and-left (is_at_rest d) (not (is_due now next)) rest) in
    let free : is_free p.link ≡ true = and-left (is_free p.link) (is_idle p.core) (and-left (is_at_rest d) (not (is_due now next)) rest) in
    let due : is_done now next p.core
    ≡ false = not_done now next p.core (not-true (is_due now next) (and-right (is_at_rest d) (not (is_due now next)) rest)) in
    let buffers : (no_in && no_out) ≡ true = and-left (no_in && no_out) (not (is_disabled p.core)) idle in
    let empty_input : p.core.input ≡ None = no_input p.core.input (not-true (is_some p.core.input) (and-left no_in no_out buffers)) in
    let empty : p.core.output_full ≡ false = not-true p.core.output_full (and-right no_in no_out buffers) in
    let on : is_disabled p.core ≡ false = not-true (is_disabled p.core) (and-right (no_in && no_out) (not (is_disabled p.core)) idle) in
    let h : Host = host_of d in
    let event : event_turn now next h ≡ in_silence h = silent now next h due in
    let no_read : bios_turn now p.filled h ≡ in_silence h =
    ap (λ c. if c && interrupt_enabled h.core && not h.masked && nat_le (p.filled + 64) now then read_by_bios h else in_silence h) empty in
    let turned : turn now p.filled next h ≡ in_silence h =
    ap (λ (t : Turn). record {
      host = (bios_turn now p.filled t.host).host;
      items = t.items
          ++ (bios_turn now p.filled t.host).items;
    }) event
    ∙ ap (λ (t : Turn). record { host = t.host; items = t.items }) no_read in
    let none : Option Taken = None in
    let takes : took_where now (held_since now p.awaits p.link)
    (if p.core.output_full then none else taken_from p.core.input p.core) p ≡ record { port = p; did = Nothing } =
    ap (λ c. took_where now (held_since now p.awaits p.link) (if c then none else taken_from p.core.input p.core) p) empty
    ∙ ap (λ i. took_where now (held_since now p.awaits p.link) (taken_from i p.core) p) empty_input
    ∙ settles_free now p p.link p.awaits free in
    let stop : (p.core.output_full || is_disabled p.core) ≡ false = ap (λ c. c || is_disabled p.core) empty ∙ on in
    let moved : moves_link now p ≡ p = ap (λ c. record p { link = link_after now c p.awaits p.link }) stop
    ∙ ap (λ l. record p { link = l }) (stays now p.link p.awaits free) in
    let all : settled now p ≡ record { port = p; did = Nothing } =
    ap (λ (t : Settled F). record { port = moves_link now t.port; did = t.did }) takes
    ∙ ap (λ q. record { port = q; did = Nothing }) moved in
    let one : settled now (broken_off breaks now p) ≡ record { port = p; did = Nothing } =
    ap (λ q. settled now q) (unbroken breaks now p (free_idle p.link free)) ∙ all in
    ap (λ (t : Turn). ends_cycle t (is_done now next p.core)
    (settled now (broken_off breaks now (Rattle.host_turn.specs.Cycle.port_by t p)))) turned
    ∙ ap (λ c. ends_cycle (in_silence h) c (settled now (broken_off breaks now p))) due
    ∙ ap (λ q. ends_cycle (in_silence h) false q) one
