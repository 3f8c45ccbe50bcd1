-- The host's turn and the settling do not look at what is known of a byte under way.
use Rattle.std.proofs.Common.{◌≡◌, ℕ, ◌+◌, List, Bool, true, false, not, ◌&&◌, ◌||◌, Some, None, refl, ap, ◌∙◌}
use Rattle.std.specs.Prelude.{if◌then◌else◌, is_some, nat_le, slice_get}
use Rattle.std.specs.declared.option.Option.{Option}
use Rattle.ctl_core.specs.Controller.{ControllerState, asks_again, is_disabled}
use Rattle.ctl_core.specs.Commands.{Taken, taken}
use Rattle.ctl_core.specs.declared.controller.Did.{Did}
use Rattle.ctl_core.specs.declared.controller.Did.TheVariants.{Nothing, ToKeyboard, Output, Pulse}
use Rattle.ctl_link.specs.declared.link.Link.{Link}
use Rattle.ctl_link.specs.declared.link.Link.TheVariants.{Free, Hold, Ask, Request, Busy}
use Rattle.ctl_link.specs.declared.port.LinkEnd.{LinkEnd}
use Rattle.ctl_link.specs.Link.{Settled, core_after, filled_by, next_link, received, held_since, asking, took}
use Rattle.ctl_link.specs.Link.{took_where, takes_input, link_after, moves_link, settled, may_break, broken_off}
use Rattle.board_terms.specs.declared.event.HostEvent.{HostEvent}
use Rattle.host_turn.specs.Host.{Turn, is_done}
use Rattle.host_turn.specs.Run.{Side, goes_on, with_cycled}
use Rattle.host_turn.proofs.Turns.{turn_of}
use Rattle.host_turn.specs.Cycle.{ends_cycle}
use Rattle.law_wires_agree.specs.Without.{link_by, port_by, side_by, without_bits}
use Rattle.model_controller.specs.ByteTime.{is_open}
use Rattle.law_wires_agree.specs.Laws.{GoesOnAlike}
use Rattle.ctl_wire.specs.Wire.{is_breakable}
use Rattle.ctl_wire.specs.declared.wire.Wire.{Wire}
use Rattle.ctl_wire.specs.declared.wire.Wire.TheVariants.{Recv, Send}

module _ {F G : Type 0} (f : F → G) where
  either : (b : Bool) (x y : Link F) → (if b then link_by f x else link_by f y) ≡ link_by f (if b then x else y)
  either true x y = refl
  either false x y = refl

  held_same : (now : ℕ) (awaits : Bool) (l : Link F) → held_since now awaits (link_by f l) ≡ held_since now awaits l
  held_same now awaits Free = refl
  held_same now awaits (Hold since) = refl
  held_same now awaits (Ask byte since) = refl
  held_same now awaits (Request byte) = refl
  held_same now awaits (Busy x) = refl

  asking_same : (since : ℕ) (d : Did) (l : Link F) → asking since d (link_by f l) ≡ link_by f (asking since d l)
  asking_same since Nothing l = refl
  asking_same since (ToKeyboard byte) l = refl
  asking_same since (Output byte) l = refl
  asking_same since (Pulse lines) l = refl

  after_same : (now : ℕ) (stop awaits : Bool) (l : Link F)
      → link_after now stop awaits (link_by f l) ≡ link_by f (link_after now stop awaits l)
  after_same now stop true Free = refl
  after_same now true false Free = refl
  after_same now false false Free = refl
  after_same now true awaits (Hold since) = refl
  after_same now false awaits (Hold since) = either (nat_le (since + 64) now) Free (Hold since)
  after_same now stop awaits (Ask byte since) = either (nat_le (since + 64) now) (Request byte) (Ask byte since)
  after_same now stop awaits (Request byte) = refl
  after_same now stop awaits (Busy x) = refl

  abbrev settled_by : Settled F → Settled G
  settled_by t = record { port = port_by f t.port; did = t.did }

  where_same : (now : ℕ) (since : Option ℕ) (input : Option Taken) (p : LinkEnd F)
      → took_where now since input (port_by f p) ≡ settled_by (took_where now since input p)
  where_same now None input p = refl
  where_same now (Some since) None p = refl
  where_same now (Some since) (Some t) p =
      ap (λ l. record { port = record (took now since t (port_by f p)).port { link = l }; did = t.did }) (asking_same since t.did p.link)

  takes_same : (now : ℕ) (p : LinkEnd F) → takes_input now (port_by f p) ≡ settled_by (takes_input now p)
  takes_same now p =
      let input : Option Taken = if p.core.output_full then None else taken p.core in
      ap (λ h. took_where now h input (port_by f p)) (held_same now p.awaits p.link)
      ∙ where_same now (held_since now p.awaits p.link) input p

  moves_same : (now : ℕ) (p : LinkEnd F) → moves_link now (port_by f p) ≡ port_by f (moves_link now p)
  moves_same now p = ap (λ l. record (port_by f p) { link = l }) (after_same now (p.core.output_full || is_disabled p.core) p.awaits p.link)

  -- how the controller settles doesn't depend on what is known of a byte under way
  pub settled_same : (now : ℕ) (p : LinkEnd F) → settled now (port_by f p) ≡ settled_by (settled now p)
  settled_same now p =
      ap (λ t. record { port = moves_link now t.port; did = t.did }) (takes_same now p)
      ∙ ap (λ q. record { port = q; did = (takes_input now p).did }) (moves_same now (takes_input now p).port)

  -- so it is with a byte of the keyboard that has come
  afterwards_same : (now : ℕ) (came : Option ℕ) (s : ControllerState) → link_by f (next_link now came s) ≡ next_link now came s
  afterwards_same now (Some byte) s = refl
  afterwards_same now None s = by_count (asks_again s)
    where
      by_count : (c : Bool) → link_by f (if c then Ask 0xfe now else Hold now) ≡ (if c then Ask 0xfe now else Hold now)
      by_count true = refl
      by_count false = refl

  -- what the controller does with a byte that came doesn't depend on what is known of a byte under way
  pub received_same : (now : ℕ) (came : Option ℕ) (p : LinkEnd F) → port_by f (received now came p) ≡ received now came (port_by f p)
  received_same now came p =
      ap (λ l. record {
        core = core_after came p.core;
        filled = filled_by now
            (core_after came p.core) p.filled;
        link = l;
        awaits = false;
        flip = p.flip;
      })
      (afterwards_same now came p.core)

  module _ (here : F → Bool) (there : G → Bool) (alike : (x : F) → there (f x) ≡ here x) where
    breaks_same : (l : Link F) → may_break there (link_by f l) ≡ may_break here l
    breaks_same Free = refl
    breaks_same (Hold since) = refl
    breaks_same (Ask byte since) = refl
    breaks_same (Request byte) = refl
    breaks_same (Busy x) = alike x

    broken_by : (c : Bool) (now : ℕ) (p : LinkEnd F)
        → (if c then record (port_by f p) { link = Hold now } else port_by f p) ≡ port_by f (if c then record p { link = Hold now } else p)
    broken_by true now p = refl
    broken_by false now p = refl

    broken_same : (now : ℕ) (p : LinkEnd F) → broken_off there now (port_by f p) ≡ port_by f (broken_off here now p)
    broken_same now p =
        ap (λ c. if c && not p.awaits
        && is_some p.core.input then record (port_by f p) { link = Hold now } else port_by f p) (breaks_same p.link)
        ∙ broken_by (may_break here p.link && not p.awaits && is_some p.core.input) now p

    -- a cycle goes on alike, whatever is known of a byte under way
    pub goes_on_same : (events : List HostEvent) (now : ℕ) (s : Side F)
        → goes_on there events now (side_by f s) ≡ side_by f (goes_on here events now s)
    unfolding goes_on
    goes_on_same events now s =
        let t : Turn = turn_of events now s in
        let p : LinkEnd F = Rattle.host_turn.specs.Cycle.port_by t s.port in
        let done : Bool = is_done now (slice_get events s.done) s.port.core in
        ap (λ q. with_cycled now (ends_cycle t done q) (side_by f s))
        (ap (λ q. settled now q) (broken_same now p) ∙ settled_same now (broken_off here now p))

-- at the wires and in byte time
pub in_bytes_same : GoesOnAlike
in_bytes_same events now s = goes_on_same without_bits is_breakable is_open alike events now s
  where
    alike : (x : Wire) → (without_bits x).breakable ≡ is_breakable x
    alike (Recv flip bits) = refl
    alike (Send byte edges) = refl
