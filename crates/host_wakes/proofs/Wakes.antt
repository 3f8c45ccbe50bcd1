-- Before the first of these cycles nothing happens.
use Rattle.std.proofs.Common.{◌≡◌, ℕ, suc, ◌+◌, ◌≤◌, ◌<◌, ◌++◌, Bool, true, false, not, ◌&&◌, ◌||◌, Some, None, refl, ap, ◌∙◌, arith}
use Rattle.std.specs.Prelude.{is_some, if◌then◌else◌, nat_le, min, max}
use Rattle.std.specs.declared.option.Option.{Option}
use Rattle.std.proofs.lemmas.Bool.Decides.{nat_tests}
use Rattle.ctl_core.specs.Commands.{Taken, taken_from}
use Rattle.ctl_core.specs.Controller.{ControllerState, interrupt_enabled, is_disabled}
use Rattle.ctl_core.specs.declared.port.Input.{Input}
use Rattle.ctl_core.specs.declared.controller.Did.TheVariants.{Nothing}
use Rattle.ctl_link.specs.declared.link.Link.{Link}
use Rattle.ctl_link.specs.declared.link.Link.TheVariants.{Free, Hold, Ask, Request, Busy}
use Rattle.ctl_link.specs.declared.port.LinkEnd.{LinkEnd}
use Rattle.ctl_link.specs.Link.{Settled, settled, took_where, held_since, link_after, moves_link, may_break, broken_off}
use Rattle.board_terms.specs.declared.event.HostEvent.{HostEvent}
use Rattle.host_turn.specs.declared.desk.Desk.{Desk}
use Rattle.host_turn.specs.Host.{Host, Turn, event_turn, bios_turn, turn, acted_where, in_silence, interrupts, read_by_bios, is_done, waits}
use Rattle.host_turn.specs.Cycle.{ends_cycle, host_of, port_by}
use Rattle.host_wakes.specs.Wakes.{event_wake, read_wake, break_wake, take_wake, link_wake, wakes, SleepsTo}

and-false : (a : Bool) → (a && false) ≡ false
and-false true = refl
and-false false = refl

no_event : (y : ℕ) (next : Option HostEvent) (s : ControllerState) (end : ℕ) → y < event_wake next s end → is_done y next s ≡ false
no_event y None s end l = refl
no_event y (Some e) s end l =
    elim (waits e.act s) as (λ w. y < (if w then end else e.stamp + 4096) → (nat_le (e.stamp + 4096) y && not w) ≡ false) [
      | true ↦ λ k. and-false (nat_le (e.stamp + 4096) y)
      | false ↦ λ k. let g : nat_le (e.stamp + 4096) y ≡ false = grind (arith, nat_tests, k) in ap (λ c. c && true) g
    ] l

no_read : (y filled : ℕ) (h : Host) (end : ℕ) → y < read_wake filled h.masked h.core end → interrupts y filled h ≡ false
no_read y filled h end l =
    elim (h.core.output_full && interrupt_enabled h.core
    && not h.masked) as (λ g. y < (if g then filled + 64 else end) → (g && nat_le (filled + 64) y) ≡ false) [
      | true ↦ λ k. grind (arith, nat_tests, k)
      | false ↦ λ k. refl
    ] l

silent : (y : ℕ) (next : Option HostEvent) (h : Host) → is_done y next h.core ≡ false → event_turn y next h ≡ in_silence h
silent y None h e = refl
silent y (Some event) h e = ap (λ c. acted_where c event.act h) e

module _ {F : Type 0} where
  no_take : (y : ℕ) (l : Link F) (awaits full : Bool) (input : Option Input) (core : ControllerState) (p : LinkEnd F)
      (end : ℕ) (nothing : Option Taken) → nothing ≡ None
      → y < take_wake l awaits full (is_some input) end
      → took_where y (held_since y awaits l) (if full then nothing else taken_from input core) p ≡ record { port = p; did = Nothing }
  no_take y Free true full input core p end nothing n l = refl
  no_take y Free false true input core p end nothing n l = ap (λ v. took_where y (Some y) v p) n
  no_take y Free false false None core p end nothing n l = refl
  no_take y Free false false (Some i) core p end nothing n l = absurd (omega (arith, l))
  no_take y (Hold since) awaits true input core p end nothing n l = ap (λ v. took_where y (Some since) v p) n
  no_take y (Hold since) awaits false None core p end nothing n l = refl
  no_take y (Hold since) awaits false (Some i) core p end nothing n l = absurd (omega (arith, l))
  no_take y (Ask byte since) awaits full input core p end nothing n l = refl
  no_take y (Request byte) awaits full input core p end nothing n l = refl
  no_take y (Busy u) awaits full input core p end nothing n l = refl

  no_move : (y : ℕ) (l : Link F) (awaits stop : Bool) (end : ℕ) → y < link_wake l awaits stop end → link_after y stop awaits l ≡ l
  no_move y Free true stop end l = refl
  no_move y Free false true end l = absurd (omega (arith, l))
  no_move y Free false false end l = refl
  no_move y (Hold since) awaits true end l = refl
  no_move y (Hold since) awaits false end l = let g : nat_le (since + 64) y ≡ false = grind (arith, nat_tests, l) in
      ap (λ c. if c then Free else Hold since) g
  no_move y (Ask byte since) awaits stop end l = let g : nat_le (since + 64) y
      ≡ false = grind (arith, nat_tests, l) in ap (λ c. if c then Request byte else Ask byte since) g
  no_move y (Request byte) awaits stop end l = refl
  no_move y (Busy u) awaits stop end l = refl

  no_break : (breaks : F → Bool) (y : ℕ) (p : LinkEnd F) (end : ℕ)
      → y < break_wake breaks p.link p.awaits (is_some p.core.input) end → broken_off breaks y p ≡ p
  no_break breaks y p end l =
      elim (may_break breaks p.link && not p.awaits && is_some p.core.input) as (λ c. y < (if c then 0 else end)
      → (if c then record p { link = Hold y } else p) ≡ p) [
        | true ↦ λ k. absurd (omega (arith, k))
        | false ↦ λ k. refl
      ] l

  -- before the cycle in which the PC wakes nothing happens there
  pub sleeps : (breaks : F → Bool) (next : Option HostEvent) (d : Desk F) (end from to : ℕ)
      → to ≤ wakes breaks next d end → SleepsTo breaks next d from to
  sleeps breaks next d end from to low y l u =
      let p : LinkEnd F = d.port in
      let h : Host = host_of d in
      let stop : Bool = p.core.output_full || is_disabled p.core in
      let a : ℕ = event_wake next p.core end in
      let b : ℕ = read_wake p.filled d.masked p.core end in
      let e : ℕ = break_wake breaks p.link p.awaits (is_some p.core.input) end in
      let c : ℕ = take_wake p.link p.awaits p.core.output_full (is_some p.core.input) end in
      let k : ℕ = link_wake p.link p.awaits stop end in
      let all : y < min (min a b) (min e (min c k)) = omega (arith, low, u) in
      let due : is_done y next p.core ≡ false = no_event y next p.core end (grind (arith, all)) in
      let event : event_turn y next h ≡ in_silence h = silent y next h due in
      let unread : interrupts y p.filled h ≡ false = no_read y p.filled h end (grind (arith, all)) in
      let no_bios : bios_turn y p.filled h ≡ in_silence h =
      ap (λ v. if v then read_by_bios h else in_silence h) unread in
      let turned : turn y p.filled next h ≡ in_silence h =
      ap (λ (t : Turn). record { host = (bios_turn y p.filled t.host).host; items = t.items ++ (bios_turn y p.filled t.host).items }) event
      ∙ ap (λ (t : Turn). record { host = t.host; items = t.items }) no_bios in
      let nothing : Option Taken = None in
      let takes : took_where y (held_since y p.awaits p.link) (if p.core.output_full then nothing else taken_from p.core.input p.core) p
      ≡ record { port = p; did = Nothing } =
      no_take y p.link p.awaits p.core.output_full p.core.input p.core p end nothing refl (grind (arith, all)) in
      let moved : moves_link y p ≡ p =
      ap (λ v. record p { link = v }) (no_move y p.link p.awaits stop end (grind (arith, all))) in
      let ends : settled y p ≡ record { port = p; did = Nothing } =
      ap (λ (t : Settled F). record { port = moves_link y t.port; did = t.did }) takes
      ∙ ap (λ q. record { port = q; did = Nothing }) moved in
      let whole : settled y (broken_off breaks y p) ≡ record { port = p; did = Nothing } =
      ap (λ v. settled y v) (no_break breaks y p end (grind (arith, all))) ∙ ends in
      ap (λ (t : Turn). ends_cycle t (is_done y next p.core) (settled y (broken_off breaks y (port_by t p)))) turned
      ∙ ap (λ v. ends_cycle (in_silence h) v (settled y (broken_off breaks y p))) due
      ∙ ap (λ q. ends_cycle (in_silence h) false q) whole

-- up to the cycle in which the PC wakes, or the end if that is first, nothing happens there
pub sleeps_by : {F : Type 0} (breaks : F → Bool) (next : Option HostEvent) (d : Desk F) (end from to : ℕ)
    → to ≡ max from (min (wakes breaks next d end) end) → SleepsTo breaks next d from to
sleeps_by breaks next d end from to e y l u =
    let w : suc y ≤ wakes breaks next d end = omega (arith, e, l, u) in
    let s : y < suc y = omega arith in
    sleeps breaks next d end from (suc y) w y l s

-- the first of two cycles, each no later than the end
pub first_of : (a b end x y : ℕ) → x ≡ min a end → y ≡ min b end → min x y ≡ min (min a b) end
first_of a b end x y h g = omega (arith, h, g)

-- the greater of two numbers is the same in either order
pub turned_round : (x y : ℕ) → max x y ≡ max y x
turned_round x y = omega arith
