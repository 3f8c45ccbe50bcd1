-- A byte of the keyboard that has begun is sent, but where an input waits in one of its first 288 cycles.
use Rattle.std.proofs.Common.{◌≡◌, ℕ, suc, zero, ◌+◌, ◌<◌, ◌⊎◌, inl, inr, List, Bool, true, false}
use Rattle.std.proofs.Common.{not, ◌&&◌, ◌||◌, None, refl, ap, ◌∙◌, subst, arith}
use Rattle.std.specs.Prelude.{if◌then◌else◌, is_some}
use Rattle.ctl_core.specs.Commands.{taken}
use Rattle.ctl_core.specs.Controller.{is_disabled}
use Rattle.ctl_link.specs.declared.link.Link.TheVariants.{Hold, Busy}
use Rattle.ctl_link.specs.declared.port.LinkEnd.{LinkEnd}
use Rattle.ctl_link.specs.Link.{begun, broken_off, held_since, link_after, may_break, settled, takes_input, took_where}
use Rattle.board_terms.specs.declared.event.HostEvent.{HostEvent}
use Rattle.host_turn.specs.Cycle.{port_by}
use Rattle.host_turn.specs.Run.{Side, goes_on}
use Rattle.host_turn.proofs.Turns.{turn_of}
use Rattle.model_controller.specs.declared.UnderWay.{UnderWay}
use Rattle.model_controller.specs.ByteTime.{Event, Quiet, Begins, Closes, byte_cycle, closed, happened_at, is_open, of_keyboard, quietly, sends}
use Rattle.law_link_times.specs.Holding.{input_waits, IsBrokenOff}

-- where no input waits, or it can't be broken off, a byte under way stays
three : (a b : Bool) → (a && b && false) ≡ false
three true true = refl
three true false = refl
three false b = refl

unbroken_by : (now : ℕ) (p : LinkEnd UnderWay) → is_some p.core.input ≡ false → broken_off is_open now p ≡ p
unbroken_by now p e =
    ap (λ c. if may_break is_open p.link && not p.awaits && c then record p { link = Hold now } else p) e
    ∙ ap (λ c. if c then record p { link = Hold now } else p) (three (may_break is_open p.link) (not p.awaits))

unbroken_closed : (now : ℕ) (p : LinkEnd UnderWay) (u : UnderWay) → p.link ≡ Busy u → u.breakable ≡ false
    → broken_off is_open now p ≡ p
unbroken_closed now p u e c =
    ap (λ l. if may_break is_open l && not p.awaits && is_some p.core.input then record p { link = Hold now } else p) e
    ∙ ap (λ v. if v && not p.awaits && is_some p.core.input then record p { link = Hold now } else p) c

-- and the controller settles without it
settles : (now : ℕ) (p : LinkEnd UnderWay) (u : UnderWay) → p.link ≡ Busy u → (settled now p).port.link ≡ Busy u
settles now p u e =
    let t : (takes_input now p).port ≡ p =
    ap (λ l. (took_where now (held_since now p.awaits l) (if p.core.output_full then None else taken p.core) p).port) e in
    ap (λ (v : LinkEnd UnderWay).
    link_after now (v.core.output_full || is_disabled v.core) v.awaits v.link) t
    ∙ ap (λ l. link_after now (p.core.output_full || is_disabled p.core) p.awaits l) e

module _ (events : List HostEvent) where
  -- a cycle in which no input waits
  keeps : (now : ℕ) (m : Side UnderWay) (u : UnderWay) → m.port.link ≡ Busy u → input_waits events now m ≡ false
      → (byte_cycle events now Quiet m).port.link ≡ Busy u
  unfolding byte_cycle goes_on
  keeps now m u e w =
      let q : LinkEnd UnderWay = port_by (turn_of events now m) m.port in
      ap (λ v. (settled now v).port.link) (unbroken_by now q w) ∙ settles now q u e

  -- a cycle of a byte that can't be broken off
  keeps_closed : (now : ℕ) (e : Event) (m : Side UnderWay) (u : UnderWay) → (happened_at now e m.port).link ≡ Busy u
      → u.breakable ≡ false → (byte_cycle events now e m).port.link ≡ Busy u
  unfolding byte_cycle goes_on
  keeps_closed now e m u l c =
      let p : LinkEnd UnderWay = happened_at now e m.port in
      let q : LinkEnd UnderWay = port_by (turn_of events now (record m { port = p })) p in
      ap (λ v. (settled now v).port.link) (unbroken_closed now q u l c) ∙ settles now q u l

  closed_span : (n now : ℕ) (m : Side UnderWay) (u : UnderWay) → m.port.link ≡ Busy u → u.breakable ≡ false
      → (quietly events n now m).port.link ≡ Busy u
  closed_span zero now m u e c = e
  closed_span (suc n) now m u e c =
      closed_span n (suc now) (byte_cycle events now Quiet m) u (keeps_closed now Quiet m u e c) c

  -- so many cycles: the byte is under way still, or an input waited in one of them
  abbrev Waited : ℕ → ℕ → Side UnderWay → Type 0
  Waited n now m = (o : ℕ) × (o < n) × (input_waits events (o + now) (quietly events o now m) ≡ true)

  open_span : (n now : ℕ) (m : Side UnderWay) (u : UnderWay) → m.port.link ≡ Busy u
      → ((quietly events n now m).port.link ≡ Busy u) ⊎ Waited n now m
  open_span zero now m u e = inl e
  open_span (suc n) now m u e =
      elim (input_waits events now m) as (λ c. input_waits events now m ≡ c
      → ((quietly events (suc n) now m).port.link ≡ Busy u) ⊎ Waited (suc n) now m) [
        | true ↦ λ w.
            let z : now ≡ 0 + now = omega arith in
            inr (0, omega arith, subst (λ y. input_waits events y m ≡ true) z w)
        | false ↦ λ w.
            let next : Side UnderWay = byte_cycle events now Quiet m in
            elim (open_span n (suc now) next u (keeps now m u e w)) [
              | inl l ↦ inl l
              | inr r ↦
                  let z : r.0 + suc now ≡ suc r.0 + now = omega arith in
                  let l : r.0 < n = r.1 in
                  inr (
                    suc r.0,
                    omega (arith, l),
                    subst (λ y. input_waits events y (quietly events r.0 (suc now) next) ≡ true) z r.2,
                  )
            ]
      ] refl

  -- the cycle in which it begins
  begins_so : (now : ℕ) (m : Side UnderWay)
      → byte_cycle events now (Begins true) m
      ≡ byte_cycle events now Quiet (record m { port = begun of_keyboard m.port })
  unfolding byte_cycle
  begins_so now m = refl

  -- its 320 cycles
  pub sent_or_broken : (now : ℕ) (m : Side UnderWay)
      → ((u : UnderWay) × ((sends events now m).port.link ≡ Busy u)) ⊎ IsBrokenOff events now m
  sent_or_broken now m =
      let m0 : Side UnderWay = record m { port = begun of_keyboard m.port } in
      let u : UnderWay = of_keyboard m.port.flip in
      let off : UnderWay = record u { breakable = false } in
      elim (open_span 288 now m0 u refl) [
        | inl e ↦
            let all : Side UnderWay = quietly events 288 now m0 in
            let c : (byte_cycle events (288 + now) Closes all).port.link ≡ Busy off =
            keeps_closed (288 + now) Closes all off (ap (λ l. closed l) e) refl in
            let begins : quietly events 287 (suc now) (byte_cycle events now (Begins true) m) ≡ all =
            ap (λ v. quietly events 287 (suc now) v) (begins_so now m) in
            inl (
              off,
              ap (λ v. (quietly events 31 (289 + now) (byte_cycle events (288 + now) Closes v)).port.link) begins
                  ∙ closed_span 31 (289 + now) (byte_cycle events (288 + now) Closes all) off c refl,
            )
        | inr r ↦ inr (record { offset = r.0; early = r.1; input = r.2 })
      ]
