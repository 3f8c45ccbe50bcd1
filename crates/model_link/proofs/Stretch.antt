-- The loop over quiet cycles that leaves out those in which nothing happens.
use Rattle.std.proofs.Common.{◌≡◌, ℕ, ◌+◌, ◌-◌, ◌≤◌, List, length, Bool, true, false, ◌&&◌, Some, None, refl, ap, sym, ◌∙◌, subst, arith}
use Rattle.std.specs.Prelude.{if◌then◌else◌, slice_get, nat_lt}
use Rattle.std.specs.declared.option.Option.{Option}
use Rattle.std.proofs.lemmas.Option.{slice_get_past}
use Rattle.std.proofs.lemmas.Bool.Decides.{nat_tests}
use Rattle.board_terms.specs.declared.event.HostEvent.{HostEvent}
use Rattle.host_turn.specs.declared.desk.Desk.{Desk}
use Rattle.host_turn.specs.Cycle.{cycled}
use Rattle.host_turn.specs.Run.{Side, desk_of, goes_on}
use Rattle.model_controller.specs.declared.UnderWay.{UnderWay}
use Rattle.model_controller.specs.ByteTime.{Quiet, byte_cycle, is_open, quietly}
use Rattle.model_controller.proofs.Quiet.{quiet_more}
use Rattle.host_wakes.specs.Wakes.{SleepsTo}
use Rattle.model_link.proofs.Wakes.{leaps}

module _ (events : List HostEvent) (from : ℕ) (s : Side UnderWay) where
  -- before the first cycle of a stretch the side is as it was
  pub run_starts : s ≡ quietly events (from - from) from s
  run_starts = let z : from - from ≡ 0 = omega arith in sym (ap (λ k. quietly events k from s) z)

  -- cycles in which nothing happens
  pub run_leaps : (now to : ℕ) (m : Side UnderWay) → from ≤ now → now ≤ to → m ≡ quietly events (now - from) from s
      → SleepsTo is_open (slice_get events m.done) (desk_of m) now to → m ≡ quietly events (to - from) from s
  run_leaps now to m l u r sleep =
      let a : (now - from) + (to - now) ≡ to - from = omega (arith, l, u) in
      let b : (now - from) + from ≡ now = omega (arith, l) in
      let c : now + (to - now) ≡ to = omega (arith, u) in
      let there : SleepsTo is_open (slice_get events m.done) (desk_of m) now (now + (to - now)) =
      subst (λ k. SleepsTo is_open (slice_get events m.done) (desk_of m) now k) (sym c) sleep in
      sym (quiet_more events (now - from) (to - now) (to - from) from s a
      ∙ ap (λ k. quietly events (to - now) k (quietly events (now - from) from s)) b
      ∙ ap (λ v. quietly events (to - now) now v) (sym r)
      ∙ leaps events (to - now) now m there)

  -- one cycle
  cycle_is : (now : ℕ) (m : Side UnderWay) → byte_cycle events now Quiet m ≡ goes_on is_open events now m
  unfolding byte_cycle
  cycle_is now m = refl

  -- one cycle more leads on as quiet cycles do
  pub run_once : (now to : ℕ) (m m' : Side UnderWay) → from ≤ now → to ≡ now + 1 → m ≡ quietly events (now - from) from s
      → m' ≡ goes_on is_open events now m → m' ≡ quietly events (to - from) from s
  run_once now to m m' l t r e =
      let a : (now - from) + 1 ≡ to - from = omega (arith, l, t) in
      let b : (now - from) + from ≡ now = omega (arith, l) in
      e ∙ sym (cycle_is now m) ∙ ap (λ v. byte_cycle events now Quiet v) r
      ∙ sym (quiet_more events (now - from) 1 (to - from) from s a
      ∙ ap (λ k. byte_cycle events k Quiet (quietly events (now - from) from s)) b)

-- one more event is done, where it was and there is one
and_true : (b : Bool) (n : ℕ) → (if b && true then n + 1 else n) ≡ (if b then n + 1 else n)
and_true true n = refl
and_true false n = refl

no_more : (now : ℕ) (d : Desk UnderWay) (o : Option HostEvent) → o ≡ None → (cycled is_open now o d).done ≡ false
no_more now d None e = refl
no_more now d (Some v) e = absurd cc

-- the count of events goes up by one exactly if the cycle did an event
pub count_is : (events : List HostEvent) (now n : ℕ) (d : Desk UnderWay) (b : Bool) → b ≡ (cycled is_open now (slice_get events n) d).done
    → (if b && nat_lt n (length events) then n + 1 else n) ≡ (if (cycled is_open now (slice_get events n) d).done then n + 1 else n)
count_is events now n d b h =
    ap (λ v. if v && nat_lt n (length events) then n + 1 else n) h
    ∙ (elim (nat_lt n (length events)) as (λ c. nat_lt n (length events) ≡ c
    → (if (cycled is_open now (slice_get events n) d).done && c then n + 1 else n)
    ≡ (if (cycled is_open now (slice_get events n) d).done then n + 1 else n)) [
      | true ↦ λ g. and_true (cycled is_open now (slice_get events n) d).done n
      | false ↦ λ g.
          let past : length events ≤ n = grind (arith, nat_tests, g) in
          let o : slice_get events n ≡ None = slice_get_past events n past in
          let f : (cycled is_open now (slice_get events n) d).done ≡ false = no_more now d (slice_get events n) o in
          ap (λ v. if v && false then n + 1 else n) f ∙ sym (ap (λ v. if v then n + 1 else n) f)
    ] refl)
