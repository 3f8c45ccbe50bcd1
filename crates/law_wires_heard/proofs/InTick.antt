-- The law in each step of a tick.
use Rattle.std.proofs.Common.{◌≡◌, ◌≤◌, ◌<◌, ℕ, suc, ◌+◌, ◌-◌, ◌*◌, Bool, true, false, ◌==◌, Some, refl, ap, sym, ◌∙◌, subst, arith}
use Rattle.std.proofs.lemmas.Bool.Decides.{nat_tests}
use Rattle.bits.proofs.Every.{same_of}
use Rattle.bits.specs.Bits.{bit}
use Rattle.ctl_link.specs.Link.{is_busy}
use Rattle.run_probes.specs.Transfers.{completed}
use Rattle.law_fw_link.proofs.Wired.{IsReleased}
use Rattle.law_fw_link.specs.Latch.{Frame}
use Rattle.joint_feed.specs.Stories.{Story, state_at}
use Rattle.joint_run.specs.Joint.{Beside}
use Rattle.joint_run.specs.Run.{World}
use Rattle.law_wires_heard.proofs.Clock.{cells, clock_in, low_is, Fits}
use Rattle.law_wires_heard.proofs.Gathering.{completes_last}
use Rattle.law_wires_heard.proofs.Pulls.{link_of, comes_from, later}
use Rattle.law_wires_heard.proofs.Silent.{IsTick, placed, silent}
use Rattle.law_wires_heard.proofs.Stepping.{ends_last, ends_nothing, IsLast}
use Rattle.law_wires_heard.proofs.Ticks.{last_latch, drives, eleven_at_most, IsIn, Goes}
use Rattle.law_wires_heard.proofs.HeardAtLastCell.{IsWhole}
use Rattle.law_wires_heard.specs.Hearing.{heard_to, listed, sample_in, transfer_at, transfer_in}
use Rattle.law_wires_heard.specs.Passing.{passed_at, passed_between, passed_in}

module _ (s : Story) (k0 k1 x : ℕ) (start : Beside) (old v : ℕ) (was : IsReleased old) (is : IsReleased v)
    (frame : Frame) (fits : Fits old v was is frame) (idle : is_busy (link_of start) ≡ false)
    (t : IsTick s k0 k1 x start old v was is frame fits idle)
    (whole : cells frame ≡ 11 → IsWhole s.events x start old v was is idle frame fits) where
  abbrev n : ℕ
  n = cells frame

  abbrev In : World Beside → ℕ → Type 0
  In = IsIn s.events x start old v was is frame fits idle

  abbrev On : World Beside → World Beside → Type 0
  On = Goes s.events x start old v was is frame fits idle

  abbrev Last : ℕ → Type 0
  Last = IsLast s.events x start old v was is frame fits idle

  module _ (k : ℕ) (one next : World Beside) (a : k0 ≤ k) (b : k < k1) (from : state_at s k ≡ Some one)
      (to : state_at s (suc k) ≡ Some next) where
    at_last : (i : In one 608) → On one next → n ≡ 11 → listed (completed (sample_in next) (heard_to s k)) ≡ passed_in s.events one next
    at_last i g all =
        let w = whole all in
        ap listed (completes_last s k0 k1 x start old v was is frame fits idle t all w.opens k one next a b from to i g)
        ∙ w.so ∙ sym (ends_last s.events x start old v was is frame fits idle one next 608 i g refl)

    elsewhere : (o : ℕ) (i : In one o)
        → On one next → (Last o → ⊥) → listed (completed (sample_in next) (heard_to s k)) ≡ passed_in s.events one next
    elsewhere o i g not_last =
        ap listed (silent s k0 k1 x start old v was is frame fits idle t k one next o a b from to i g not_last)
        ∙ sym (ends_nothing s.events x start old v was is frame fits idle one next o i g not_last)

    by : (o : ℕ) (i : In one o) → On one next → (p : Bool) → (o == 608) ≡ p → (q : Bool) → (n == 11) ≡ q
        → listed (completed (sample_in next) (heard_to s k)) ≡ passed_in s.events one next
    by o i g true e true d = at_last (subst (λ m. In one m) (same_of o 608 e) i) g (same_of n 11 d)
    by o i g true e false d =
        elsewhere o i g (λ last. let all : n ≡ 11 = last.1 in absurd (let z : (n == 11) ≡ true = grind (arith, nat_tests, all) in cc))
    by o i g false e q d =
        elsewhere o i g (λ last. let at : o ≡ 608 = last.0 in absurd (let z : (o == 608) ≡ true = grind (arith, nat_tests, at) in cc))

    heard_step : listed (completed (sample_in next) (heard_to s k)) ≡ passed_in s.events one next
    heard_step =
        let p = placed s k0 k1 x start old v was is frame fits idle t k one a (le b) from in
        by p.0 p.1 (t.goes k one next a b from to) (p.0 == 608) refl (n == 11) refl
      where
        le : k < k1 → k ≤ k1
        le l = omega (arith, l)

  -- what is heard in a step is what ends in it
  pub heard_at : (k : ℕ) (next : World Beside) → k0 ≤ k → k < k1 → state_at s (suc k) ≡ Some next → transfer_at s k ≡ passed_at s k
  heard_at k next a b to =
      let c = comes_from s k next to in
      ap (λ o. transfer_in o (heard_to s k)) to ∙ heard_step k c.before next a b c.at to
      ∙ sym (ap (λ o. passed_between s.events o (state_at s (suc k))) c.at ∙ ap (λ o. passed_between s.events (Some c.before) o) to)

  -- long after the frame the latch leaves the clock alone
  pub high_later : (y : ℕ) → x + 2000 ≤ y → (j : ℕ) (u : World Beside) → j ≤ k1 → state_at s j ≡ Some u → y < u.cycle + 330
      → k0 ≤ j → bit 0 u.cpu.p2 ≡ true
  high_later y far j u l at near from =
      let p = placed s k0 k1 x start old v was is frame fits idle t j u from l at in
      let here : u.cycle ≡ x + p.0 = p.1.cycle in
      let z : suc (p.0 - 1) ≡ p.0 = omega (arith, here, far, near) in
      ap (bit 0) (p.1.p2 ∙ ap (last_latch s.events x start old v was is frame fits idle) (sym z))
      ∙ drives s.events x start old v was is frame fits idle (p.0 - 1)
      ∙ late (p.0 - 1) (omega (arith, here, far, near)) (clock_in n (p.0 - 1)) refl
    where
      late : (o : ℕ) → 1000 ≤ o → (c : Bool) → clock_in n o ≡ c → clock_in n o ≡ true
      late o l true e = e
      late o l false e =
          let d = low_is n o e in
          let few : d.cell < n = d.few in
          let most : n ≤ 11 = eleven_at_most s.events x start old v was is frame fits idle in
          let to : o < 304 + 32 * d.cell = d.to in
          absurd (omega (arith, few, most, to, l))

  -- from 330 cycles before the next tick start on, the latch of port 2 lets the clock go
  pub high_next : (y : ℕ) → x + 2000 ≤ y → k0 ≤ k1 → (j : ℕ) (u : World Beside) → j ≤ k1 → state_at s j ≡ Some u → y < u.cycle + 330
      → bit 0 u.cpu.p2 ≡ true
  high_next y far some j u l at near = by (Rattle.std.specs.Prelude.nat_lt j k0) refl
    where
      by : (c : Bool) → Rattle.std.specs.Prelude.nat_lt j k0 ≡ c → bit 0 u.cpu.p2 ≡ true
      by true e =
          let m : j < k0 = grind (arith, nat_tests, e) in
          let z : (k0 - j) + j ≡ k0 = omega (arith, m) in
          let order : u.cycle + (k0 - j) ≤ t.w.cycle = later s (k0 - j) j u t.w at (ap (λ i. state_at s i) z ∙ t.at) in
          let there : t.w.cycle ≡ x + 0 = t.begins.cycle in
          absurd (omega (arith, order, there, far, near))
      by false e = high_later y far j u l at near (grind (arith, nat_tests, e))
