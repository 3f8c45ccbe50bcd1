-- A tick in which a byte is received: a host that counts ten falls takes none in it.
use Rattle.std.proofs.Common.{◌≡◌, ◌≤◌, ◌<◌, ℕ, zero, suc, ◌+◌, ◌-◌, ◌*◌, ◌/◌, ◌%◌, Bool, true, false, nat_lt}
use Rattle.std.proofs.Common.{List, refl, subst, arith, inl}
use Rattle.std.proofs.lemmas.Bool.Decides.{nat_tests}
use Rattle.std.specs.declared.option.Option.{Option}
use Rattle.law_fw_link.specs.Latch.{ReceivedFrame}
use Rattle.law_any_host.proofs.Ears.{Kept}
use Rattle.law_any_host.proofs.GotTick.{at_cell, begun, no_fall_in, no_more, up_clk}
use Rattle.law_any_host.proofs.Tenth.{gives, quiet}
use Rattle.law_any_host.proofs.TenthTick.{adds_none}
use Rattle.law_any_host.specs.Ears.{Ear, ear_to, taken_at_tenth}
use Rattle.law_any_host.specs.Rules.{IsRuleful}
use Rattle.law_any_host.specs.Ticks.{frame_lines}
use Rattle.law_any_host.specs.Wires.{AreWires, Wiring}

module _ (w : Wiring) (wires : AreWires w) (rules : IsRuleful w) (x y : ℕ) (long : x + 2016 ≤ y)
    (drives : (o : ℕ) → x + o < y → w.keyboard (x + o) ≡ frame_lines ReceivedFrame o)
    (at_clock : (w.pins (x + 256)).clk ≡ true) (at_data : (w.pins (x + 258)).dat ≡ false) (first : Ear)
    (rests : Kept 0 first (ear_to w x)) where
  abbrev t : ℕ → List (Option ℕ)
  t = taken_at_tenth w

  in_cell : (k i : ℕ) → k ≤ 10 → 32 * k + i < 321 → i < 32 → t (suc (x + (288 + 32 * k + i))) ≡ t (x + (288 + 32 * k + i))
  in_cell k zero few m l =
      let z : 288 + 32 * k ≡ 288 + 32 * k + 0 = omega arith in
      let h = at_cell w wires rules x y long drives at_clock at_data first rests k few in
      subst (λ o. t (suc (x + o)) ≡ t (x + o)) z
      (gives w wires (x + (288 + 32 * k)) (begun w wires rules x y long drives at_clock at_data first rests).byte k h.mode)
  in_cell k (suc i) few m l =
      let z : 289 + 32 * k + i ≡ 288 + 32 * k + suc i = omega arith in
      let f : k ≤ 9 = omega (arith, few, m) in
      let h = at_cell w wires rules x y long drives at_clock at_data first rests k few in
      subst (λ o. t (suc (x + o)) ≡ t (x + o)) z
      (quiet w wires (x + (289 + 32 * k + i))
      (no_fall_in w wires rules x y long drives at_clock at_data first rests k f h i (omega (arith, l))))

  each : (o : ℕ) → x + o < y → t (suc (x + o)) ≡ t (x + o)
  each o l = by (nat_lt o 288) refl (nat_lt o 609) refl
    where
      by : (a : Bool) → nat_lt o 288 ≡ a → (b : Bool) → nat_lt o 609 ≡ b → t (suc (x + o)) ≡ t (x + o)
      by true s b u =
          quiet w wires (x + o)
          (inl (up_clk w wires rules x y long drives at_clock at_data first rests o (grind (arith, nat_tests, s))))
      by false s true u =
          let m : 288 ≤ o = grind (arith, nat_tests, s) in
          let n : o < 609 = grind (arith, nat_tests, u) in
          let k : ℕ = (o - 288) / 32 in
          let i : ℕ = (o - 288) % 32 in
          let p : 288 + 32 * k + i ≡ o = omega (arith, m) in
          subst (λ o. t (suc (x + o)) ≡ t (x + o)) p
          (in_cell k i (omega (arith, p, n)) (omega (arith, p, n)) (omega arith))
      by false s false u =
          quiet w wires (x + o)
          (no_more w wires rules x y long drives at_clock at_data first rests o (grind (arith, nat_tests, u)) l)

  -- in a tick in which the keyboard gets a byte a host that counts ten falls takes none
  pub received : t y ≡ t x
  received = adds_none w wires x y ReceivedFrame long drives each
