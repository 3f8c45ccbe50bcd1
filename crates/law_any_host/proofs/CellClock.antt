-- The clock of a frame's eleven cells, as a host sees it.
use Rattle.std.proofs.Common.{◌≡◌, ◌≤◌, ◌<◌, ℕ, zero, suc, ◌+◌, ◌-◌, ◌*◌, Bool, true, false, nat_le, nat_lt, refl, ap, sym, ◌∙◌, subst, arith, inl}
use Rattle.std.proofs.lemmas.Bool.Decides.{nat_tests}
use Rattle.law_any_host.proofs.Ears.{NoFall}
use Rattle.law_any_host.proofs.Offsets.{falls_at, high_at, low_at}
use Rattle.law_any_host.specs.Ears.{fell}
use Rattle.law_any_host.specs.Wires.{AreWires, Wiring}

-- from a tick's start on the keyboard drives the clock of eleven cells, and lets it go before them and after them
pub record DrivesCells (w : Wiring) (x y : ℕ) : Type 0 where
  pub most : ℕ
  pub long : 338 ≤ most
  pub short : most ≤ 340
  pub up : (o : ℕ) → o < 288 → (w.keyboard (x + o)).clk ≡ true
  pub clock : (k i : ℕ) → i < 32 → 32 * k + i < most → (w.keyboard (x + (288 + 32 * k + i))).clk ≡ nat_le 16 i
  pub late : (o : ℕ) → 288 + most ≤ o → x + o < y → (w.keyboard (x + o)).clk ≡ true

module _ (w : Wiring) (wires : AreWires w) (x y : ℕ) (d : DrivesCells w x y) where
  -- the keyboard lets the clock go before it falls
  before : (k i : ℕ) → k ≤ 10 → i < 3 → (w.keyboard (x + (285 + 32 * k + i))).clk ≡ true
  before zero i few l = d.up (285 + 32 * 0 + i) (omega (arith, l))
  before (suc j) i few l =
      let p : 285 + 32 * suc j + i ≡ 288 + 32 * j + (29 + i) = omega arith in
      let high : nat_le 16 (29 + i) ≡ true = grind (arith, nat_tests) in
      let long = d.long in
      ap (λ o. (w.keyboard (x + o)).clk) p ∙ d.clock j (29 + i) (omega (arith, l)) (omega (arith, l, few, long)) ∙ high

  module _ (k : ℕ) (few : k ≤ 10) (host : (i : ℕ) → i < 4 → (w.host (x + (285 + 32 * k + i))).clk ≡ true) where
    abbrev o : ℕ
    o = 285 + 32 * k

    at0 : o + 0 ≡ o
    at0 = omega arith

    at1 : o + 1 ≡ suc o
    at1 = omega arith

    at2 : o + 2 ≡ suc (suc o)
    at2 = omega arith

    at3 : suc (suc (suc o)) ≡ 288 + 32 * k
    at3 = omega arith

    high : (w.seen (x + suc (suc o))).clk ≡ true
    high =
        high_at (λ c. (w.keyboard c).clk) (λ c. (w.host c).clk) (λ c. (w.pins c).clk) (λ c. (w.seen c).clk) wires.clock x o
        (ap (λ i. (w.keyboard (x + i)).clk) (sym at0) ∙ before k 0 few (omega arith))
        (ap (λ i. (w.host (x + i)).clk) (sym at0) ∙ host 0 (omega arith))
        (ap (λ i. (w.keyboard (x + i)).clk) (sym at1) ∙ before k 1 few (omega arith))
        (ap (λ i. (w.host (x + i)).clk) (sym at1) ∙ host 1 (omega arith))
        (ap (λ i. (w.keyboard (x + i)).clk) (sym at2) ∙ before k 2 few (omega arith))
        (ap (λ i. (w.host (x + i)).clk) (sym at2) ∙ host 2 (omega arith))

    down : (w.keyboard (x + suc (suc (suc o)))).clk ≡ false
    down =
        let z : 288 + 32 * k ≡ 288 + 32 * k + 0 = omega arith in
        let long = d.long in
        ap (λ i. (w.keyboard (x + i)).clk) (at3 ∙ z) ∙ d.clock k 0 (omega arith) (omega (arith, few, long))

    -- at each cell's begin the host sees the clock fall, if it let it go
    pub falls_in_cell : fell w (x + (288 + 32 * k)) ≡ true
    falls_in_cell = ap (λ i. fell w (x + i)) (sym at3) ∙ falls_at w wires x (suc (suc o)) high down

  -- in the rest of a cell the keyboard lets no clock fall
  pub none_in_cell : (k : ℕ) → k ≤ 9 → (i : ℕ) → i < 31 → NoFall w wires (x + (289 + 32 * k + i))
  none_in_cell k few i l = by (nat_le 16 (suc i)) refl
    where
      p : 289 + 32 * k + i ≡ 288 + 32 * k + suc i
      p = omega arith

      by : (b : Bool) → nat_le 16 (suc i) ≡ b → NoFall w wires (x + (289 + 32 * k + i))
      by true up =
          let long = d.long in
          inl (ap (λ v. (w.keyboard (x + v)).clk) p ∙ d.clock k (suc i) (omega (arith, l)) (omega (arith, l, few, long)) ∙ up)
      by false low =
          let m : suc i < 16 = grind (arith, nat_tests, low) in
          let below : nat_le 16 i ≡ false = grind (arith, nat_tests, m) in
          let q : suc (288 + 32 * k + i) ≡ 289 + 32 * k + i = omega arith in
          let long = d.long in
          subst (λ v. NoFall w wires (x + v)) q
          (low_at w wires x (288 + 32 * k + i) (d.clock k i (omega (arith, l)) (omega (arith, l, few, long)) ∙ below))

  -- after the eleventh fall the clock falls no more in the tick
  pub none_after : (o : ℕ) → 609 ≤ o → x + o < y → NoFall w wires (x + o)
  none_after o l m = by (nat_lt o 624) refl (nat_lt o (288 + d.most)) refl
    where
      by : (a : Bool) → nat_lt o 624 ≡ a → (b : Bool) → nat_lt o (288 + d.most) ≡ b → NoFall w wires (x + o)
      by true s b t =
          let u : o < 624 = grind (arith, nat_tests, s) in
          let i : ℕ = o - 609 in
          let below : nat_le 16 i ≡ false = grind (arith, nat_tests, u) in
          let p : suc (288 + 32 * 10 + i) ≡ o = omega (arith, l) in
          let long = d.long in
          subst (λ v. NoFall w wires (x + v)) p
          (low_at w wires x (288 + 32 * 10 + i) (d.clock 10 i (omega (arith, u)) (omega (arith, u, long)) ∙ below))
      by false s true t =
          let a : 624 ≤ o = grind (arith, nat_tests, s) in
          let u : o < 288 + d.most = grind (arith, nat_tests, t) in
          let i : ℕ = o - 608 in
          let up : nat_le 16 i ≡ true = grind (arith, nat_tests, a) in
          let p : o ≡ 288 + 32 * 10 + i = omega (arith, l) in
          let short = d.short in
          inl (ap (λ v. (w.keyboard (x + v)).clk) p ∙ d.clock 10 i (omega (arith, u, short)) (omega (arith, u, a)) ∙ up)
      by false s false t = inl (d.late o (grind (arith, nat_tests, t)) m)
