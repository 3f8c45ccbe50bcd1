-- The tick of a cycle, by the one start that is near it.
use Rattle.std.proofs.Common.{◌≡◌, ℕ, suc, zero, ◌+◌, ◌-◌, ◌/◌, ◌≤◌, ◌<◌, Bool, true, false, min, refl, ap, sym, ◌∙◌, arith}
use Rattle.std.specs.Prelude.{if◌then◌else◌, nat_le}
use Rattle.std.proofs.lemmas.Bool.Decides.{nat_tests}
use Rattle.board_terms.specs.Cadence.{KeepsCadenceTo, begun, tick_of}

abbrev digit : Bool → ℕ
digit b = if b then 1 else 0

module _ (starts : ℕ → ℕ) (cycle : ℕ) where
  all_begun : (k : ℕ) → ((j : ℕ) → j < k → 4096 + starts j ≤ cycle) → begun starts cycle k ≡ k
  all_begun zero h = refl
  all_begun (suc k) h =
      let a : begun starts cycle k ≡ k = all_begun k (λ j l. h j (omega (arith, l))) in
      let b : 4096 + starts k ≤ cycle = h k (omega arith) in
      let t : nat_le (4096 + starts k) cycle ≡ true = grind (arith, nat_tests, b) in
      let d : digit (nat_le (4096 + starts k) cycle) ≡ 1 = ap digit t in
      omega (arith, a, d)

  none_more : (k m : ℕ) → ((j : ℕ) → k ≤ j → j < m + k → cycle < 4096 + starts j) → begun starts cycle (m + k) ≡ begun starts cycle k
  none_more k zero h = let z : zero + k ≡ k = omega arith in ap (λ v. begun starts cycle v) z
  none_more k (suc m) h =
      let z : suc m + k ≡ suc (m + k) = omega arith in
      let a : begun starts cycle (m + k) ≡ begun starts cycle k = none_more k m (λ j l u. h j l (omega (arith, u))) in
      let b : cycle < 4096 + starts (m + k) = h (m + k) (omega arith) (omega arith) in
      let t : nat_le (4096 + starts (m + k)) cycle ≡ false = grind (arith, nat_tests, b) in
      let d : digit (nat_le (4096 + starts (m + k)) cycle) ≡ 0 = ap digit t in
      ap (λ v. begun starts cycle v) z ∙ omega (arith, a, d)

  module _ (last : ℕ) (cadence : KeepsCadenceTo starts last) (n : ℕ) (near : n ≡ min ((cycle - 4096) / 2048) last) where
    before : (j : ℕ) → j < n → 4096 + starts j ≤ cycle
    before j l =
        let a = (cadence j (omega (arith, near, l))).most in
        omega (arith, near, l, a)

    afterwards : (j : ℕ) → suc n ≤ j → j ≤ last → cycle < 4096 + starts j
    afterwards j l u =
        let a = (cadence j u).least in
        omega (arith, near, l, u, a)

    -- how many ticks have begun by a cycle is known from the one start that is near it
    pub begun_near : begun starts cycle (suc last) ≡ n + digit (nat_le (4096 + starts n) cycle)
    begun_near =
        let z : (last - n) + suc n ≡ suc last = omega (arith, near) in
        let a : begun starts cycle (suc last) ≡ begun starts cycle (suc n) =
        ap (λ v. begun starts cycle v) (sym z) ∙ none_more (suc n) (last - n) (λ j l u. afterwards j l (omega (arith, near, u))) in
        let b : begun starts cycle n ≡ n = all_begun n before in
        a ∙ ap (λ v. v + digit (nat_le (4096 + starts n) cycle)) b

    -- the tick of a cycle is known from the one start that is near it
    pub tick_near : (more : Bool) → nat_le (4096 + starts n) cycle ≡ more → tick_of starts last cycle ≡ n + digit more - 1
    tick_near more e = ap (λ v. v - 1) (begun_near ∙ ap (λ v. n + digit v) e)
