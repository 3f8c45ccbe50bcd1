-- The latency's bound is met: by an edge one cycle after its column's read, and a tick that starts five cycles late.
use Rattle.std.proofs.Common.{◌≡◌, ℕ, suc, zero, ◌+◌, ◌*◌, ◌/◌, ◌≤◌, ◌<◌, Bool, true, false, not, ◌&&◌, ◌==◌, refl, ap, ◌∙◌, arith}
use Rattle.std.specs.Prelude.{if◌then◌else◌, nat_le}
use Rattle.std.proofs.lemmas.Bool.Decides.{nat_tests}
use Rattle.board_terms.specs.Cadence.{IsNear, KeepsCadence}
use Rattle.board_terms.specs.declared.event.Edge.{Edge}
use Rattle.model_link.specs.TickEdges.{is_seen, none_before, read_at}
use Rattle.law_link_times.specs.Latency.{IsMet}

-- all ticks start at their multiples, but one
abbrev late : ℕ → ℕ → ℕ
late m j = if j == m then 2048 * j + 5 else 2048 * j

late_near : (m : ℕ) → KeepsCadence (late m)
late_near m n =
    elim (n == m) as (λ c. IsNear n (if c then 2048 * n + 5 else 2048 * n)) [
      | true ↦ record { least = omega arith; most = omega arith }
      | false ↦ record { least = omega arith; most = omega arith }
    ]

others : (m j : ℕ) → j < m → late m j ≡ 2048 * j
others m j l =
    let e : (j == m) ≡ false = grind (arith, nat_tests, l) in ap (λ c. if c then 2048 * j + 5 else 2048 * j) e

itself : (m : ℕ) → late m m ≡ 2048 * m + 5
itself m = let e : (m == m) ≡ true = grind (arith, nat_tests) in ap (λ c. if c then 2048 * m + 5 else 2048 * m) e

module _ (n before : ℕ) (edge : Edge) (at : edge.stamp ≡ 2048 * n + 17 + 16 * (edge.place / 8)) where
  abbrev last : ℕ
  last = before + suc (suc n)

  -- no tick up to n reads its column in time
  early : (j : ℕ) → j ≤ n → nat_le edge.stamp (read_at (late last) edge.place j) ≡ false
  early j l =
      let s : late last j ≡ 2048 * j = others last j (omega (arith, l)) in
      let b : late last j + 16 + 16 * (edge.place / 8) < edge.stamp = omega (arith, at, s, l) in
      grind (arith, nat_tests, b)

  none_to : (k : ℕ) → k ≤ suc n → none_before (λ j. nat_le edge.stamp (read_at (late last) edge.place j)) k ≡ true
  none_to zero l = refl
  none_to (suc k) l =
      let p : ℕ → Bool = λ j. nat_le edge.stamp (read_at (late last) edge.place j) in
      ap (λ c. not c && none_before p k) (early k (omega (arith, l))) ∙ none_to k (omega (arith, l))

  -- the next does
  seen : is_seen (late last) (suc n) edge ≡ true
  seen =
      let p : ℕ → Bool = λ j. nat_le edge.stamp (read_at (late last) edge.place j) in
      let s : late last (suc n) ≡ 2048 * suc n = others last (suc n) (omega arith) in
      let b : edge.stamp ≤ late last (suc n) + 16 + 16 * (edge.place / 8) = omega (arith, at, s) in
      let c : p (suc n) ≡ true = grind (arith, nat_tests, b) in
      ap (λ v. v && none_before p (suc n)) c ∙ none_to (suc n) (omega arith)

  -- an edge just after its column's read is read just at the bound, if one tick starts five cycles late
  pub met : IsMet n before edge
  met =
      let s : late last last ≡ 2048 * last + 5 = itself last in
      record { starts = late last; cadence = late_near last; seen = seen; read = omega (arith, at, s) }

-- no smaller bound would do: an edge just after its column's read waits that long, if its tick starts late
pub latency_is_met : (n before : ℕ) (edge : Edge) → edge.stamp ≡ 2048 * n + 17 + 16 * (edge.place / 8)
    → IsMet n before edge
latency_is_met n before edge at = met n before edge at
