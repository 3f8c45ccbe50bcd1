-- Edges in the second halves of ticks are seen in the same ticks, wherever in the cadence these start.
use Rattle.std.proofs.Common.{◌≡◌, ℕ, suc, zero, ◌+◌, ◌*◌, ◌/◌, ◌≤◌, ◌<◌, List, [], ◌∷◌, map, Bool}
use Rattle.std.proofs.Common.{true, false, not, ◌&&◌, ◌==◌, refl, ap, sym, ◌∙◌, arith}
use Rattle.std.specs.Prelude.{if◌then◌else◌, nat_le, All}
use Rattle.std.specs.List.{filter}
use Rattle.std.proofs.lemmas.Bool.Decides.{nat_tests}
use Rattle.std.proofs.lemmas.List.Elements.{All-head, All-tail, All-filter}
use Rattle.board_terms.specs.declared.event.Edge.{Edge}
use Rattle.board_terms.specs.Cadence.{KeepsCadenceTo}
use Rattle.board_terms.specs.Edges.{of_place}
use Rattle.model_link.specs.TickEdges.{read_at, none_before, is_least, is_seen, change_of, tick_edges}
use Rattle.model_link.proofs.Edges.{AreAt, are_at, same_by_place}
use Rattle.law_quiet_log.specs.Quiet.{IsLate, even}

-- properties that are alike up to a number are least at it alike
none_alike : (p r : ℕ → Bool) (n : ℕ) → ((j : ℕ) → j < n → p j ≡ r j) → none_before p n ≡ none_before r n
none_alike p r zero h = refl
none_alike p r (suc n) h =
    ap (λ c. not c && none_before p n) (h n (omega arith))
    ∙ ap (λ c. not (r n) && c) (none_alike p r n (λ j l. h j (omega (arith, l))))

least_alike : (p r : ℕ → Bool) (n : ℕ) → ((j : ℕ) → j ≤ n → p j ≡ r j) → is_least p n ≡ is_least r n
least_alike p r n h =
    ap (λ c. c && none_before p n) (h n (omega arith))
    ∙ ap (λ c. r n && c) (none_alike p r n (λ j l. h j (omega (arith, l))))

-- a filter of late edges of one place
filter_alike : (p : ℕ) (q r : Edge → Bool) → ((e : Edge) → e.place ≡ p → IsLate e.stamp → q e ≡ r e) → (es : List Edge)
    → AreAt p es → All (λ e. IsLate e.stamp) es → filter q es ≡ filter r es
filter_alike p q r h [] at late = refl
filter_alike p q r h (e ∷ es) at late =
    ap (λ c. if c then e ∷ filter q es else filter q es) (h e at.0 (All-head (λ (x : Edge). IsLate x.stamp) e es late))
    ∙ ap (λ v. if r e then e ∷ v else v)
    (filter_alike p q r h es at.1 (All-tail (λ (x : Edge). IsLate x.stamp) e es late))

module _ (starts : ℕ → ℕ) (last : ℕ) (cadence : KeepsCadenceTo starts last) where
  -- whether a column is read in time for a late stamp
  read_same : (t place j : ℕ) → j ≤ last → IsLate t → place < 96
      → nat_le t (read_at starts place j) ≡ nat_le t (read_at even place j)
  read_same t place j u late l =
      let lo : 2048 * j ≤ starts j = (cadence j u).least in
      let hi : starts j ≤ 2048 * j + 5 = (cadence j u).most in
      elim (nat_le t (read_at even place j)) as (λ c. nat_le t (read_at even place j) ≡ c
      → nat_le t (read_at starts place j) ≡ nat_le t (read_at even place j)) [
        | true ↦ λ g.
            let k : t ≤ 2048 * j + 16 + 16 * (place / 8) = grind (arith, nat_tests, g) in
            let m : t ≤ starts j + 16 + 16 * (place / 8) = omega (arith, k, lo) in
            let n : nat_le t (read_at starts place j) ≡ true = grind (arith, nat_tests, m) in
            n ∙ sym g
        | false ↦ λ g.
            let k : 2048 * j + 16 + 16 * (place / 8) < t = grind (arith, nat_tests, g) in
            let m : starts j + 16 + 16 * (place / 8) < t = omega (arith, k, hi, late, l) in
            let n : nat_le t (read_at starts place j) ≡ false = grind (arith, nat_tests, m) in
            n ∙ sym g
      ] refl

  -- whether a tick sees a late edge
  seen_same : (n p : ℕ) → n ≤ last → p < 96 → (e : Edge) → e.place ≡ p → IsLate e.stamp
      → is_seen starts n e ≡ is_seen even n e
  seen_same n p u l e at late =
      let k : e.place < 96 = omega (arith, at, l) in
      least_alike (λ j. nat_le e.stamp (read_at starts e.place j)) (λ j. nat_le e.stamp (read_at even e.place j)) n
      (λ j m. read_same e.stamp e.place j (omega (arith, m, u)) late k)

  -- the edges of a tick, place by place
  pub edges_same : (edges : List Edge) → All (λ e. IsLate e.stamp) edges → (n : ℕ) → n ≤ last
      → tick_edges starts edges n ≡ tick_edges even edges n
  edges_same edges late n u =
      ap (λ v. map change_of v)
      (same_by_place (λ p. filter (is_seen starts n) (of_place p edges))
      (λ p. filter (is_seen even n) (of_place p edges))
      (λ p l. filter_alike p (is_seen starts n) (is_seen even n) (seen_same n p u l) (of_place p edges)
      (are_at p edges)
      (All-filter (λ (e : Edge). e.place == p) (λ (e : Edge). IsLate e.stamp) edges late))
      96 (omega arith))
