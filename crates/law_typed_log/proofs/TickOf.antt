-- The tick that sees an edge in the middle of a tick is the next one.
use Rattle.std.proofs.Common.{◌≡◌, ℕ, suc, zero, ◌+◌, ◌*◌, ◌/◌, ◌≤◌, ◌<◌, List, [], ◌∷◌, ◌++◌, map, append-nil}
use Rattle.std.proofs.Common.{Bool, true, false, not, ◌&&◌, ◌==◌, cond, refl, ap, sym, ◌∙◌, arith}
use Rattle.std.specs.Prelude.{nat_le, nat_lt}
use Rattle.std.specs.List.{filter}
use Rattle.std.proofs.lemmas.Bool.Decides.{nat_tests}
use Rattle.board_terms.specs.declared.event.Edge.{Edge}
use Rattle.board_terms.specs.Edges.{of_place}
use Rattle.model_link.specs.TickEdges.{read_at, none_before, is_least, is_seen, by_place, change_of, tick_edges}
use Rattle.model_link.proofs.Edges.{same_by_place}
use Rattle.law_quiet_log.specs.Quiet.{even}

-- a property that holds from a number on is first had there
none_until : (p : ℕ → Bool) (q n : ℕ) → ((j : ℕ) → j < q → p j ≡ false) → n ≤ q → none_before p n ≡ true
none_until p q zero off l = refl
none_until p q (suc n) off l =
    ap (λ b. not b && none_before p n) (off n (omega (arith, l))) ∙ none_until p q n off (omega (arith, l))

and-none : (b : Bool) → (b && false) ≡ false
and-none true = refl
and-none false = refl

least_is : (p : ℕ → Bool) (q n : ℕ) → ((j : ℕ) → j < q → p j ≡ false) → ((j : ℕ) → q ≤ j → p j ≡ true)
    → is_least p n ≡ (n == q)
least_is p q n off on =
    elim (nat_le q n) as (λ b. nat_le q n ≡ b → is_least p n ≡ (n == q)) [
      | true ↦ λ g. let k : q ≤ n = grind (arith, nat_tests, g) in from n k
      | false ↦ λ g.
          let k : n < q = grind (arith, nat_tests, g) in
          let e : (n == q) ≡ false = grind (arith, nat_tests, k) in
          ap (λ b. b && none_before p n) (off n k) ∙ sym e
    ] refl
  where
    at : (n : ℕ) → n ≡ q → is_least p n ≡ (n == q)
    at n e =
        let h : (n == q) ≡ true = grind (arith, nat_tests, e) in
        ap (λ b. b && none_before p n) (on n (omega (arith, e))) ∙ none_until p q n off (omega (arith, e)) ∙ sym h

    afterwards : (n : ℕ) → q < n → is_least p n ≡ (n == q)
    afterwards zero l = absurd (omega (arith, l))
    afterwards (suc n) l =
        let h : (suc n == q) ≡ false = grind (arith, nat_tests, l) in
        ap (λ b. p (suc n) && (not b && none_before p n)) (on n (omega (arith, l))) ∙ and-none (p (suc n)) ∙ sym h

    from : (n : ℕ) → q ≤ n → is_least p n ≡ (n == q)
    from n l =
        elim (n == q) as (λ b. (n == q) ≡ b → is_least p n ≡ (n == q)) [
          | true ↦ λ g. let k : n ≡ q = grind (arith, nat_tests, g) in at n k
          | false ↦ λ g. let k : q < n = grind (arith, nat_tests, g, l) in afterwards n k
        ] refl

-- which tick sees an edge in the middle of tick q
pub seen_is : (n q : ℕ) (e : Edge) → e.place < 96 → e.stamp ≡ 2048 * q + 1024 → is_seen even n e ≡ (n == suc q)
seen_is n q e l at =
    least_is (λ j. nat_le e.stamp (read_at even e.place j)) (suc q) n
    (λ j m.
    let k : 2048 * j + 16 + 16 * (e.place / 8) < e.stamp = omega (arith, l, at, m) in
    grind (arith, nat_tests, k))
    (λ j m.
    let k : e.stamp ≤ 2048 * j + 16 + 16 * (e.place / 8) = omega (arith, l, at, m) in
    grind (arith, nat_tests, k))

-- a filter of a filter
either_way : (p q : Edge → Bool) (es : List Edge) → filter p (filter q es) ≡ filter q (filter p es)
either_way p q [] = refl
either_way p q (e ∷ es) = by (p e) (q e) refl refl (either_way p q es)
  where
    by : (a b : Bool) → p e ≡ a → q e ≡ b → filter p (filter q es) ≡ filter q (filter p es)
        → filter p (cond b (e ∷ filter q es) (filter q es)) ≡ filter q (cond a (e ∷ filter p es) (filter p es))
    by true true f g h =
        ap (λ c. cond c (e ∷ filter p (filter q es)) (filter p (filter q es))) f ∙ ap (λ v. e ∷ v) h
        ∙ sym (ap (λ c. cond c (e ∷ filter q (filter p es)) (filter q (filter p es))) g)
    by true false f g h = h ∙ sym (ap (λ c. cond c (e ∷ filter q (filter p es)) (filter q (filter p es))) g)
    by false true f g h = ap (λ c. cond c (e ∷ filter p (filter q es)) (filter p (filter q es))) f ∙ h
    by false false f g h = h

-- by place, of no edge and of one
none_by_place : (n : ℕ) → by_place (λ p. of_place p []) n ≡ []
none_by_place zero = refl
none_by_place (suc n) = ap (λ v. v ++ []) (none_by_place n)

one_by_place : (e : Edge) (n : ℕ) → by_place (λ p. of_place p (e ∷ [])) n ≡ cond (nat_lt e.place n) (e ∷ []) []
one_by_place e zero =
    let k : nat_lt e.place 0 ≡ false = grind (arith, nat_tests) in sym (ap (λ b. cond b (e ∷ []) []) k)
one_by_place e (suc n) =
    elim (e.place == n) as (λ b. (e.place == n) ≡ b
    → (by_place (λ p. of_place p (e ∷ [])) n ++ cond b (e ∷ []) []) ≡ cond (nat_lt e.place (suc n)) (e ∷ []) []) [
      | true ↦ λ g.
          let h : nat_lt e.place n ≡ false = grind (arith, nat_tests, g) in
          let k : nat_lt e.place (suc n) ≡ true = grind (arith, nat_tests, g) in
          ap (λ v. v ++ e ∷ []) (one_by_place e n ∙ ap (λ b. cond b (e ∷ []) []) h)
          ∙ sym (ap (λ b. cond b (e ∷ []) []) k)
      | false ↦ λ g.
          let k : nat_lt e.place (suc n) ≡ nat_lt e.place n = grind (arith, nat_tests, g) in
          append-nil (by_place (λ p. of_place p (e ∷ [])) n) ∙ one_by_place e n ∙ sym (ap (λ b. cond b (e ∷ []) []) k)
    ] refl

module _ (edges : List Edge) (n : ℕ) where
  by_seen : tick_edges even edges n ≡ map change_of (by_place (λ p. of_place p (filter (is_seen even n) edges)) 96)
  by_seen =
      ap (λ v. map change_of v)
      (same_by_place (λ p. filter (is_seen even n) (of_place p edges)) (λ p. of_place p (filter (is_seen even n) edges))
      (λ p l. either_way (is_seen even n) (λ e. e.place == p) edges) 96 (omega arith))

  -- the edges of a tick that sees none, or one
  pub sees_none : filter (is_seen even n) edges ≡ [] → tick_edges even edges n ≡ []
  sees_none h =
      by_seen ∙ ap (λ v. map change_of (by_place (λ p. of_place p v) 96)) h
      ∙ ap (λ v. map change_of v) (none_by_place 96)

  -- a tick that sees one edge of all has that edge alone
  pub sees_one : (e : Edge) → e.place < 96 → filter (is_seen even n) edges ≡ e ∷ [] → tick_edges even edges n
      ≡ change_of e ∷ []
  sees_one e l h =
      let k : nat_lt e.place 96 ≡ true = grind (arith, nat_tests, l) in
      by_seen ∙ ap (λ v. map change_of (by_place (λ p. of_place p v) 96)) h
      ∙ ap (λ v. map change_of v) (one_by_place e 96 ∙ ap (λ b. cond b (e ∷ []) []) k)
