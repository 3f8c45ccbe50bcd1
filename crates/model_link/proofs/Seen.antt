-- Each edge has one seen tick; the keys held after a tick; the log only grows.
use Rattle.std.proofs.Common.{◌≡◌, ℕ, suc, zero, ◌≤◌, ◌<◌, List, [], ◌∷◌, ◌++◌, leb, Bool, true}
use Rattle.std.proofs.Common.{false, not, ◌&&◌, ◌==◌, refl, ap, sym, ◌∙◌, arith}
use Rattle.std.specs.Prelude.{if◌then◌else◌, nat_le, nat_lt}
use Rattle.std.proofs.lemmas.Bool.Decides.{nat_tests}
use Rattle.std.proofs.lemmas.Bool.{eqb-true}
use Rattle.board_terms.specs.declared.event.Edge.{Edge}
use Rattle.model_link.specs.TickEdges.{none_before, is_least, read_at, by_place, change_at, shown_at, shown}
use Rattle.model_link.specs.Laws.{SeenOnce}
use Rattle.bits.proofs.Every.{and-left, and-right}

module _ (p : ℕ → Bool) where
  -- a number with the property below
  found : (n : ℕ) → none_before p n ≡ false → (m : ℕ) × (m < n) × (is_least p m ≡ true)
  found zero h = absurd cc
  found (suc n) h =
      elim (none_before p n) as (λ b. none_before p n ≡ b → (m : ℕ) × (m < suc n) × (is_least p m ≡ true)) [
        | true ↦ λ g. elim (p n) as (λ c. p n ≡ c → (m : ℕ) × (m < suc n) × (is_least p m ≡ true)) [
          | true ↦ λ f. (n, omega arith, ap (λ c. c && none_before p n) f ∙ g)
          | false ↦ λ f. let k : (not (p n) && none_before p n) ≡ true = ap (λ c. not c && none_before p n) f ∙ g in absurd (cc (h, k))
        ] refl
        | false ↦ λ g. let r = found n g in (r.0, let l = r.1 in omega (arith, l), r.2)
      ] refl

  -- it has a least one
  pub least_one : (n : ℕ) → p n ≡ true → (m : ℕ) × (m ≤ n) × (is_least p m ≡ true)
  least_one n h =
      elim (none_before p n) as (λ b. none_before p n ≡ b → (m : ℕ) × (m ≤ n) × (is_least p m ≡ true)) [
        | true ↦ λ g. (n, omega arith, ap (λ c. c && none_before p n) h ∙ g)
        | false ↦ λ g. let r = found n g in (r.0, let l = r.1 in omega (arith, l), r.2)
      ] refl

  below_off : (m n : ℕ) → n < m → none_before p m ≡ true → p n ≡ false
  below_off zero n l h = absurd (omega (arith, l))
  below_off (suc m) n l h =
      elim (leb m n) as (λ b. leb m n ≡ b → p n ≡ false) [
        | true ↦ λ g. let s : n ≡ m = grind (arith, nat_tests, g, l) in
            let k : not (p m) ≡ true = and-left (not (p m)) (none_before p m) h in
            ap p s ∙ (elim (p m) as (λ c. not c ≡ true → c ≡ false) [ true ↦ λ f. absurd cc | false ↦ λ f. refl ] k)
        | false ↦ λ g. below_off m n (grind (arith, nat_tests, g)) (and-right (not (p m)) (none_before p m) h)
      ] refl

  -- and only one
  pub one_least : (n m : ℕ) → is_least p n ≡ true → is_least p m ≡ true → (n < m → ⊥)
  one_least n m hn hm l =
      let a : p n ≡ false = below_off m n l (and-right (p m) (none_before p m) hm) in
      let b : p n ≡ true = and-left (p n) (none_before p n) hn in
      absurd (cc (a, b))

-- so each edge that a tick reads in time has one tick that sees it
pub seen_once : (starts : ℕ → ℕ) (n : ℕ) (e : Edge) → e.stamp ≤ read_at starts e.place n → SeenOnce starts n e
seen_once starts n e h =
    let p : ℕ → Bool = λ j. nat_le e.stamp (read_at starts e.place j) in
    let t : p n ≡ true = grind (arith, nat_tests, h) in
    let r = least_one p n t in
    record {
      seen = r.0;
      by_then = r.1;
      sees = r.2;
      other = λ m g. same m r.0 (one_least p m r.0 g r.2) (one_least p r.0 m r.2 g);
    }
  where
    same : (a b : ℕ) → (a < b → ⊥) → (b < a → ⊥) → a ≡ b
    same a b f g = omega (arith, f, g)

-- the key at a place after a tick's edges
abbrev pub last_change : List (ℕ × Bool) → ℕ → Bool → Bool
last_change [] p before = before
last_change (c ∷ cs) p before = last_change cs p (if c.0 == p then c.1 else before)

-- the last change at a place in joined lists is that of the second list, or else of the first
pub last_more : (xs ys : List (ℕ × Bool)) (p : ℕ) (before : Bool) → last_change (xs ++ ys) p before ≡ last_change ys p (last_change xs p before)
last_more [] ys p before = refl
last_more (x ∷ xs) ys p before = last_more xs ys p (if x.0 == p then x.1 else before)

other_place : (k p : ℕ) (a b before : Bool) → (k == p) ≡ false → last_change (change_at k a b) p before ≡ before
other_place k p true true before h = refl
other_place k p true false before h = ap (λ c. if c then false else before) h
other_place k p false true before h = ap (λ c. if c then true else before) h
other_place k p false false before h = refl

same_place : (k : ℕ) (a b : Bool) → (k == k) ≡ true → last_change (change_at k a b) k a ≡ b
same_place k true true h = refl
same_place k true false h = ap (λ c. if c then false else true) h
same_place k false true h = ap (λ c. if c then true else false) h
same_place k false false h = refl

-- what the columns show becomes what is held
held_by : (held now : ℕ → Bool) (p k : ℕ) → last_change (by_place (shown_at held now) k) p (held p) ≡ (if nat_lt p k then now p else held p)
held_by held now p zero = let z : nat_lt p 0 ≡ false = grind (arith, nat_tests) in ap (λ c. if c then now p else held p) (sym z)
held_by held now p (suc k) =
    let all = last_more (by_place (shown_at held now) k) (shown_at held now k) p (held p)
    ∙ ap (λ v. last_change (shown_at held now k) p v) (held_by held now p k) in
    elim (k == p) as (λ b. (k == p) ≡ b
    → last_change (by_place (shown_at held now) (suc k)) p (held p) ≡ (if nat_lt p (suc k) then now p else held p)) [
      | true ↦ λ h.
          let s : k ≡ p = eqb-true k p h in
          let off : nat_lt p k ≡ false = grind (arith, nat_tests, s) in
          let on : nat_lt p (suc k) ≡ true = grind (arith, nat_tests, s) in
          let y : (p == p) ≡ true = grind (arith, nat_tests) in
          all ∙ ap (λ c. last_change (shown_at held now k) p (if c then now p else held p)) off
          ∙ ap (λ j. last_change (shown_at held now j) p (held p)) s ∙ same_place p (held p) (now p) y
          ∙ ap (λ c. if c then now p else held p) (sym on)
      | false ↦ λ h.
          let t : nat_lt p k ≡ nat_lt p (suc k) = elim (nat_lt p k) as (λ c. nat_lt p k ≡ c → c ≡ nat_lt p (suc k)) [
            | true ↦ λ g. let n : nat_lt p (suc k) ≡ true = grind (arith, nat_tests, g) in sym n
            | false ↦ λ g. let n : nat_lt p (suc k) ≡ false = grind (arith, nat_tests, g, h) in sym n
          ] refl in
          all ∙ other_place k p (held k) (now k) (if nat_lt p k then now p else held p) h ∙ ap (λ c. if c then now p else held p) t
    ] refl

-- after the changes that the columns show a key is as it is shown now
pub held_is_now : (held now : ℕ → Bool) (p : ℕ) → p < 96 → last_change (shown held now) p (held p) ≡ now p
held_is_now held now p l = let t : nat_lt p 96 ≡ true = grind (arith, nat_tests, l) in held_by held now p 96
    ∙ ap (λ c. if c then now p else held p) t
