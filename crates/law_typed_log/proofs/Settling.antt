-- With a debounce a tick takes the edge that the tick before saw, if the key stays so.
use Rattle.std.proofs.Common.{◌≡◌, ◌≢◌, ◌<◌, ℕ, suc, zero, ◌==◌, Bool, true, false, not, List, [], ◌∷◌, ◌++◌, length}
use Rattle.std.proofs.Common.{refl, ap, sym, ◌∙◌, arith}
use Rattle.std.proofs.lemmas.Bool.{eqb-true}
use Rattle.std.proofs.lemmas.Bool.Decides.{nat_tests}
use Rattle.std.proofs.Common.{subst}
use Rattle.std.proofs.lemmas.List.{get_or-set_same, get_or-set_other}
use Rattle.board_terms.specs.Matrix.{turned}
use Rattle.model_link.specs.Debounce.{Switches, is_down_at, settles, turned_all, taken, switched}
use Rattle.model_link.specs.TickEdges.{by_place, change_at, shown, shown_at}

-- the switches where the edges of the last reading aren't taken yet
abbrev pub pending : List (ℕ × Bool) → List Bool → Switches
pending next held = record { read = turned_all next held; settled = held }

change_none : (p : ℕ) (a b : Bool) → a ≡ b → change_at p a b ≡ []
change_none p true true e = refl
change_none p false false e = refl
change_none p true false e = absurd cc
change_none p false true e = absurd cc

change_one : (p : ℕ) (a b : Bool) → a ≡ not b → change_at p a b ≡ (p, b) ∷ []
change_one p true false e = refl
change_one p false true e = refl
change_one p true true e = absurd cc
change_one p false false e = absurd cc

-- nothing is shown where all is as it was
module _ (f g : ℕ → Bool) where
  none_to : (k : ℕ) → ((p : ℕ) → p < k → f p ≡ g p) → by_place (shown_at f g) k ≡ []
  none_to zero h = refl
  none_to (suc k) h =
      ap (λ v. v ++ change_at k (f k) (g k)) (none_to k (λ p l. h p (omega (arith, l))))
      ∙ change_none k (f k) (g k) (h k (omega arith))

  -- if all keys are as they were, nothing is shown
  pub shown_none : ((p : ℕ) → p < 96 → f p ≡ g p) → shown f g ≡ []
  shown_none h = none_to 96 h

  -- one key alone
  one_to : (q : ℕ) (d : Bool) → f q ≡ not d → g q ≡ d → (k : ℕ) → q < k → ((p : ℕ) → p < k → p ≢ q → f p ≡ g p)
      → by_place (shown_at f g) k ≡ (q, d) ∷ []
  one_to q d was is zero l h = absurd (omega (arith, l))
  one_to q d was is (suc k) l h =
      elim (k == q) as (λ b. (k == q) ≡ b → by_place (shown_at f g) (suc k) ≡ (q, d) ∷ []) [
        | true ↦ λ e.
            let same : k ≡ q = eqb-true k q e in
            ap (λ v. v ++ change_at k (f k) (g k))
            (none_to k (λ p m. h p (omega (arith, m)) (grind (arith, nat_tests, m, same))))
            ∙ ap (λ p. change_at p (f p) (g p)) same ∙ ap (λ b. change_at q (f q) b) is
            ∙ change_one q (f q) d was
        | false ↦ λ e.
            let apart : k ≢ q = grind (arith, nat_tests, e) in
            let below : q < k = grind (arith, nat_tests, e, l) in
            ap (λ v. v ++ change_at k (f k) (g k)) (one_to q d was is k below (λ p m n. h p (omega (arith, m)) n))
            ∙ ap (λ v. (q, d) ∷ v) (change_none k (f k) (g k) (h k (omega arith) apart))
      ] refl

  -- if one key has changed, its change alone is shown
  pub shown_one : (q : ℕ) (d : Bool) → q < 96 → f q ≡ not d → g q ≡ d → ((p : ℕ) → p < 96 → p ≢ q → f p ≡ g p)
      → shown f g ≡ (q, d) ∷ []
  shown_one q d l was is h = one_to q d was is 96 l h

-- a key that was read as it was stays
settles_still : (was now : Bool) → was ≡ settles was was now
settles_still true true = refl
settles_still true false = refl
settles_still false true = refl
settles_still false false = refl

settles_new : (was now : Bool) → settles was now now ≡ now
settles_new was true = refl
settles_new was false = refl

-- nothing is taken where nothing is pending
pub none_taken : (seen : List (ℕ × Bool)) (held : List Bool) → taken true seen (pending [] held) ≡ []
none_taken seen held =
    shown_none (is_down_at held)
    (λ p. settles (is_down_at held p) (is_down_at held p) (is_down_at (turned_all seen held) p))
    (λ p l. settles_still (is_down_at held p) (is_down_at (turned_all seen held) p))

-- the edge that is pending is taken if this reading shows its key so too
pub one_taken : (q : ℕ) (d : Bool) (seen : List (ℕ × Bool)) (held : List Bool) → length held ≡ 96 → q < 96
    → is_down_at held q ≡ not d → is_down_at (turned_all seen (turned q d held)) q ≡ d
    → taken true seen (pending ((q, d) ∷ []) held) ≡ (q, d) ∷ []
one_taken q d seen held long l was stays =
    let here : is_down_at (turned q d held) q ≡ d = get_or-set_same held q d false (omega (arith, long, l)) in
    shown_one (is_down_at held)
    (λ p. settles (is_down_at held p) (is_down_at (turned q d held) p)
    (is_down_at (turned_all seen (turned q d held)) p)) q d l was
    (ap (λ b. settles (is_down_at held q) b (is_down_at (turned_all seen (turned q d held)) q)) here
    ∙ ap (λ b. settles (is_down_at held q) d b) stays ∙ settles_new (is_down_at held q) d)
    (λ p m apart.
    settles_still (is_down_at held p) (is_down_at (turned_all seen (turned q d held)) p)
    ∙ ap (λ b. settles (is_down_at held p) b (is_down_at (turned_all seen (turned q d held)) p))
    (sym (get_or-set_other held q p d false apart)))

-- a reading shows some edges: the keyboard takes those edges, others are pending after it, and its keys go from one state
-- to another
pub record Takes (debounce : Bool) (next seen edges next' : List (ℕ × Bool)) (held held' : List Bool) : Type 0 where
  pub are_taken : taken debounce seen (pending next held) ≡ edges
  pub switches : switched debounce seen (pending next held) ≡ pending next' held'

-- without a debounce it takes what it sees
pub takes_all : (debounce : Bool) (seen : List (ℕ × Bool)) (held held' : List Bool) → debounce ≡ false
    → turned_all seen held ≡ held' → Takes debounce [] seen seen [] held held'
takes_all debounce seen held held' off turns =
    subst (λ b. Takes b [] seen seen [] held held') (sym off)
    (record { are_taken = refl; switches = ap (λ v. record { read = v; settled = v }) turns })

-- with one it takes what is pending
pub takes_none : (debounce : Bool) (seen : List (ℕ × Bool)) (held : List Bool) → debounce ≡ true
    → Takes debounce [] seen [] seen held held
takes_none debounce seen held on =
    subst (λ b. Takes b [] seen [] seen held held) (sym on)
    (record {
      are_taken = none_taken seen held;
      switches = ap (λ es. record { read = turned_all seen held; settled = turned_all es held }) (none_taken seen held);
    })

-- with a debounce a tick takes the edge that the tick before saw, if the key stays as it was seen
pub takes_one : (debounce : Bool) (q : ℕ) (d : Bool) (seen : List (ℕ × Bool)) (held held' : List Bool) → debounce ≡ true
    → length held ≡ 96 → q < 96 → is_down_at held q ≡ not d → turned q d held ≡ held'
    → is_down_at (turned_all seen held') q ≡ d → Takes debounce ((q, d) ∷ []) seen ((q, d) ∷ []) seen held held'
takes_one debounce q d seen held held' on long l was turns stays =
    let kept : is_down_at (turned_all seen (turned q d held)) q ≡ d =
    ap (λ v. is_down_at (turned_all seen v) q) turns ∙ stays in
    let one : taken true seen (pending ((q, d) ∷ []) held) ≡ (q, d) ∷ [] = one_taken q d seen held long l was kept in
    subst (λ b. Takes b ((q, d) ∷ []) seen ((q, d) ∷ []) seen held held') (sym on)
    (record {
      are_taken = one;
      switches = ap (λ es. record { read = turned_all seen (turned q d held); settled = turned_all es held }) one
          ∙ ap (λ v. record { read = turned_all seen v; settled = v }) turns;
    })

-- with or without one it takes nothing where nothing is pending or seen
pub takes_nothing : (debounce : Bool) (held : List Bool) → Takes debounce [] [] [] [] held held
takes_nothing true held = takes_none true [] held refl
takes_nothing false held = takes_all false [] held held refl refl
