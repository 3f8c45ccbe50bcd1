-- A probe of a list, as it is seen.
use Rattle.std.proofs.Common.{◌≡◌, ℕ, zero, suc, ◌<◌, length, map, List, [], ◌∷◌, set, get_or, refl, ap, sym, ◌∙◌, arith}
use Rattle.std.specs.Prelude.{slice_get}
use Rattle.std.specs.List.{remove}
use Rattle.std.proofs.lemmas.List.{map-set}
use Rattle.run_probes.specs.Probes.{Watch, armed}
use Rattle.debugger.specs.Effects.{arm_at, tally_shown, tally_text}

arm_set : (a b : ℕ) (ws : List Watch) (i : ℕ) (d : Watch) → i < length ws → set ws i (armed a b (get_or ws i d)) ≡ arm_at i a b ws
arm_set a b [] i d l = absurd (omega (arith, l))
arm_set a b (w ∷ ws) zero d l = refl
arm_set a b (w ∷ ws) (suc i) d l = ap (λ t. w ∷ t) (arm_set a b ws i d (omega (arith, l)))

read_map : {X : Type 0} (see : X → Watch) (xs : List X) (i : ℕ) (x : X)
    → i < length xs → x ≡ get_or xs i x → see x ≡ get_or (map see xs) i (see x)
read_map see [] i x l h = absurd (omega arith)
read_map see (y ∷ ys) zero x l h = ap see h
read_map see (y ∷ ys) (suc i) x l h = read_map see ys i x (omega (arith, l)) h

-- one of them is armed
pub armed_at : {X : Type 0} (see : X → Watch) (xs : List X) (i : ℕ) (x y : X) (a b : ℕ)
    → i < length xs → x ≡ get_or xs i x → see y ≡ armed a b (see x)
    → map see (set xs i y) ≡ arm_at i a b (map see xs)
armed_at see xs i x y a b l is e =
    map-set see xs i y ∙ ap (λ v. set (map see xs) i v) (e ∙ ap (armed a b) (read_map see xs i x l is))
    ∙ arm_set a b (map see xs) i (see x) (omega (arith, l, Rattle.std.proofs.lemmas.List.length-map xs see))

-- what one of them tells
pub reported_at : {X : Type 0} (see : X → Watch) (xs : List X) (i : ℕ) (x : X) (n : ℕ) → i < length xs → x ≡ get_or xs i x
    → tally_shown n (slice_get (map see xs) i) ≡ tally_text n (see x).counted.count (see x).counted.first
reported_at see [] i x n l h = absurd (omega (arith, l))
reported_at see (y ∷ ys) zero x n l h = ap (λ v. tally_text n (see v).counted.count (see v).counted.first) (sym h)
reported_at see (y ∷ ys) (suc i) x n l h = reported_at see ys i x n (omega (arith, l)) h

-- one of them is dropped
pub dropped_at : {X : Type 0} (see : X → Watch) (xs : List X) (i : ℕ) → map see (remove xs i) ≡ remove (map see xs) i
dropped_at see [] zero = refl
dropped_at see [] (suc i) = refl
dropped_at see (x ∷ xs) zero = refl
dropped_at see (x ∷ xs) (suc i) = ap (λ t. see x ∷ t) (dropped_at see xs i)
