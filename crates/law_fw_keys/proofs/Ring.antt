-- The ring in data memory.
use Rattle.std.proofs.Common.{◌≡◌, ◌≢◌, ℕ, suc, zero, ◌+◌, ◌%◌, ◌<◌, List, [], ◌∷◌, ◌++◌, length, refl, ap, ◌∙◌}
use Rattle.std.proofs.Common.{arith, slice_set, slice_index, zero-add, length-set, append_assoc}
use Rattle.std.proofs.lemmas.List.{get_or-set_same, get_or-set_other}
use Rattle.law_fw_logic.proofs.Block.{before, memory}
use Rattle.law_fw_keys.specs.State.{made}

-- a write to the ring changes none of the cells before it
pub set-afterwards : (f : ℕ → ℕ) (from n : ℕ) (ring : List ℕ) (j v : ℕ) → slice_set (before f from n ring) (n + j) v
    ≡ before f from n (slice_set ring j v)
set-afterwards f from zero ring j v = rw zero-add refl
set-afterwards f from (suc n) ring j v = let e : suc n + j ≡ suc (n + j) = omega arith in
    rw e (ap (λ t. f from ∷ t) (set-afterwards f (from + 1) n ring j v))

-- a write to data memory at the ring's j-th place changes the ring's j-th byte
pub ring-set : (f : ℕ → ℕ) (ring : List ℕ) (j v : ℕ) → j < 16 → slice_set (memory f ring) ((112 + j) % 128) v
    ≡ memory f (slice_set ring j v)
ring-set f ring j v l = let e : (112 + j) % 128 ≡ 112 + j = omega arith in rw e (set-afterwards f 0 112 ring j v)

-- functions with the same first values give the same list
pub made-same : (g h : ℕ → ℕ) (n : ℕ) → ((i : ℕ) → i < n → g i ≡ h i) → made g n ≡ made h n
made-same g h zero e = refl
made-same g h (suc n) e =
    let a : g 0 ≡ h 0 = e 0 (omega arith) in
    let rest = made-same (λ i. g (suc i)) (λ i. h (suc i)) n (λ i l. e (suc i) (omega (arith, l))) in rw (a, rest) refl

-- with one value more the list of the first values has it at its end
pub made-more : (g : ℕ → ℕ) (n : ℕ) → made g (suc n) ≡ made g n ++ (g n ∷ [])
made-more g zero = refl
made-more g (suc n) = ap (λ t. g 0 ∷ t) (made-more (λ i. g (suc i)) n)

-- the list of the first n values has n values
pub made-length : (g : ℕ → ℕ) (n : ℕ) → length (made g n) ≡ n
made-length g zero = refl
made-length g (suc n) = ap suc (made-length (λ i. g (suc i)) n)

-- a byte after the last one
pub appended : (ring : List ℕ) (h n v : ℕ) → length ring ≡ 16 → n < 16
    → made (λ i. slice_index (slice_set ring ((h + n) % 16) v) ((h + i) % 16)) (suc n)
    ≡ made (λ i. slice_index ring ((h + i) % 16)) n ++ (v ∷ [])
appended ring h n v size l =
    let g : ℕ → ℕ = λ i. slice_index (slice_set ring ((h + n) % 16) v) ((h + i) % 16) in
    let last : g n ≡ v = get_or-set_same ring ((h + n) % 16) v 0 (omega (arith, size)) in
    let front : made g n ≡ made (λ i. slice_index ring ((h + i) % 16)) n =
    made-same g (λ i. slice_index ring ((h + i) % 16)) n
    (λ i m. let ne : (h + i) % 16 ≢ (h + n) % 16 = (λ e. omega (arith, e, m, l)) in
    get_or-set_other ring ((h + n) % 16) ((h + i) % 16) v 0 ne) in
    made-more g n ∙ rw (last, front) refl

-- two bytes after the last one
pub appended2 : (ring : List ℕ) (h n v w : ℕ) → length ring ≡ 16 → n < 15
    → made (λ i. slice_index (slice_set (slice_set ring ((h + n) % 16) v) ((h + suc n) % 16) w) ((h + i) % 16))
    (suc (suc n)) ≡ made (λ i. slice_index ring ((h + i) % 16)) n ++ (v ∷ w ∷ [])
appended2 ring h n v w size l =
    let size' : length (slice_set ring ((h + n) % 16) v) ≡ 16 = length-set ring ((h + n) % 16) v ∙ size in
    appended (slice_set ring ((h + n) % 16) v) h (suc n) w size' (omega (arith, l))
    ∙ ap (λ t. t ++ (w ∷ [])) (appended ring h n v size (omega (arith, l)))
    ∙ append_assoc (made (λ i. slice_index ring ((h + i) % 16)) n) (v ∷ []) (w ∷ [])
