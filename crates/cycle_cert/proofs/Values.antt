-- What holds of each value of a register, as a test over all of them.
use Rattle.std.proofs.Common.{◌≡◌, ◌<◌, ℕ, zero, suc, ◌+◌, Bool, true, false, length, get_or, refl, ◌∙◌, zero-add, arith}
use Rattle.std.proofs.lemmas.List.Folds.{list_all_at}
use Rattle.std.proofs.lemmas.List.FromFn.{length-range_with_len, get_or-range_with_len}
use Rattle.std.specs.List.{list_all, range_with_len}
use Rattle.cycle_cert.specs.Bounds.{byte_values}

-- what holds if a test is true and if it is false holds
pub true_or_false : (P : Type 0) (b : Bool) → (b ≡ true → P) → (b ≡ false → P) → P
true_or_false P true then_true then_false = then_true refl
true_or_false P false then_true then_false = then_false refl

-- the element at a value
value_at : (v : ℕ) → v < 256 → get_or byte_values v 0 ≡ v
unfolding byte_values
value_at v h = get_or-range_with_len 0 256 v 0 h ∙ zero-add v

value_count : length byte_values ≡ 256
unfolding byte_values
value_count = length-range_with_len 0 256

-- a value that fails the test
pub not_each : (p : ℕ → Bool) (v : ℕ) → v < 256 → p v ≡ false → list_all p byte_values ≡ false
not_each p v h e =
    let is = value_at v h in
    let n = value_count in
    list_all_at p byte_values v 0 (omega (arith, n, h)) (rw is e)

-- a test that all values pass
pub at_value : (p : ℕ → Bool) (v : ℕ) → list_all p byte_values ≡ true → v < 256 → p v ≡ true
at_value p v e h =
    let failed : p v ≡ false → p v ≡ true = λ f. let k = not_each p v h f in absurd cc in
    true_or_false (p v ≡ true) (p v) (λ y. y) failed

all_of : (p : ℕ → Bool) (from n : ℕ) → ((v : ℕ) → v < from + n → p v ≡ true) → list_all p (range_with_len from n) ≡ true
all_of p from zero h = refl
all_of p from (suc n) h =
    let here : p from ≡ true = h from (omega arith) in
    let rest : list_all p (range_with_len (from + 1) n) ≡ true = all_of p (from + 1) n (λ v l. h v (omega (arith, l))) in
    rw (here, rest) refl

-- a test that each value passes
pub each_value : (p : ℕ → Bool) → ((v : ℕ) → v < 256 → p v ≡ true) → list_all p byte_values ≡ true
unfolding byte_values
each_value p h = all_of p 0 256 (λ v l. h v l)
