-- Any data memory of 128 places is cells by a function before a ring.
use Rattle.std.proofs.Common.{◌≡◌, ◌≤◌, ℕ, suc, zero, ◌+◌, List, ◌∷◌, length, drop, get_or, refl, ap, sym, ◌∙◌, arith}
use Rattle.std.proofs.lemmas.List.{drop_more}
use Rattle.law_fw_logic.proofs.Block.{before, memory}

-- the rest of a memory from a place on is its next n cells and then what follows them
pub drop_is : (xs : List ℕ) (at n : ℕ) → at + n ≤ length xs
    → drop at xs ≡ before (λ i. get_or xs i 0) at n (drop (at + n) xs)
drop_is xs at zero l = let e : at + 0 ≡ at = omega arith in rw e refl
drop_is xs at (suc n) l =
    let e : at + suc n ≡ at + 1 + n = omega arith in
    drop_more xs at 0 (omega (arith, l)) ∙ ap (λ t. get_or xs at 0 ∷ t)
    (drop_is xs (at + 1) n (omega (arith, l)) ∙ ap (λ k. before (λ i. get_or xs i 0) (at + 1) n (drop k xs)) (sym e))

-- each memory of 128 places is its 112 cells and then the ring of 16 bytes
pub memory_is : (xs : List ℕ) → length xs ≡ 128 → xs ≡ memory (λ i. get_or xs i 0) (drop 112 xs)
memory_is xs l = drop_is xs 0 112 (omega (arith, l))
