-- Data memory by its cells.
use Rattle.std.proofs.Common.{◌≡◌, ◌<◌, ℕ, suc, zero, ◌+◌, List, false, ◌==◌, slice_index}
use Rattle.std.proofs.Common.{length, refl, ap, sym, ◌∙◌, arith, zero-add}
use Rattle.law_fw_logic.proofs.Block.{put, before, memory}

in_before : (f : ℕ → ℕ) (from n : ℕ) (ring : List ℕ) (i : ℕ) → i < n
    → slice_index (before f from n ring) i ≡ f (from + i)
in_before f from zero ring i l = absurd (omega (arith, l))
in_before f from (suc n) ring zero l = let e : from ≡ from + 0 = omega arith in ap f e
in_before f from (suc n) ring (suc i) l =
    let e : from + 1 + i ≡ from + suc i = omega arith in
    in_before f (from + 1) n ring i (omega (arith, l)) ∙ ap f e

-- a cell of data memory
pub cell : (f : ℕ → ℕ) (ring : List ℕ) (i : ℕ) → i < 112 → slice_index (memory f ring) i ≡ f i
cell f ring i l = in_before f 0 112 ring i l ∙ (let e : 0 + i ≡ i = omega arith in ap f e)

-- a cell that isn't the one that was put
pub put_other : (f : ℕ → ℕ) (k v i : ℕ) → (i == k) ≡ false → put f k v i ≡ f i
put_other f k v i e = rw e refl

-- what is after the cells
pub after_cells : (f : ℕ → ℕ) (from n : ℕ) (ring : List ℕ) (j : ℕ)
    → slice_index (before f from n ring) (n + j) ≡ slice_index ring j
after_cells f from zero ring j = rw zero-add refl
after_cells f from (suc n) ring j =
    let e : suc n + j ≡ suc (n + j) = omega arith in
    rw e (after_cells f (from + 1) n ring j)

before_long : (f : ℕ → ℕ) (from n : ℕ) (ring : List ℕ) → length (before f from n ring) ≡ n + length ring
before_long f from zero ring = sym (zero-add (length ring))
before_long f from (suc n) ring =
    let e : suc n + length ring ≡ suc (n + length ring) = omega arith in
    rw e (ap suc (before_long f (from + 1) n ring))

-- and its length is the same, whatever the cells are
pub cells_long : (f g : ℕ → ℕ) (ring : List ℕ) → length (memory f ring) ≡ length (memory g ring)
cells_long f g ring = before_long f 0 112 ring ∙ sym (before_long g 0 112 ring)
