-- The columns' layers in data memory, as a function of the column.
use Rattle.std.proofs.Common.{◌≡◌, ◌≤◌, ◌<◌, ℕ, suc, zero, ◌+◌, ◌-◌, ◌%◌, List, ◌∷◌, Bool, true, false, ◌==◌}
use Rattle.std.proofs.Common.{nat_lt, if◌then◌else◌, slice_set, refl, ap, sym, ◌∙◌, arith}
use Rattle.std.proofs.lemmas.Bool.Decides.{nat_tests}
use Rattle.law_fw_logic.proofs.Block.{before, memory, put}
use Rattle.fw_kernel.specs.declared.cells.TheConstants.{LAYER}

-- cells of which 80 to 91 are a function's
abbrev pub laid : (ℕ → ℕ) → (ℕ → ℕ) → ℕ → ℕ
laid f bytes i = if nat_lt i LAYER then f i else if nat_lt i (LAYER + 12) then bytes (i - LAYER) else f i

-- the columns' layers change no cell before them
pub laid_low : (f bytes : ℕ → ℕ) (i : ℕ) → i < LAYER → laid f bytes i ≡ f i
laid_low f bytes i l = let e : nat_lt i LAYER ≡ true = grind (arith, nat_tests, l) in rw e refl

-- the columns' layers change no cell after them
pub laid_high : (f bytes : ℕ → ℕ) (i : ℕ) → LAYER + 12 ≤ i → laid f bytes i ≡ f i
laid_high f bytes i l =
    let a : nat_lt i LAYER ≡ false = grind (arith, nat_tests, l) in
    let b : nat_lt i (LAYER + 12) ≡ false = grind (arith, nat_tests, l) in
    rw (a, b) refl

-- the cell of a column's layers has the column's byte
pub laid_at : (f bytes : ℕ → ℕ) (c : ℕ) → c < 12 → laid f bytes (LAYER + c) ≡ bytes c
laid_at f bytes c l =
    let a : nat_lt (LAYER + c) LAYER ≡ false = (let n : LAYER ≤ LAYER + c = omega arith in grind (arith, nat_tests, n)) in
    let b : nat_lt (LAYER + c) (LAYER + 12) ≡ true =
    (let n : LAYER + c < LAYER + 12 = omega (arith, l) in grind (arith, nat_tests, n)) in
    let e : LAYER + c - LAYER ≡ c = omega arith in
    rw (a, b, e) refl

-- memory is a matter of the cells
before_same : (f g : ℕ → ℕ) (at n : ℕ) (ring : List ℕ) → ((i : ℕ) → at ≤ i → i < at + n → f i ≡ g i)
    → before f at n ring ≡ before g at n ring
before_same f g at zero ring e = refl
before_same f g at (suc n) ring e =
    let first : f at ≡ g at = e at (omega arith) (omega arith) in
    ap (λ v. v ∷ before f (at + 1) n ring) first
    ∙ ap (λ t. g at ∷ t) (before_same f g (at + 1) n ring (λ i l u. e i (omega (arith, l)) (omega (arith, u))))

memory_same : (f g : ℕ → ℕ) (ring : List ℕ) → ((i : ℕ) → i < 112 → f i ≡ g i) → memory f ring ≡ memory g ring
memory_same f g ring e = before_same f g 0 112 ring (λ i l u. e i (omega (arith, u)))

-- a write to a cell
before_set : (f : ℕ → ℕ) (at n : ℕ) (ring : List ℕ) (i v : ℕ) → i < n
    → slice_set (before f at n ring) i v ≡ before (put f (at + i) v) at n ring
before_set f at zero ring i v l = absurd (omega (arith, l))
before_set f at (suc n) ring zero v l =
    let e : at + 0 ≡ at = omega arith in
    let same : (at == at) ≡ true = grind (arith, nat_tests) in
    let rest : before f (at + 1) n ring ≡ before (put f at v) (at + 1) n ring =
    before_same f (put f at v) (at + 1) n ring
    (λ i l u. let ne : (i == at) ≡ false = (let m : at < i = omega (arith, l) in grind (arith, nat_tests, m)) in
    sym (ap (λ b. if b then v else f i) ne)) in
    ap (λ t. v ∷ t) rest ∙ sym (ap (λ b. (if b then v else f at) ∷ before (put f at v) (at + 1) n ring) same)
    ∙ sym (ap (λ k. before (put f k v) at (suc n) ring) e)
before_set f at (suc n) ring (suc i) v l =
    let e : at + 1 + i ≡ at + suc i = omega arith in
    let ne : (at == at + suc i) ≡ false = (let m : at < at + suc i = omega arith in grind (arith, nat_tests, m)) in
    ap (λ t. f at ∷ t) (before_set f (at + 1) n ring i v (omega (arith, l)))
    ∙ ap (λ k. f at ∷ before (put f k v) (at + 1) n ring) e
    ∙ sym (ap (λ b. (if b then v else f at) ∷ before (put f (at + suc i) v) (at + 1) n ring) ne)

-- a write through a pointer
pub cell_set : (f : ℕ → ℕ) (ring : List ℕ) (p i v : ℕ) → p ≡ i → i < 112
    → slice_set (memory f ring) (p % 128) v ≡ memory (put f i v) ring
cell_set f ring p i v e l =
    let m : p % 128 ≡ i = omega (arith, e, l) in
    let z : 0 + i ≡ i = omega arith in
    ap (λ k. slice_set (memory f ring) k v) m ∙ before_set f 0 112 ring i v l
    ∙ ap (λ k. memory (put f k v) ring) z

-- and to the cell of a column's layers
laid_same : (f bytes : ℕ → ℕ) (c v i : ℕ) (a b : Bool) → nat_lt i LAYER ≡ a → nat_lt i (LAYER + 12) ≡ b → c < 12
    → put (laid f bytes) (LAYER + c) v i ≡ laid f (put bytes c v) i
laid_same f bytes c v i true b ea eb l =
    let ne : (i == LAYER + c) ≡ false = (let m : i < LAYER = grind (arith, nat_tests, ea) in
    let n : i < LAYER + c = omega (arith, m) in grind (arith, nat_tests, n)) in
    rw (ne, ea) refl
laid_same f bytes c v i false false ea eb l =
    let ne : (i == LAYER + c) ≡ false = (let m : LAYER + 12 ≤ i = grind (arith, nat_tests, eb) in
    let n : LAYER + c < i = omega (arith, m, l) in grind (arith, nat_tests, n)) in
    rw (ne, ea, eb) refl
laid_same f bytes c v i false true ea eb l = by (i == LAYER + c) refl
  where
    low : LAYER ≤ i
    low = grind (arith, nat_tests, ea)

    by : (same : Bool) → (i == LAYER + c) ≡ same → put (laid f bytes) (LAYER + c) v i ≡ laid f (put bytes c v) i
    by true e =
        let is : i ≡ LAYER + c = grind (arith, nat_tests, e) in
        let at : (i - 80 == c) ≡ true = (let n : i - 80 ≡ c = omega (arith, is) in grind (arith, nat_tests, n)) in
        rw (e, ea, eb, at) refl
    by false e =
        let at : (i - 80 == c) ≡ false = (let n : (i == LAYER + c) ≡ false = e in grind (arith, nat_tests, n, low)) in
        rw (e, ea, eb, at) refl

-- a write to the cell of a column's layers is a write to that column's byte
pub laid_set : (f bytes : ℕ → ℕ) (ring : List ℕ) (c v : ℕ) → c < 12
    → memory (put (laid f bytes) (LAYER + c) v) ring ≡ memory (laid f (put bytes c v)) ring
laid_set f bytes ring c v l =
    memory_same (put (laid f bytes) (LAYER + c) v) (laid f (put bytes c v)) ring
    (λ i m. laid_same f bytes c v i (nat_lt i LAYER) (nat_lt i (LAYER + 12)) refl refl l)
