-- A matrix is read from the rows of its columns.
use Rattle.std.proofs.Common.{◌≡◌, ◌<◌, ℕ, Bool, List, [], ◌∷◌, length, get_or, refl, ap, sym, ◌∙◌, arith}
use Rattle.board_terms.proofs.Columns.{reads_column}
use Rattle.board_terms.specs.Columns.{keys_in}
use Rattle.joint_saved.specs.Saved.{columns_of}

twelve : (xs : List ℕ) → length xs ≡ 12
    → get_or xs 0 0 ∷ get_or xs 1 0 ∷ get_or xs 2 0 ∷ get_or xs 3 0 ∷ get_or xs 4 0 ∷ get_or xs 5 0 ∷ get_or xs 6 0
    ∷ get_or xs 7 0 ∷ get_or xs 8 0 ∷ get_or xs 9 0 ∷ get_or xs 10 0 ∷ get_or xs 11 0 ∷ [] ≡ xs
twelve [] e = absurd (omega (arith, e))
twelve (a ∷ []) e = absurd (omega (arith, e))
twelve (a ∷ b ∷ []) e = absurd (omega (arith, e))
twelve (a ∷ b ∷ c ∷ []) e = absurd (omega (arith, e))
twelve (a ∷ b ∷ c ∷ d ∷ []) e = absurd (omega (arith, e))
twelve (a ∷ b ∷ c ∷ d ∷ f ∷ []) e = absurd (omega (arith, e))
twelve (a ∷ b ∷ c ∷ d ∷ f ∷ g ∷ []) e = absurd (omega (arith, e))
twelve (a ∷ b ∷ c ∷ d ∷ f ∷ g ∷ h ∷ []) e = absurd (omega (arith, e))
twelve (a ∷ b ∷ c ∷ d ∷ f ∷ g ∷ h ∷ i ∷ []) e = absurd (omega (arith, e))
twelve (a ∷ b ∷ c ∷ d ∷ f ∷ g ∷ h ∷ i ∷ j ∷ []) e = absurd (omega (arith, e))
twelve (a ∷ b ∷ c ∷ d ∷ f ∷ g ∷ h ∷ i ∷ j ∷ k ∷ []) e = absurd (omega (arith, e))
twelve (a ∷ b ∷ c ∷ d ∷ f ∷ g ∷ h ∷ i ∷ j ∷ k ∷ l ∷ []) e = absurd (omega (arith, e))
twelve (a ∷ b ∷ c ∷ d ∷ f ∷ g ∷ h ∷ i ∷ j ∷ k ∷ l ∷ m ∷ []) e = refl
twelve (a ∷ b ∷ c ∷ d ∷ f ∷ g ∷ h ∷ i ∷ j ∷ k ∷ l ∷ m ∷ n ∷ o) e = absurd (omega (arith, e))

-- the rows of the matrix that bytes are the columns of are these bytes
pub columns_read : (xs : List ℕ) → length xs ≡ 12 → ((i : ℕ) → get_or xs i 0 < 256) → columns_of (keys_in xs) ≡ xs
columns_read xs n byte =
    let at0 = reads_column xs 0 n (omega arith) (byte 0) in
    let at1 = reads_column xs 1 n (omega arith) (byte 1) in
    let at2 = reads_column xs 2 n (omega arith) (byte 2) in
    let at3 = reads_column xs 3 n (omega arith) (byte 3) in
    let at4 = reads_column xs 4 n (omega arith) (byte 4) in
    let at5 = reads_column xs 5 n (omega arith) (byte 5) in
    let at6 = reads_column xs 6 n (omega arith) (byte 6) in
    let at7 = reads_column xs 7 n (omega arith) (byte 7) in
    let at8 = reads_column xs 8 n (omega arith) (byte 8) in
    let at9 = reads_column xs 9 n (omega arith) (byte 9) in
    let at10 = reads_column xs 10 n (omega arith) (byte 10) in
    let at11 = reads_column xs 11 n (omega arith) (byte 11) in
    (λ i. sym at0 i ∷ sym at1 i ∷ sym at2 i ∷ sym at3 i ∷ sym at4 i ∷ sym at5 i ∷ sym at6 i ∷ sym at7 i ∷ sym at8 i
    ∷ sym at9 i ∷ sym at10 i ∷ sym at11 i ∷ [])
    ∙ twelve xs n

-- twelve bytes that are read as these keys are their columns
pub rows_are : (xs : List ℕ) (keys : List Bool) → length xs ≡ 12 → ((i : ℕ) → get_or xs i 0 < 256) → keys_in xs ≡ keys
    → xs ≡ columns_of keys
rows_are xs keys n byte e = sym (columns_read xs n byte) ∙ ap columns_of e

-- keys that were read from twelve bytes are read again from their own columns
pub keys_are : (xs : List ℕ) (keys : List Bool) → length xs ≡ 12 → ((i : ℕ) → get_or xs i 0 < 256) → keys_in xs ≡ keys
    → keys_in (columns_of keys) ≡ keys
keys_are xs keys n byte e = ap keys_in (sym (rows_are xs keys n byte e)) ∙ e
