-- No reserved word is longer than five characters.
use Rattle.std.proofs.Common.{◌≡◌, ℕ, ◌||◌, Bool, true, false, nat_le, List, [], ◌∷◌, length, refl, ap, ◌∙◌}
use Rattle.std.specs.List.{list_any, list_all}
use Rattle.std.specs.Str.{bytes_eq}
use Rattle.std.proofs.lemmas.Bool.{and_parts}
use Rattle.std.proofs.lemmas.Slice.Eq.{bytes_eq-Decides}
use Rattle.mcs48_asm.specs.Rows.{Form, instructions, is_instruction, reserved, is_reserved}

other-length : (held name : List ℕ) → nat_le (length held) 5 ≡ true → nat_le (length name) 5 ≡ false → bytes_eq held name ≡ false
other-length held name short long = go (bytes_eq held name) refl
  where
    go : (t : Bool) → bytes_eq held name ≡ t → t ≡ false
    go true is = let same : held ≡ name = (bytes_eq-Decides held name).0 is in absurd (cc (short, long, same))
    go false is = refl

none-held : (words : List (List ℕ)) → list_all (λ word. nat_le (length word) 5) words ≡ true → (name : List ℕ)
    → nat_le (length name) 5 ≡ false → list_any (λ held. bytes_eq held name) words ≡ false
none-held [] all name long = refl
none-held (word ∷ words) all name long =
    let both = and_parts (nat_le (length word) 5) (list_all (λ word. nat_le (length word) 5) words) all in
    ap (λ b. b || list_any (λ held. bytes_eq held name) words) (other-length word name both.0 long) ∙ none-held words both.1 name long

none-first : (forms : List Form) → list_all (λ form. nat_le (length form.word) 5) forms ≡ true → (name : List ℕ)
    → nat_le (length name) 5 ≡ false → list_any (λ form. bytes_eq form.word name) forms ≡ false
none-first [] all name long = refl
none-first (form ∷ forms) all name long =
    let both = and_parts (nat_le (length form.word) 5) (list_all (λ form. nat_le (length form.word) 5) forms) all in
    ap (λ b. b || list_any (λ form. bytes_eq form.word name) forms) (other-length form.word name both.0 long)
    ∙ none-first forms both.1 name long

-- a name of more than five characters isn't reserved
pub reserved_long : (name : List ℕ) → nat_le (length name) 5 ≡ false → is_reserved name ≡ false
unfolding is_reserved reserved is_instruction instructions
reserved_long name long = ap (λ b. b || is_instruction name) (none-held reserved refl name long) ∙ none-first instructions refl name long
