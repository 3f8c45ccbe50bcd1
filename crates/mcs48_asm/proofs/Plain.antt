-- Plain texts: what reading does with letters, digits, single blanks, commas and the marks of operands.
use Rattle.std.proofs.Common.{◌≡◌, ℕ, ◌+◌, ◌==◌, ◌||◌, Bool, true, false, cond, not, take}
use Rattle.std.proofs.Common.{List, [], ◌∷◌, ◌++◌, refl, ap, ◌∙◌, arith, one-add}
use Rattle.std.specs.List.{list_all, slice_split, onto_first, before_first, prefix_len}
use Rattle.std.specs.Char.{to_ascii_uppercase}
use Rattle.std.proofs.lemmas.Bool.{and_parts, and_from}
use Rattle.std.proofs.lemmas.Bool.Decides.{nat_tests}
use Rattle.std.proofs.lemmas.List.Splits.{slice_split-cons_no, slice_split-cons_yes}
use Rattle.mcs48_asm.specs.Characters.{is_word_character, is_comma, is_colon, is_semicolon, is_mark, is_allowed}

-- what the lines of a listing are made of
abbrev pub is_plain : ℕ → Bool
is_plain c = is_word_character c || c == 32 || is_comma c || is_mark c

abbrev pub IsPlain : List ℕ → Type 0
IsPlain text = list_all is_plain text ≡ true

-- what passes one test passes a weaker one
pub all_weaker : (p q : ℕ → Bool) → ((c : ℕ) → p c ≡ true → q c ≡ true) → (text : List ℕ) → list_all p text ≡ true → list_all q text ≡ true
all_weaker p q weaker [] all = refl
all_weaker p q weaker (c ∷ cs) all =
    let both = and_parts (p c) (list_all p cs) all in
    and_from (q c) (list_all q cs) (weaker c both.0) (all_weaker p q weaker cs both.1)

-- a text without a mark is one part
pub one_part : (p q : ℕ → Bool) → ((c : ℕ) → p c ≡ true → q c ≡ false) → (text : List ℕ) → list_all p text ≡ true
    → slice_split q text ≡ text ∷ []
one_part p q none [] all = refl
one_part p q none (c ∷ cs) all =
    let both = and_parts (p c) (list_all p cs) all in
    slice_split-cons_no q c cs (none c both.0) ∙ ap (onto_first c) (one_part p q none cs both.1)

-- and a text before a mark is the first part
pub first_part : (p q : ℕ → Bool) → ((c : ℕ) → p c ≡ true → q c ≡ false) → (text : List ℕ) (mark : ℕ) (rest : List ℕ)
    → list_all p text ≡ true → q mark ≡ true
    → slice_split q (text ++ mark ∷ rest) ≡ text ∷ slice_split q rest
first_part p q none [] mark rest all is = slice_split-cons_yes q mark rest is
first_part p q none (c ∷ cs) mark rest all is =
    let both = and_parts (p c) (list_all p cs) all in
    slice_split-cons_no q c (cs ++ mark ∷ rest) (none c both.0) ∙ ap (onto_first c) (first_part p q none cs mark rest both.1 is)

-- nothing is cut off where no mark is
pub uncut : (p q : ℕ → Bool) → ((c : ℕ) → p c ≡ true → q c ≡ false) → (text : List ℕ) → list_all p text ≡ true → before_first q text ≡ text
uncut p q none [] all = refl
uncut p q none (c ∷ cs) all =
    let both = and_parts (p c) (list_all p cs) all in
    ap (λ b. take (cond (not b) (1 + prefix_len (λ x. not (q x)) cs) 0) (c ∷ cs)) (none c both.0)
    ∙ ap (λ n. take n (c ∷ cs)) (one-add (prefix_len (λ x. not (q x)) cs)) ∙ ap (λ rest. c ∷ rest) (uncut p q none cs both.1)

-- a character of a listing is in upper case already
pub plain-upper : (c : ℕ) → is_plain c ≡ true → to_ascii_uppercase c ≡ c
plain-upper c h = grind (arith, nat_tests)

-- a character of a listing is allowed in a source
pub plain-allowed : (c : ℕ) → is_plain c ≡ true → is_allowed c ≡ true
plain-allowed c h = grind (arith, nat_tests)

-- a character of a listing begins no comment
pub plain-semicolon : (c : ℕ) → is_plain c ≡ true → is_semicolon c ≡ false
plain-semicolon c h = grind (arith, nat_tests)

-- a character of a listing ends no label
pub plain-colon : (c : ℕ) → is_plain c ≡ true → is_colon c ≡ false
plain-colon c h = grind (arith, nat_tests)

-- a character of a listing isn't LF
pub plain-newline : (c : ℕ) → is_plain c ≡ true → (c == 10) ≡ false
plain-newline c h = grind (arith, nat_tests)

-- a character of a listing isn't CR
pub plain-return : (c : ℕ) → is_plain c ≡ true → (c == 13) ≡ false
plain-return c h = grind (arith, nat_tests)

-- letters, digits and _ are characters of listings
pub word-plain : (c : ℕ) → is_word_character c ≡ true → is_plain c ≡ true
word-plain c h = grind (arith, nat_tests)
