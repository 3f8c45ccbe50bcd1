-- The tokens and the words of a text, by its front.
use Rattle.std.proofs.Common.{◌≡◌, ℕ, zero, suc, ◌≤◌, ◌&&◌, not, Bool, true, false, cond, List, [], ◌∷◌, ◌++◌, length, filter}
use Rattle.std.proofs.Common.{nat_lt, take, drop, slice_index, refl, ap, sym, ◌∙◌, arith, append-nil, take-append-drop}
use Rattle.std.specs.List.{list_all, slice_split, onto_first}
use Rattle.std.proofs.lemmas.Bool.{and_parts, not-true}
use Rattle.std.proofs.lemmas.Bool.Decides.{nat_tests}
use Rattle.std.proofs.lemmas.List.Elements.{filter-append}
use Rattle.std.proofs.lemmas.List.Splits.{slice_split-cons_yes, slice_split-cons_no}
use Rattle.text_lines.proofs.FirstLine.{split-is_cons}
use Rattle.mcs48_asm.specs.Characters.{is_word_character, is_blank, is_comma}
use Rattle.mcs48_asm.specs.Tokens.{words_of, goes_on, before_tokens, tokens_of}

-- a word's character is no blank and no comma, and a comma is no blank
pub word-blank : (c : ℕ) → is_word_character c ≡ true → is_blank c ≡ false
word-blank c h = grind (arith, nat_tests)

-- a letter, a digit or _ isn't a comma
pub word-comma : (c : ℕ) → is_word_character c ≡ true → is_comma c ≡ false
word-comma c h = grind (arith, nat_tests)

-- a comma isn't a letter, a digit or _
pub comma-word : (c : ℕ) → is_comma c ≡ true → is_word_character c ≡ false
comma-word c h = grind (arith, nat_tests)

comma-blank : (c : ℕ) → is_comma c ≡ true → is_blank c ≡ false
comma-blank c h = grind (arith, nat_tests)

-- what is before tokens
pub before-blank : (c : ℕ) (g : Bool) (ts : List (List ℕ)) → is_blank c ≡ true → before_tokens c g ts ≡ ts
before-blank c g ts h = ap (λ b. cond b ts (cond (g && not (is_comma c)) (onto_first c ts) ((c ∷ []) ∷ ts))) h

-- a character that is no blank, before a text that doesn't go on with a letter, is a token of its own
pub before-apart : (c : ℕ) (ts : List (List ℕ)) → is_blank c ≡ false → before_tokens c false ts ≡ (c ∷ []) ∷ ts
before-apart c ts h = ap (λ b. cond b ts ((c ∷ []) ∷ ts)) h

-- a comma is a token of its own
pub before-comma : (c : ℕ) (g : Bool) (ts : List (List ℕ)) → is_comma c ≡ true → before_tokens c g ts ≡ (c ∷ []) ∷ ts
before-comma c true ts h =
    ap (λ b. cond b ts (cond (true && not (is_comma c)) (onto_first c ts) ((c ∷ []) ∷ ts))) (comma-blank c h)
    ∙ ap (λ b. cond (true && not b) (onto_first c ts) ((c ∷ []) ∷ ts)) h
before-comma c false ts h = before-apart c ts (comma-blank c h)

-- a character that is neither blank nor comma is joined to the token after it, if the text goes on with a letter
pub before-joined : (c : ℕ) (ts : List (List ℕ)) → is_blank c ≡ false → is_comma c ≡ false → before_tokens c true ts ≡ onto_first c ts
before-joined c ts h k = ap (λ b. cond b ts (cond (true && not (is_comma c)) (onto_first c ts) ((c ∷ []) ∷ ts))) h
    ∙ ap (λ b. cond (true && not b) (onto_first c ts) ((c ∷ []) ∷ ts)) k

-- a character that is no blank and no comma, the letters after it, and what is after these
pub token-run : (c : ℕ) (word rest : List ℕ) → is_blank c ≡ false → is_comma c ≡ false
    → list_all is_word_character word ≡ true → goes_on rest ≡ false
    → tokens_of (c ∷ (word ++ rest)) ≡ (c ∷ word) ∷ tokens_of rest
token-run c [] rest visible comma all ends = ap (λ g. before_tokens c g (tokens_of rest)) ends ∙ before-apart c (tokens_of rest) visible
token-run c (d ∷ ds) rest visible comma all ends =
    let both = and_parts (is_word_character d) (list_all is_word_character ds) all in
    ap (λ g. before_tokens c g (tokens_of (d ∷ (ds ++ rest)))) both.0
    ∙ before-joined c (tokens_of (d ∷ (ds ++ rest))) visible comma
    ∙ ap (onto_first c) (token-run d ds rest (word-blank d both.0) (word-comma d both.0) both.1 ends)

-- the same, where so many letters are after the character
pub token-cut : (c : ℕ) (afterwards : List ℕ) (n : ℕ) → is_blank c ≡ false → is_comma c ≡ false
    → list_all is_word_character (take n afterwards) ≡ true → goes_on (drop n afterwards) ≡ false
    → tokens_of (c ∷ afterwards) ≡ (c ∷ take n afterwards) ∷ tokens_of (drop n afterwards)
token-cut c afterwards n visible comma all ends = ap (λ text. tokens_of (c ∷ text)) (sym (take-append-drop n afterwards))
    ∙ token-run c (take n afterwards) (drop n afterwards) visible comma all ends

-- one token: what begins with no blank and no comma, and goes on with letters, digits and _
abbrev pub is_token : List ℕ → Bool
is_token [] = false
is_token (c ∷ cs) = not (is_blank c) && (not (is_comma c) && list_all is_word_character cs)

-- a token before a text that doesn't go on with a letter is the first token
pub token-before : (text rest : List ℕ) → is_token text ≡ true → goes_on rest ≡ false → tokens_of (text ++ rest) ≡ text ∷ tokens_of rest
token-before [] rest h ends = absurd (cc)
token-before (c ∷ cs) rest h ends =
    let first = and_parts (not (is_blank c)) _ h in
    let second = and_parts (not (is_comma c)) _ first.1 in
    token-run c cs rest (not-true (is_blank c) first.0) (not-true (is_comma c) second.0) second.1 ends

-- a token alone is one token
pub token-one : (text : List ℕ) → is_token text ≡ true → tokens_of text ≡ text ∷ []
token-one text h = ap tokens_of (sym (append-nil text)) ∙ token-before text [] h refl

-- a text of letters is a token
pub word-token : (c : ℕ) (cs : List ℕ) → list_all is_word_character (c ∷ cs) ≡ true → is_token (c ∷ cs) ≡ true
word-token c cs all =
    let both = and_parts (is_word_character c) (list_all is_word_character cs) all in
    rw (word-blank c both.0, word-comma c both.0) both.1

-- the words
abbrev is_between : ℕ → Bool
is_between c = not (is_word_character c)

abbrev is_word : List ℕ → Bool
is_word word = nat_lt 0 (length word)

-- the parts after the first of a text that doesn't go on with a letter
abbrev parts_after : List ℕ → List (List ℕ)
parts_after [] = []
parts_after (c ∷ cs) = slice_split is_between cs

split-end : (rest : List ℕ) → goes_on rest ≡ false → slice_split is_between rest ≡ [] ∷ parts_after rest
split-end [] h = refl
split-end (c ∷ cs) h = slice_split-cons_yes is_between c cs (ap not h)

split-word : (word rest : List ℕ) → list_all is_word_character word ≡ true → goes_on rest ≡ false
    → slice_split is_between (word ++ rest) ≡ word ∷ parts_after rest
split-word [] rest all ends = split-end rest ends
split-word (c ∷ cs) rest all ends =
    let both = and_parts (is_word_character c) (list_all is_word_character cs) all in
    slice_split-cons_no is_between c (cs ++ rest) (ap not both.0) ∙ ap (onto_first c) (split-word cs rest both.1 ends)

-- a part that isn't nothing is a word
pub kept : (c : ℕ) (cs : List ℕ) (parts : List (List ℕ)) → filter is_word ((c ∷ cs) ∷ parts) ≡ (c ∷ cs) ∷ filter is_word parts
kept c cs parts = let some : is_word (c ∷ cs) ≡ true = grind (arith, nat_tests) in
    ap (λ b. cond b ((c ∷ cs) ∷ filter is_word parts) (filter is_word parts)) some

-- letters before a text that doesn't go on with one are the first word
pub words-run : (c : ℕ) (cs rest : List ℕ) → list_all is_word_character (c ∷ cs) ≡ true → goes_on rest ≡ false
    → words_of ((c ∷ cs) ++ rest) ≡ (c ∷ cs) ∷ words_of rest
words-run c cs rest all ends =
    ap (filter is_word) (split-word (c ∷ cs) rest all ends)
    ∙ kept c cs (parts_after rest)
    ∙ ap (λ words. (c ∷ cs) ∷ words) (sym (ap (filter is_word) (split-end rest ends)))

-- the same, where so many letters are at the start
pub words-cut : (text : List ℕ) (n : ℕ) → 1 ≤ length text → is_word_character (slice_index text 0) ≡ true
    → list_all is_word_character (take n text) ≡ true → goes_on (drop n text) ≡ false
    → words_of text ≡ take n text ∷ words_of (drop n text)
words-cut [] n some h all ends = absurd (cc)
words-cut (c ∷ afterwards) zero some h all ends = absurd (cc)
words-cut (c ∷ afterwards) (suc n) some h all ends = ap (λ text. words_of (c ∷ text)) (sym (take-append-drop n afterwards))
    ∙ words-run c (take n afterwards) (drop n afterwards) all ends

-- the words before a character that is in none, and those after it
onto-append : (c : ℕ) (text : List ℕ) (parts : List (List ℕ))
    → onto_first c (slice_split is_between text ++ parts) ≡ onto_first c (slice_split is_between text) ++ parts
onto-append c text parts = let cut = split-is_cons is_between text in ap (λ ps. onto_first c (ps ++ parts)) cut.is
    ∙ sym (ap (λ ps. onto_first c ps ++ parts) cut.is)

split-before : (text : List ℕ) (m : ℕ) (rest : List ℕ) → is_between m ≡ true
    → slice_split is_between (text ++ m ∷ rest) ≡ slice_split is_between text ++ slice_split is_between rest
split-before [] m rest h = slice_split-cons_yes is_between m rest h
split-before (c ∷ cs) m rest h = go (is_between c) (split-before cs m rest h)
  where
    go : (b : Bool) → slice_split is_between (cs ++ m ∷ rest) ≡ slice_split is_between cs ++ slice_split is_between rest
        → cond b ([] ∷ slice_split is_between (cs ++ m ∷ rest))
        (onto_first c (slice_split is_between (cs ++ m ∷ rest)))
        ≡ cond b ([] ∷ slice_split is_between cs) (onto_first c (slice_split is_between cs)) ++ slice_split is_between rest
    go true more = ap (λ parts. [] ∷ parts) more
    go false more = ap (onto_first c) more ∙ onto-append c cs (slice_split is_between rest)

-- a character of no word parts the words before it from those after it
pub words-before : (text : List ℕ) (m : ℕ) (rest : List ℕ) → is_word_character m ≡ false
    → words_of (text ++ m ∷ rest) ≡ words_of text ++ words_of rest
words-before text m rest h = ap (filter is_word) (split-before text m rest (ap not h))
    ∙ filter-append is_word (slice_split is_between text) (slice_split is_between rest)
