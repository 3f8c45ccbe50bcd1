-- The words and the tokens of a text, its letters in upper case.
use Rattle.std.specs.Prelude.{ℕ, Bool, false, not, ◌&&◌, nat_lt, nat_le, List, [], ◌∷◌, length, filter, Some, None}
use Rattle.std.specs.Prelude.{if◌then◌else◌}
use Rattle.std.specs.List.{list_all, slice_split, onto_first}
use Rattle.std.specs.Option.{option_and_then}
use Rattle.std.specs.declared.option.Option.{Option}
use Rattle.mcs48_asm.specs.Characters.{is_initial, is_word_character, is_blank, is_comma}

-- the words of a text: its unbroken runs of letters, digits and _
abbrev pub words_of : List ℕ → List (List ℕ)
words_of text = filter (λ word. nat_lt 0 (length word)) (slice_split (λ c. not (is_word_character c)) text)

-- the first of words, or nothing
abbrev pub first_of : List (List ℕ) → List ℕ
first_of [] = []
first_of (word ∷ words) = word

-- the second of words, or nothing
abbrev pub second_of : List (List ℕ) → List ℕ
second_of [] = []
second_of (word ∷ words) = first_of words

-- a text goes on with a letter, a digit or _
abbrev pub goes_on : List ℕ → Bool
goes_on [] = false
goes_on (c ∷ cs) = is_word_character c

-- a character before tokens: a blank parts them, a comma is one of its own, and any other character belongs to the word
-- that begins right after it
abbrev pub before_tokens : ℕ → Bool → List (List ℕ) → List (List ℕ)
before_tokens c is_word_after tokens =
    if is_blank c then tokens
    else (if is_word_after && not (is_comma c) then onto_first c tokens else (c ∷ []) ∷ tokens)

-- the tokens of a text: words, each with the # or @ right before it, and commas
abbrev pub tokens_of : List ℕ → List (List ℕ)
tokens_of [] = []
tokens_of (c ∷ cs) = before_tokens c (goes_on cs) (tokens_of cs)

-- a comma
abbrev pub is_comma_token : List ℕ → Bool
is_comma_token [] = false
is_comma_token (c ∷ cs) = is_comma c

-- the parts of tokens between commas
abbrev pub parts_of : List (List ℕ) → List (List (List ℕ))
parts_of tokens = slice_split is_comma_token tokens

-- the token that is alone
abbrev pub only_of : List (List ℕ) → Option (List ℕ)
only_of (token ∷ []) = Some token
only_of _ = None

-- what a token says, if it is alone
abbrev pub alone : {T : Type 0} → (List ℕ → Option T) → List (List ℕ) → Option T
alone says tokens = option_and_then says (only_of tokens)

-- a name begins with a letter or _, goes on with letters, digits and _, and has at most 31 characters
abbrev pub is_name : List ℕ → Bool
is_name [] = false
is_name (c ∷ cs) = is_initial c && list_all is_word_character cs && nat_le (length (c ∷ cs)) 31

-- a token that is a name
abbrev pub name_of : List ℕ → Option (List ℕ)
name_of token = if is_name token then Some token else None
