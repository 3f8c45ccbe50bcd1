-- The words after a command's own are the names of its files.
use Rattle.std.proofs.Common.{◌≡◌, ℕ, ◌<◌, List, [], ◌∷◌, length, map, string_bytes}
use Rattle.std.proofs.Common.{slice_index_or, String, Global, ap, ◌∙◌, arith}
use Rattle.app_words.specs.Words.{name_in, second_in, third_in, fourth_in}
use Rattle.kbd48_app.specs.Plans.{Plan}

-- the second word is the first name
name_is : (words : List (String Global)) (word : String Global)
    → 1 < length words → word ≡ slice_index_or words 1 word → string_bytes word ≡ name_in (map string_bytes words)
name_is [] word more at = absurd (omega arith)
name_is (first ∷ []) word more at = absurd (omega arith)
name_is (first ∷ second ∷ others) word more at = ap string_bytes at

-- the third word is the second name
second_name : (words : List (String Global)) (word : String Global)
    → 2 < length words → word ≡ slice_index_or words 2 word → string_bytes word ≡ second_in (map string_bytes words)
second_name [] word more at = absurd (omega arith)
second_name (first ∷ []) word more at = absurd (omega arith)
second_name (first ∷ second ∷ []) word more at = absurd (omega arith)
second_name (first ∷ second ∷ third ∷ others) word more at = ap string_bytes at

-- the fourth word is the third name
third_name : (words : List (String Global)) (word : String Global)
    → 3 < length words → word ≡ slice_index_or words 3 word → string_bytes word ≡ third_in (map string_bytes words)
third_name [] word more at = absurd (omega arith)
third_name (first ∷ []) word more at = absurd (omega arith)
third_name (first ∷ second ∷ []) word more at = absurd (omega arith)
third_name (first ∷ second ∷ third ∷ []) word more at = absurd (omega arith)
third_name (first ∷ second ∷ third ∷ fourth ∷ others) word more at = ap string_bytes at

-- the fifth word is the fourth name
fourth_name : (words : List (String Global)) (word : String Global)
    → 4 < length words → word ≡ slice_index_or words 4 word → string_bytes word ≡ fourth_in (map string_bytes words)
fourth_name [] word more at = absurd (omega arith)
fourth_name (first ∷ []) word more at = absurd (omega arith)
fourth_name (first ∷ second ∷ []) word more at = absurd (omega arith)
fourth_name (first ∷ second ∷ third ∷ []) word more at = absurd (omega arith)
fourth_name (first ∷ second ∷ third ∷ fourth ∷ []) word more at = absurd (omega arith)
fourth_name (first ∷ second ∷ third ∷ fourth ∷ fifth ∷ others) word more at = ap string_bytes at

-- the plan of so many files, by the words that name them
pub named_1 : (words : List (String Global)) (plan : List ℕ → Plan) (a : String Global) (first : List ℕ) → 1 < length words
    → a ≡ slice_index_or words 1 a → first ≡ string_bytes a → plan first ≡ plan (name_in (map string_bytes words))
named_1 words plan a first more at_a is_a = ap plan (is_a ∙ name_is words a more at_a)

-- the second and the third word of a call are the names of a plan's two files
pub named_2 : (words : List (String Global)) (plan : List ℕ → List ℕ → Plan) (a b : String Global) (first second : List ℕ)
    → 2 < length words → a ≡ slice_index_or words 1 a → b ≡ slice_index_or words 2 b → first ≡ string_bytes a → second ≡ string_bytes b
    → plan first second ≡ plan (name_in (map string_bytes words)) (second_in (map string_bytes words))
named_2 words plan a b first second more at_a at_b is_a is_b =
    named_1 words (λ name. plan name second) a first (omega (arith, more)) at_a is_a
    ∙ ap (plan (name_in (map string_bytes words))) (is_b ∙ second_name words b more at_b)

-- the second to the fourth word of a call are the names of a plan's three files
pub named_3 : (words : List (String Global)) (plan : List ℕ → List ℕ → List ℕ → Plan) (a b c : String Global)
    (first second third : List ℕ) → 3 < length words
    → a ≡ slice_index_or words 1 a → b ≡ slice_index_or words 2 b → c ≡ slice_index_or words 3 c
    → first ≡ string_bytes a → second ≡ string_bytes b → third ≡ string_bytes c
    → plan first second third ≡ plan (name_in (map string_bytes words)) (second_in (map string_bytes words)) (third_in (map string_bytes words))
named_3 words plan a b c first second third more at_a at_b at_c is_a is_b is_c =
    named_2 words (λ name other. plan name other third) a b first second (omega (arith, more)) at_a at_b is_a is_b
    ∙ ap (plan (name_in (map string_bytes words)) (second_in (map string_bytes words))) (is_c ∙ third_name words c more at_c)

-- the second to the fifth word of a call are the names of a plan's four files
pub named_4 : (words : List (String Global)) (plan : List ℕ → List ℕ → List ℕ → List ℕ → Plan) (a b c d : String Global)
    (first second third fourth : List ℕ) → 4 < length words
    → a ≡ slice_index_or words 1 a → b ≡ slice_index_or words 2 b → c ≡ slice_index_or words 3 c → d ≡ slice_index_or words 4 d
    → first ≡ string_bytes a → second ≡ string_bytes b → third ≡ string_bytes c → fourth ≡ string_bytes d
    → plan first second third fourth ≡ plan (name_in (map string_bytes words)) (second_in (map string_bytes words))
    (third_in (map string_bytes words)) (fourth_in (map string_bytes words))
named_4 words plan a b c d first second third fourth more at_a at_b at_c at_d is_a is_b is_c is_d =
    named_3 words (λ name other next. plan name other next fourth) a b c first second third (omega (arith, more)) at_a at_b at_c is_a is_b is_c
    ∙ ap (plan (name_in (map string_bytes words)) (second_in (map string_bytes words)) (third_in (map string_bytes words)))
    (is_d ∙ fourth_name words d more at_d)

-- after an option, the third and the fourth word of a call are the names of a plan's two files
pub named_after : (words : List (String Global)) (plan : List ℕ → List ℕ → Plan) (b c : String Global) (second third : List ℕ)
    → 3 < length words → b ≡ slice_index_or words 2 b → c ≡ slice_index_or words 3 c → second ≡ string_bytes b → third ≡ string_bytes c
    → plan second third ≡ plan (second_in (map string_bytes words)) (third_in (map string_bytes words))
named_after words plan b c second third more at_b at_c is_b is_c =
    ap (λ name. plan name third) (is_b ∙ second_name words b (omega (arith, more)) at_b)
    ∙ ap (plan (second_in (map string_bytes words))) (is_c ∙ third_name words c more at_c)
