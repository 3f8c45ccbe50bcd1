-- Words that are between single spaces on a line: its fields; and the line as the first of its text.
use Rattle.std.proofs.Common.{◌≡◌, ◌≤◌, ◌<◌, ℕ, ◌-◌, ◌^◌, ◌&&◌, ◌==◌, Bool, true, false, cond, List, [], ◌∷◌, ◌++◌}
use Rattle.std.proofs.Common.{length, slice_index, refl, ap, ◌∙◌, append_assoc, arith, decimal, length-append}
use Rattle.std.specs.Prelude.{All, nat_lt}
use Rattle.std.specs.List.{slice_split, list_all, filter}
use Rattle.std.specs.Str.Lines.{lines, strip_carriage_return}
use Rattle.std.proofs.lemmas.Bool.{and_parts}
use Rattle.std.proofs.lemmas.Bool.Decides.{nat_tests}
use Rattle.std.proofs.lemmas.Fmt.{decimal_nonempty}
use Rattle.std.proofs.lemmas.List.Elements.{All-nil, All-cons, All-weaker, All-append, All-get_or}
use Rattle.std.proofs.lemmas.List.Splits.{slice_split_at, slice_split_none}
use Rattle.bits.proofs.Every.{at_each}
use Rattle.pc_tables.specs.Keys.{keys, name_at}
use Rattle.text_lines.specs.Fields.{fields, is_blank, is_field}
use Rattle.text_lines.proofs.FirstLine.{lines-first}
use Rattle.key_lines.proofs.Numerals.{decimal-digits}

-- a text that isn't empty, of characters above the least
pub record IsText (least : ℕ) (text : List ℕ) : Type 0 where
  pub some : 0 < length text
  pub each : All (λ c. least < c) text

-- a text with no space, no tab and no end of a line; and one that may have spaces
abbrev pub IsWord : List ℕ → Type 0
IsWord text = IsText 32 text

abbrev pub IsLine : List ℕ → Type 0
IsLine text = IsText 31 text

abbrev pub is_text : ℕ → List ℕ → Bool
is_text least text = nat_lt 0 (length text) && list_all (λ c. nat_lt least c) text

each-of : (least : ℕ) (text : List ℕ) → list_all (λ c. nat_lt least c) text ≡ true → All (λ c. least < c) text
each-of least [] h = All-nil (λ c. least < c)
each-of least (c ∷ cs) h =
    let both = and_parts (nat_lt least c) (list_all (λ c. nat_lt least c) cs) h in
    let first = both.0 in
    All-cons (λ c. least < c) c cs (grind (arith, nat_tests, first)) (each-of least cs both.1)

-- a text that passes the test isn't empty, and each character is above the least
pub text-by : (least : ℕ) (text : List ℕ) → is_text least text ≡ true → IsText least text
text-by least text h =
    let both = and_parts (nat_lt 0 (length text)) (list_all (λ c. nat_lt least c) text) h in
    let some = both.0 in
    record { some = grind (arith, nat_tests, some); each = each-of least text both.1 }

-- each key's name is such, and each number
names-plain : (k : ℕ) → k < 84 → is_text 32 (name_at k) ≡ true
unfolding keys
names-plain = at_each (λ k. is_text 32 (name_at k)) 84 refl

-- a key's name is a word
pub name-word : (k : ℕ) → k < 84 → IsWord (name_at k)
name-word k h = text-by 32 (name_at k) (names-plain k h)

-- a number in decimal digits is a word
pub decimal-word : (n : ℕ) → n < 2 ^ 64 → IsWord (decimal n)
decimal-word n h =
    record {
      some = decimal_nonempty n h;
      each = All-weaker (λ c. (48 ≤ c) × (c ≤ 57)) (λ c. 32 < c) (λ c l. omega (arith, l.0)) (decimal n) (decimal-digits n h);
    }

solid : (word : List ℕ) → IsWord word → All (λ c. is_blank c ≡ false) word
solid word h = All-weaker (λ c. 32 < c) (λ c. is_blank c ≡ false) no_blank word h.each
  where
    no_blank : (c : ℕ) → 32 < c → is_blank c ≡ false
    no_blank c l = grind (arith, nat_tests)

field : (word : List ℕ) (parts : List (List ℕ)) → IsWord word → filter is_field (word ∷ parts) ≡ word ∷ filter is_field parts
field word parts h =
    let some = h.some in
    let is : is_field word ≡ true = grind (arith, nat_tests, some) in
    ap (λ b. cond b (word ∷ filter is_field parts) (filter is_field parts)) is

-- a word alone is a line's one field
pub fields-one : (a : List ℕ) → IsWord a → fields a ≡ a ∷ []
unfolding fields
fields-one a h = ap (filter is_field) (slice_split_none is_blank a (solid a h)) ∙ field a [] h

-- the fields of a line that begins with a word and a space are that word and the fields of the rest
pub fields-more : (a rest : List ℕ) → IsWord a → fields (a ++ 32 ∷ rest) ≡ a ∷ fields rest
unfolding fields
fields-more a rest h = ap (filter is_field) (slice_split_at is_blank a 32 rest (solid a h) refl) ∙ field a (slice_split is_blank rest) h

-- two words with a space between them are a line's two fields
pub fields-two : (a b : List ℕ) → IsWord a → IsWord b → fields (a ++ 32 ∷ b) ≡ a ∷ b ∷ []
fields-two a b h k = fields-more a b h ∙ ap (λ more. a ∷ more) (fields-one b k)

-- three words with single spaces between them are a line's three fields
pub fields-three : (a b c : List ℕ) → IsWord a → IsWord b → IsWord c → fields ((a ++ 32 ∷ b) ++ 32 ∷ c) ≡ a ∷ b ∷ c ∷ []
fields-three a b c h k l =
    ap fields (append_assoc a (32 ∷ b) (32 ∷ c)) ∙ fields-more a (b ++ 32 ∷ c) h ∙ ap (λ more. a ∷ more) (fields-two b c k l)

-- a word alone is a line
pub line-word : (a : List ℕ) → IsWord a → IsLine a
line-word a h = record { some = h.some; each = All-weaker (λ c. 32 < c) (λ c. 31 < c) (λ c l. omega arith) a h.each }

-- two lines with a space between them are a line
pub line-more : (a b : List ℕ) → IsLine a → IsLine b → IsLine (a ++ 32 ∷ b)
line-more a b h k =
    record {
      some = let some = h.some in omega (arith, length-append a (32 ∷ b));
      each = All-append (λ c. 31 < c) a (32 ∷ b) h.each (All-cons (λ c. 31 < c) 32 b (omega arith) k.each);
    }

no_return : (line : List ℕ) → IsLine line → strip_carriage_return line ≡ line
no_return line h =
    let some = h.some in
    let last : 31 < slice_index line (length line - 1) = All-get_or (λ c. 31 < c) line (length line - 1) 0 (omega arith) h.each in
    let not_return : (slice_index line (length line - 1) == 13) ≡ false = grind (arith, nat_tests) in
    rw not_return refl

-- a line that is followed by LF is the first line of its text; the others are those of the rest
pub first-line : (line rest : List ℕ) → IsLine line → lines ((line ++ 10 ∷ []) ++ rest) ≡ line ∷ lines rest
first-line line rest h =
    let no_lf = All-weaker (λ c. 31 < c) (λ c. (c == 10) ≡ false) not_lf line h.each in
    lines-first ((line ++ 10 ∷ []) ++ rest) line rest
    (ap (slice_split (λ c. c == 10)) (append_assoc line (10 ∷ []) rest) ∙ slice_split_at (λ c. c == 10) line 10 rest no_lf refl)
    ∙ ap (λ first. first ∷ lines rest) (no_return line h)
  where
    not_lf : (c : ℕ) → 31 < c → (c == 10) ≡ false
    not_lf c l = grind (arith, nat_tests)
