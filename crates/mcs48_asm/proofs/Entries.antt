-- The text of an instruction, as the table writes it, is read as its instruction.
use Rattle.std.proofs.Common.{◌≡◌, ℕ, suc, ◌<◌, ◌≤◌, ◌==◌, ◌&&◌, ◌||◌, not, Bool, true, false, cond, is_some, nat_le, List}
use Rattle.std.proofs.Common.{[], ◌∷◌, length, codes, Option, Some, None, refl, ap, sym, ◌∙◌, arith, append-nil}
use Rattle.std.specs.List.{list_all, onto_first}
use Rattle.std.specs.Option.{option_map}
use Rattle.std.specs.Str.{bytes_eq}
use Rattle.std.proofs.lemmas.Bool.{and_parts, and_from, not-true, leb-true}
use Rattle.std.proofs.lemmas.List.Splits.{slice_split-cons_no}
use Rattle.mcs48_isa.proofs.Cases.{pointers, registers, ports}
use Rattle.mcs48_isa.specs.Instructions.{Operand, Is, Register, Pointer, Expander, Immediate, Address, Target}
use Rattle.mcs48_isa.specs.Text.{value, address, target, operand_text}
use Rattle.mcs48_asm.specs.declared.argument.Role.TheVariants as role
use Rattle.mcs48_asm.specs.Characters.{is_word_character, is_blank, is_comma}
use Rattle.mcs48_asm.specs.Tokens.{words_of, is_comma_token, parts_of, is_name}
use Rattle.mcs48_asm.specs.Values.{Number, number_of, number_or_name, value_of}
use Rattle.mcs48_asm.specs.Rows.{Reading, fixed, given, numbered, word_read, joined, both, read, read_parts, read_all}
use Rattle.mcs48_asm.specs.Statements.{is_known_word}
use Rattle.mcs48_asm.proofs.Plain.{is_plain, IsPlain, all_weaker, word-plain}
use Rattle.mcs48_asm.proofs.Numerals.{IsNumeral, value-numeral, address-numeral}
use Rattle.mcs48_asm.proofs.Tokenized.{is_token, words-run}

-- a word as listings have it: it is a name or a number, and isn't EQU
abbrev pub is_good_word : List ℕ → Bool
is_good_word word = is_known_word word && not (bytes_eq word (codes "EQU"))

-- a token as listings have it: its characters are plain, and its words are good
abbrev pub is_shown : List ℕ → Bool
is_shown text = is_token text && (list_all is_plain text && list_all is_good_word (words_of text))

-- what an operand says in the listing of a place
abbrev pub said_by : ℕ → Operand → Reading
said_by place (Is word) = fixed 0
said_by place (Register r) = fixed r
said_by place (Pointer i) = fixed i
said_by place (Expander p) = fixed p
said_by place (Immediate n) = given role.Byte (Number n)
said_by place (Address a) = given role.Address (Number a)
said_by place (Target n) = given role.Target (Number (target place n))

-- an operand that such a listing can have
abbrev pub IsListed : ℕ → Operand → Type 0
IsListed place (Is word) = is_shown word ≡ true
IsListed place (Register r) = r < 8
IsListed place (Pointer i) = i < 2
IsListed place (Expander p) = (4 ≤ p) × (p < 8)
IsListed place (Immediate n) = n < 256
IsListed place (Address a) = a < 2048
IsListed place (Target n) = target place n < 2048

words-whole : (c : ℕ) (cs : List ℕ) → list_all is_word_character (c ∷ cs) ≡ true → words_of (c ∷ cs) ≡ (c ∷ cs) ∷ []
words-whole c cs all = ap words_of (sym (append-nil (c ∷ cs))) ∙ words-run c cs [] all refl

-- numerals
known-number : (a : Bool) (o : Option ℕ) (n : ℕ) → o ≡ Some n → (a || is_some o) ≡ true
known-number true o n h = refl
known-number false o n h = ap is_some h

-- a number as listings write it is a token that listings have, with # before it or without
pub shown-numeral : (numeral : List ℕ) (n : ℕ) → IsNumeral (48 ∷ numeral) n → (is_shown (48 ∷ numeral) ≡ true)
    × (is_shown (35 ∷ 48 ∷ numeral) ≡ true)
shown-numeral numeral n is =
    let digits = (and_parts (is_word_character 48) (list_all is_word_character numeral) is.word).1 in
    let plain : IsPlain numeral = all_weaker is_word_character is_plain word-plain numeral digits in
    let words : words_of (48 ∷ numeral) ≡ (48 ∷ numeral) ∷ [] = words-whole 48 numeral is.word in
    let good : is_good_word (48 ∷ numeral)
    ≡ true = and_from _ _ (known-number (is_name (48 ∷ numeral)) (number_of (48 ∷ numeral)) n is.number) refl in
    let all : list_all is_good_word (words_of (48 ∷ numeral)) ≡ true = ap (list_all is_good_word) words ∙ and_from _ _ good refl in (
      and_from _ _ digits (and_from _ _ plain all),
      and_from _ _ is.word (and_from _ _ (and_from _ _ refl (and_from _ _ refl plain)) all),
    )

-- each operand of a listing is written as a token that listings have
pub shown : (place : ℕ) (operand : Operand) → IsListed place operand → is_shown (operand_text place operand) ≡ true
shown place (Is word) h = h
shown place (Register r) h =
    registers (λ r. is_shown (operand_text place (Register r)) ≡ true) (refl, refl, refl, refl, refl, refl, refl, refl) r h
shown place (Pointer i) h = pointers (λ i. is_shown (operand_text place (Pointer i)) ≡ true) (refl, refl) i h
shown place (Expander p) h = ports (λ p. is_shown (operand_text place (Expander p)) ≡ true) (refl, refl, refl, refl) p h
shown place (Immediate n) h = (shown-numeral _ n (value-numeral n h)).1
shown place (Address a) h = (shown-numeral _ a (address-numeral a h)).0
shown place (Target n) h = (shown-numeral _ (target place n) (address-numeral (target place n) h)).0

-- an operand of the form, and one of the instruction, of the same kind
abbrev pub is_same : Operand → Operand → Bool
is_same (Is word) (Is held) = bytes_eq word held
is_same (Register r) (Register k) = true
is_same (Pointer i) (Pointer k) = true
is_same (Expander p) (Expander k) = true
is_same (Immediate n) (Immediate k) = true
is_same (Address a) (Address k) = true
is_same (Target n) (Target k) = true
is_same _ _ = false

same-word : (word held : List ℕ) → bytes_eq word held ≡ true → word_read word held ≡ Some (fixed 0)
same-word word held h = ap (λ b. cond b (Some (fixed 0)) None) h

same-read : (place : ℕ) (form operand : Operand) → is_same form operand ≡ true → IsListed place operand
    → read form (operand_text place operand ∷ []) ≡ Some (said_by place operand)
same-read place (Is word) (Is held) same h = same-word word held same
same-read place (Register r) (Register k) same h =
    registers (λ k. read (Register r) (operand_text place (Register k) ∷ []) ≡ Some (fixed k))
    (refl, refl, refl, refl, refl, refl, refl, refl) k h
same-read place (Pointer r) (Pointer k) same h =
    pointers (λ k. read (Pointer r) (operand_text place (Pointer k) ∷ []) ≡ Some (fixed k)) (refl, refl) k h
same-read place (Expander r) (Expander k) same h =
    ports (λ k. read (Expander r) (operand_text place (Expander k) ∷ []) ≡ Some (fixed k)) (refl, refl, refl, refl) k h
same-read place (Immediate r) (Immediate n) same h =
    ap (λ o. option_map (given role.Byte) (number_or_name o (value n))) (value-numeral n h).number
same-read place (Address r) (Address a) same h =
    ap (λ o. option_map (given role.Address) (number_or_name o (address a))) (address-numeral a h).number
same-read place (Target r) (Target n) same h =
    ap (λ o. option_map (given role.Target) (number_or_name o (address (target place n)))) (address-numeral (target place n) h).number
same-read place form operand same h = absurd (cc)

-- the first character of an operand's text
abbrev pub first_char : Operand → ℕ
first_char (Is []) = 0
first_char (Is (c ∷ cs)) = c
first_char (Register r) = 82
first_char (Pointer i) = 64
first_char (Expander p) = 80
first_char (Immediate n) = 35
first_char (Address a) = 48
first_char (Target n) = 48

-- an operand of the form that no text with this first character is
abbrev pub is_apart : Operand → ℕ → Bool
is_apart (Is []) c = true
is_apart (Is (d ∷ ds)) c = not (d == c)
is_apart (Register r) c = not (c == 82)
is_apart (Pointer i) c = not (c == 64)
is_apart (Expander p) c = not (c == 80)
is_apart (Immediate n) c = not (c == 35)
is_apart (Address a) c = false
is_apart (Target n) c = false

apart-none : (form : Operand) (c : ℕ) (cs : List ℕ) → is_apart form c ≡ true → read form ((c ∷ cs) ∷ []) ≡ None
apart-none (Is []) c cs h = refl
apart-none (Is (d ∷ ds)) c cs h = ap (λ b. cond (b && bytes_eq ds cs) (Some (fixed 0)) None) (not-true (d == c) h)
apart-none (Register r) c [] h = refl
apart-none (Register r) c (b ∷ []) h = ap (λ t. option_map fixed (cond t (numbered 48 55 b) None)) (not-true (c == 82) h)
apart-none (Register r) c (b ∷ d ∷ ds) h = refl
apart-none (Pointer r) c [] h = refl
apart-none (Pointer r) c (b ∷ []) h = refl
apart-none (Pointer r) c (b ∷ d ∷ []) h = ap (λ t. option_map fixed (cond (t && (b == 82)) (numbered 48 49 d) None)) (not-true (c == 64) h)
apart-none (Pointer r) c (b ∷ d ∷ e ∷ es) h = refl
apart-none (Expander r) c [] h = refl
apart-none (Expander r) c (b ∷ []) h = ap (λ t. option_map fixed (cond t (numbered 52 55 b) None)) (not-true (c == 80) h)
apart-none (Expander r) c (b ∷ d ∷ ds) h = refl
apart-none (Immediate n) c cs h = ap (λ t. option_map (given role.Byte) (cond t (value_of (cs ∷ [])) None)) (not-true (c == 35) h)
apart-none (Address a) c cs h = absurd (cc)
apart-none (Target n) c cs h = absurd (cc)

-- another word
abbrev pub is_other : Operand → Operand → Bool
is_other (Is word) (Is held) = not (bytes_eq word held)
is_other _ _ = false

abbrev pub is_unlike : Operand → Operand → Bool
is_unlike form operand = is_apart form (first_char operand) || is_other form operand

other-none : (place : ℕ) (form operand : Operand) → is_other form operand ≡ true → read form (operand_text place operand ∷ []) ≡ None
other-none place (Is word) (Is held) h = ap (λ b. cond b (Some (fixed 0)) None) (not-true (bytes_eq word held) h)
other-none place form operand h = absurd (cc)

record Starts (text : List ℕ) (c : ℕ) : Type 0 where
  pub rest : List ℕ
  pub is : text ≡ c ∷ rest

starts : (place : ℕ) (operand : Operand) → IsListed place operand → Starts (operand_text place operand) (first_char operand)
starts place (Is []) h = absurd (cc)
starts place (Is (c ∷ cs)) h = record { rest = cs; is = refl }
starts place (Register r) h = record { rest = _; is = refl }
starts place (Pointer i) h = record { rest = _; is = refl }
starts place (Expander p) h = record { rest = _; is = refl }
starts place (Immediate n) h = record { rest = _; is = refl }
starts place (Address a) h = record { rest = _; is = refl }
starts place (Target n) h = record { rest = _; is = refl }

unlike-none : (place : ℕ) (form operand : Operand) → is_unlike form operand ≡ true → IsListed place operand
    → read form (operand_text place operand ∷ []) ≡ None
unlike-none place form operand h listed = go (is_apart form (first_char operand)) refl h
  where
    go : (t : Bool) → is_apart form (first_char operand) ≡ t → (t || is_other form operand) ≡ true
        → read form (operand_text place operand ∷ []) ≡ None
    go true is h = let text = starts place operand listed in ap (λ t. read form (t ∷ [])) text.is
        ∙ apart-none form (first_char operand) text.rest is
    go false is h = other-none place form operand h

-- operands, at most two
abbrev pub all_same : List Operand → List Operand → Bool
all_same [] [] = true
all_same (form ∷ forms) (operand ∷ operands) = is_same form operand && all_same forms operands
all_same _ _ = false

abbrev pub any_unlike : List Operand → List Operand → Bool
any_unlike [] [] = false
any_unlike (form ∷ forms) (operand ∷ operands) = is_unlike form operand || any_unlike forms operands
any_unlike _ _ = true

abbrev pub AllListed : ℕ → List Operand → Type 0
AllListed place [] = Unit {0}
AllListed place (operand ∷ operands) = IsListed place operand × AllListed place operands

abbrev pub operand_tokens : ℕ → List Operand → List (List ℕ)
operand_tokens place [] = []
operand_tokens place (operand ∷ []) = operand_text place operand ∷ []
operand_tokens place (operand ∷ other ∷ others) = operand_text place operand ∷ codes "," ∷ operand_tokens place (other ∷ others)

abbrev pub said_all : ℕ → List Operand → Reading
said_all place [] = fixed 0
said_all place (operand ∷ []) = said_by place operand
said_all place (operand ∷ other ∷ others) = joined (said_by place operand) (said_by place other)

-- a token that isn't a comma alone isn't taken for one
pub token-comma : (text : List ℕ) → is_token text ≡ true → is_comma_token text ≡ false
token-comma [] h = refl
token-comma (c ∷ cs) h = not-true (is_comma c) (and_parts (not (is_comma c)) _ (and_parts (not (is_blank c)) _ h).1).0

-- one token that is no comma is one part
pub one-parts : (t : List ℕ) → is_comma_token t ≡ false → parts_of (t ∷ []) ≡ (t ∷ []) ∷ []
one-parts t h = slice_split-cons_no is_comma_token t [] h

two-parts : (t u : List ℕ) → is_comma_token t ≡ false → is_comma_token u ≡ false
    → parts_of (t ∷ codes "," ∷ u ∷ []) ≡ (t ∷ []) ∷ (u ∷ []) ∷ []
two-parts t u h k = slice_split-cons_no is_comma_token t (codes "," ∷ u ∷ []) h ∙ ap (λ ps. onto_first t ([] ∷ ps)) (one-parts u k)

comma-free : (place : ℕ) (operand : Operand) → IsListed place operand → is_comma_token (operand_text place operand) ≡ false
comma-free place operand h =
    token-comma (operand_text place operand) (and_parts (is_token (operand_text place operand)) _ (shown place operand h)).0

-- three operands or more aren't two at most
pub too-many : (n : ℕ) → nat_le (suc (suc (suc n))) 2 ≡ true → ⊥
too-many n h = let no : suc (suc (suc n)) ≤ 2 = leb-true (suc (suc (suc n))) 2 h in omega (arith, no)

or-left : (a : Bool) → (a || false) ≡ true → a ≡ true
or-left true h = refl
or-left false h = h

-- the operands of a listing are read by a form of the same kinds as what they say
pub read-same : (place : ℕ) (forms operands : List Operand) → all_same forms operands ≡ true
    → nat_le (length operands) 2 ≡ true → AllListed place operands
    → read_all forms (operand_tokens place operands) ≡ Some (said_all place operands)
read-same place [] [] same few all = refl
read-same place (f ∷ []) (o ∷ []) same few all =
    ap (read_parts (f ∷ [])) (one-parts (operand_text place o) (comma-free place o all.0))
    ∙ same-read place f o (and_parts (is_same f o) _ same).0 all.0
read-same place (f ∷ g ∷ []) (o ∷ u ∷ []) same few all =
    let first = and_parts (is_same f o) _ same in
    ap (read_parts (f ∷ g ∷ []))
    (two-parts (operand_text place o) (operand_text place u) (comma-free place o all.0) (comma-free place u all.1.0))
    ∙ ap (λ r. both r (read g (operand_text place u ∷ []))) (same-read place f o first.0 all.0)
    ∙ ap (both (Some (said_by place o))) (same-read place g u (and_parts (is_same g u) _ first.1).0 all.1.0)
read-same place [] (o ∷ os) same few all = absurd (cc)
read-same place (f ∷ fs) [] same few all = absurd (cc)
read-same place (f ∷ []) (o ∷ u ∷ us) same few all = absurd (cc (and_parts (is_same f o) _ same).1)
read-same place (f ∷ g ∷ gs) (o ∷ []) same few all = absurd (cc (and_parts (is_same f o) _ same).1)
read-same place (f ∷ g ∷ h ∷ hs) (o ∷ u ∷ []) same few all = absurd (cc (and_parts (is_same g u) _ (and_parts (is_same f o) _ same).1).1)
read-same place (f ∷ g ∷ gs) (o ∷ u ∷ v ∷ vs) same few all = absurd (too-many (length vs) few)

no-second : (r : Option Reading) → both r None ≡ None
no-second None = refl
no-second (Some x) = refl

read-nothing : (operand : Operand) → read operand [] ≡ None
read-nothing (Is held) = refl
read-nothing (Register r) = refl
read-nothing (Pointer i) = refl
read-nothing (Expander p) = refl
read-nothing (Immediate n) = refl
read-nothing (Address a) = refl
read-nothing (Target n) = refl

read_all-parts : (forms : List Operand) (t : List ℕ) (ts : List (List ℕ)) → read_all forms (t ∷ ts) ≡ read_parts forms (parts_of (t ∷ ts))
read_all-parts [] t ts = refl
read_all-parts (f ∷ fs) t ts = refl

one-too-few : (f g : Operand) (gs : List Operand) (t : List ℕ) → read_parts (f ∷ g ∷ gs) ((t ∷ []) ∷ []) ≡ None
one-too-few f g [] t = refl
one-too-few f g (h ∷ hs) t = refl

-- the operands of a listing aren't read by a form that differs from them
pub read-unlike : (place : ℕ) (forms operands : List Operand) → any_unlike forms operands ≡ true
    → nat_le (length operands) 2 ≡ true → AllListed place operands
    → read_all forms (operand_tokens place operands) ≡ None
read-unlike place [] [] unlike few all = absurd (cc)
read-unlike place (f ∷ []) [] unlike few all = read-nothing f
read-unlike place (f ∷ g ∷ []) [] unlike few all = refl
read-unlike place (f ∷ g ∷ h ∷ hs) [] unlike few all = refl
read-unlike place [] (o ∷ []) unlike few all = ap (read_parts []) (one-parts (operand_text place o) (comma-free place o all.0))
read-unlike place (f ∷ []) (o ∷ []) unlike few all =
    ap (read_parts (f ∷ [])) (one-parts (operand_text place o) (comma-free place o all.0))
    ∙ unlike-none place f o (or-left (is_unlike f o) unlike) all.0
read-unlike place (f ∷ g ∷ gs) (o ∷ []) unlike few all =
    ap (read_parts (f ∷ g ∷ gs)) (one-parts (operand_text place o) (comma-free place o all.0)) ∙ one-too-few f g gs (operand_text place o)
read-unlike place forms (o ∷ u ∷ []) unlike few all =
    read_all-parts forms (operand_text place o) _
    ∙ ap (λ ps. read_parts forms ps)
    (two-parts (operand_text place o) (operand_text place u) (comma-free place o all.0) (comma-free place u all.1.0)) ∙ go forms unlike
  where
    two : (f g : Operand) (t : Bool) → is_unlike f o ≡ t → (t || (is_unlike g u || false)) ≡ true
        → both (read f (operand_text place o ∷ [])) (read g (operand_text place u ∷ [])) ≡ None
    two f g true is h = ap (λ r. both r (read g (operand_text place u ∷ []))) (unlike-none place f o is all.0)
    two f g false is h = ap (both (read f (operand_text place o ∷ [])))
        (unlike-none place g u (or-left (is_unlike g u) h) all.1.0) ∙ no-second (read f (operand_text place o ∷ []))

    go : (forms : List Operand) → any_unlike forms (o ∷ u ∷ []) ≡ true
        → read_parts forms ((operand_text place o ∷ []) ∷ (operand_text place u ∷ []) ∷ []) ≡ None
    go [] h = refl
    go (f ∷ []) h = refl
    go (f ∷ g ∷ []) h = two f g (is_unlike f o) refl h
    go (f ∷ g ∷ i ∷ is) h = refl
read-unlike place forms (o ∷ u ∷ v ∷ vs) unlike few all = absurd (too-many (length vs) few)
