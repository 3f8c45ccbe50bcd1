-- The line of a listing that an entry of the table writes says this instruction.
use Rattle.std.proofs.Common.{◌≡◌, ℕ, ◌==◌, ◌&&◌, not, Bool, true, false, cond, nat_le, List, [], ◌∷◌}
use Rattle.std.proofs.Common.{◌++◌, length, codes, Some, None, Ok, refl, ap, ◌∙◌, append-nil}
use Rattle.std.specs.List.{list_all, slice_split}
use Rattle.std.specs.Option.{option_map, option_or}
use Rattle.std.specs.Str.{bytes_eq}
use Rattle.std.proofs.lemmas.Bool.{and_parts, and_from, not-true, eqb-true}
use Rattle.std.proofs.lemmas.List.Folds.{list_all-append}
use Rattle.mcs48_isa.specs.Instructions.{Operand, Is, Entry}
use Rattle.mcs48_isa.specs.Text.{operand_text, operands_text, entry_text}
use Rattle.mcs48_asm.specs.declared.flaw.Flaw.TheVariants.{Syntax}
use Rattle.mcs48_asm.specs.Characters.{is_word_character, is_colon, is_semicolon, is_allowed}
use Rattle.mcs48_asm.specs.Tokens.{words_of, first_of, goes_on, tokens_of}
use Rattle.mcs48_asm.specs.Rows.{Form, read_all, instructions, is_instruction}
use Rattle.mcs48_asm.specs.Statements.{Statement, instruction_with, first_fit, statement_in, statement_of}
use Rattle.mcs48_asm.specs.Statements.{is_known_word, is_spelled, line_of_parts, line_with, flawed, line_of}
use Rattle.mcs48_asm.proofs.Plain.{is_plain, IsPlain, all_weaker, one_part, uncut, plain-allowed, plain-semicolon, plain-colon, word-plain}
use Rattle.mcs48_asm.proofs.Readings.{said}
use Rattle.mcs48_asm.proofs.Tokenized.{is_token, token-before, token-one, word-token, before-comma, words-run, words-before}
use Rattle.mcs48_asm.proofs.Entries.{is_good_word, is_shown, shown, all_same, any_unlike, AllListed}
use Rattle.mcs48_asm.proofs.Entries.{operand_tokens, said_all, read-same, read-unlike, too-many}

-- the first form that fits has this first byte, and those before it do not fit
abbrev pub hits : List Form → List ℕ → ℕ → List Operand → Bool
hits [] word first operands = false
hits (form ∷ forms) word first operands =
    cond (bytes_eq form.word word)
    (cond (all_same form.operands operands) (form.first == first) (any_unlike form.operands operands && hits forms word first operands))
    (hits forms word first operands)

fit-hit : (place : ℕ) (forms : List Form) (word : List ℕ) (first : ℕ) (operands : List Operand)
    → hits forms word first operands ≡ true → nat_le (length operands) 2 ≡ true → AllListed place operands
    → first_fit forms (word ∷ operand_tokens place operands) ≡ Some (instruction_with first (said_all place operands))
fit-hit place [] word first operands h few all = absurd (cc)
fit-hit place (form ∷ forms) word first operands h few all =
    go (bytes_eq form.word word) (all_same form.operands operands) refl h (λ more. fit-hit place forms word first operands more few all)
  where
    go : (t s : Bool) → all_same form.operands operands ≡ s
        → cond t (cond s (form.first == first) (any_unlike form.operands operands && hits forms word first operands))
        (hits forms word first operands) ≡ true
        → (hits forms word first operands ≡ true
        → first_fit forms (word ∷ operand_tokens place operands) ≡ Some (instruction_with first (said_all place operands)))
        → option_or (cond t (option_map (instruction_with form.first)
        (read_all form.operands (operand_tokens place operands))) None) (first_fit forms (word ∷ operand_tokens place operands))
        ≡ Some (instruction_with first (said_all place operands))
    go false s same h more = more h
    go true true same h more =
        ap (λ o. option_or (option_map (instruction_with form.first) o)
        (first_fit forms (word ∷ operand_tokens place operands))) (read-same place form.operands operands same few all)
        ∙ ap (λ k. Some (instruction_with k (said_all place operands))) (eqb-true form.first first h)
    go true false same h more =
        let both = and_parts (any_unlike form.operands operands) (hits forms word first operands) h in
        ap (λ o. option_or (option_map (instruction_with form.first) o)
        (first_fit forms (word ∷ operand_tokens place operands))) (read-unlike place form.operands operands both.0 few all)
        ∙ more both.1

-- a word before another character
pub word-before : (c : ℕ) (cs rest : List ℕ) → list_all is_word_character (c ∷ cs) ≡ true → goes_on rest ≡ false
    → (tokens_of ((c ∷ cs) ++ rest) ≡ (c ∷ cs) ∷ tokens_of rest) × (words_of ((c ∷ cs) ++ rest) ≡ (c ∷ cs) ∷ words_of rest)
word-before c cs rest all ends = (token-before (c ∷ cs) rest (word-token c cs all) ends, words-run c cs rest all ends)

-- a token before a comma
comma-afterwards : (text rest : List ℕ) → is_token text ≡ true → tokens_of (text ++ 44 ∷ rest) ≡ text ∷ codes "," ∷ tokens_of rest
comma-afterwards text rest h = token-before text (44 ∷ rest) h refl
    ∙ ap (λ ts. text ∷ ts) (before-comma 44 (goes_on rest) (tokens_of rest) refl)

-- the operands of an entry
record IsTail (place : ℕ) (operands : List Operand) : Type 0 where
  pub ends : goes_on (operands_text place operands) ≡ false
  pub tokens : tokens_of (operands_text place operands) ≡ operand_tokens place operands
  pub plain : IsPlain (operands_text place operands)
  pub good : list_all is_good_word (words_of (operands_text place operands)) ≡ true

tail-is : (place : ℕ) (operands : List Operand) → nat_le (length operands) 2 ≡ true → AllListed place operands → IsTail place operands
tail-is place [] few all = record { ends = refl; tokens = refl; plain = refl; good = refl }
tail-is place (o ∷ []) few all =
    let t = operand_text place o in
    let first = and_parts (is_token t) _ (shown place o all.0) in
    let second = and_parts (list_all is_plain t) _ first.1 in
    record {
      ends = refl;
      tokens = ap tokens_of (append-nil t) ∙ token-one t first.0;
      plain = ap (list_all is_plain) (append-nil t) ∙ second.0;
      good = ap (λ x. list_all is_good_word (words_of x)) (append-nil t) ∙ second.1;
    }
tail-is place (o ∷ u ∷ []) few all =
    let t = operand_text place o in
    let v = operand_text place u in
    let first = and_parts (is_token t) _ (shown place o all.0) in
    let second = and_parts (list_all is_plain t) _ first.1 in
    let third = and_parts (is_token v) _ (shown place u all.1.0) in
    let fourth = and_parts (list_all is_plain v) _ third.1 in
    record {
      ends = refl;
      tokens = ap (λ x. tokens_of (t ++ 44 ∷ x)) (append-nil v) ∙ comma-afterwards t v first.0
          ∙ ap (λ ts. t ∷ codes "," ∷ ts) (token-one v third.0);
      plain = ap (λ x. list_all is_plain (t ++ 44 ∷ x)) (append-nil v) ∙ list_all-append is_plain t (44 ∷ v)
          ∙ and_from _ _ second.0 fourth.0;
      good = ap (λ x. list_all is_good_word (words_of (t ++ 44 ∷ x))) (append-nil v) ∙ ap (list_all is_good_word) (words-before t 44 v refl)
          ∙ list_all-append is_good_word (words_of t) (words_of v) ∙ and_from _ _ second.1 fourth.1;
    }
tail-is place (o ∷ u ∷ w ∷ ws) few all = absurd (too-many (length ws) few)

-- words as listings have them are names or numbers
pub good-known : (words : List (List ℕ)) → list_all is_good_word words ≡ true → list_all is_known_word words ≡ true
good-known [] h = refl
good-known (w ∷ ws) h =
    let both = and_parts (is_good_word w) (list_all is_good_word ws) h in
    and_from _ _ (and_parts (is_known_word w) _ both.0).0 (good-known ws both.1)

-- the first word of a listing's line isn't EQU
pub good-first : (words : List (List ℕ)) → list_all is_good_word words ≡ true → bytes_eq (first_of words) (codes "EQU") ≡ false
good-first [] h = refl
good-first (w ∷ ws) h =
    not-true (bytes_eq w (codes "EQU")) (and_parts (is_known_word w) _ (and_parts (is_good_word w) (list_all is_good_word ws) h).0).1

-- a plain line whose words are known says what its statement says
pub plain-line : (text : List ℕ) (statement : Statement) → IsPlain text
    → list_all is_known_word (words_of text) ≡ true → statement_of text ≡ Ok statement → line_of text ≡ said statement
plain-line text statement plain words statement_is =
    let allowed : list_all is_allowed text ≡ true = all_weaker is_plain is_allowed plain-allowed text plain in
    ap (λ t. cond (is_spelled t) (line_of_parts (slice_split is_colon t)) (flawed Syntax))
    (uncut is_plain is_semicolon plain-semicolon text plain)
    ∙ ap (λ b. cond b (line_of_parts (slice_split is_colon text)) (flawed Syntax)) (and_from _ _ allowed words)
    ∙ ap line_of_parts (one_part is_plain is_colon plain-colon text plain)
    ∙ ap (line_with None) statement_is

-- what the table has to be like
abbrev pub is_word_shown : Operand → Bool
is_word_shown (Is word) = is_shown word
is_word_shown operand = true

abbrev pub is_first : List ℕ → Bool
is_first word = list_all is_word_character word
    && (goes_on word && (is_good_word word
    && (not (bytes_eq word (codes "ORG")) && (not (bytes_eq word (codes "DB")) && is_instruction word))))

abbrev pub is_entry : Entry → Bool
is_entry entry =
    is_first entry.word &&
    (nat_le (length entry.operands) 2
    && (list_all is_word_shown entry.operands && hits instructions entry.word entry.first entry.operands))

statement-is : (word : List ℕ) (words tokens : List (List ℕ)) (statement : Statement)
    → bytes_eq (first_of words) (codes "EQU") ≡ false → bytes_eq word (codes "ORG") ≡ false → bytes_eq word (codes "DB") ≡ false
    → is_instruction word ≡ true → first_fit instructions (word ∷ tokens) ≡ Some statement
    → statement_in (word ∷ words) (word ∷ tokens) ≡ Ok statement
statement-is word words tokens statement equ org db is found =
    rw (equ, org, db, is, found) refl

word-line : (place : ℕ) (word : List ℕ) (first : ℕ) (operands : List Operand) → is_first word ≡ true
    → nat_le (length operands) 2 ≡ true → hits instructions word first operands ≡ true → AllListed place operands
    → IsPlain (word ++ operands_text place operands)
    × (line_of (word ++ operands_text place operands) ≡ said (instruction_with first (said_all place operands)))
word-line place [] first operands h few hit all = absurd (cc)
word-line place (c ∷ cs) first operands h few hit all =
    let word : List ℕ = c ∷ cs in
    let text : List ℕ = word ++ operands_text place operands in
    let made = and_parts (list_all is_word_character word) _ h in
    let goes = and_parts (goes_on word) _ made.1 in
    let good = and_parts (is_good_word word) _ goes.1 in
    let org = and_parts (not (bytes_eq word (codes "ORG"))) _ good.1 in
    let db = and_parts (not (bytes_eq word (codes "DB"))) _ org.1 in
    let tail = tail-is place operands few all in
    let whole = word-before c cs (operands_text place operands) made.0 tail.ends in
    let plain : IsPlain text =
    list_all-append is_plain word (operands_text place operands)
    ∙ and_from _ _ (all_weaker is_word_character is_plain word-plain word made.0) tail.plain in
    let known : list_all is_known_word (words_of text) ≡ true =
    ap (list_all is_known_word) whole.1
    ∙ and_from _ _ (and_parts (is_known_word word) _ good.0).0 (good-known (words_of (operands_text place operands)) tail.good) in (
      plain,
      plain-line text (instruction_with first (said_all place operands)) plain known (
          ap (λ ws. statement_in ws (tokens_of text)) whole.1
          ∙ ap (statement_in (word ∷ words_of (operands_text place operands))) (whole.0 ∙ ap (λ ts. word ∷ ts) tail.tokens)
          ∙ statement-is word (words_of (operands_text place operands)) (operand_tokens place operands)
          (instruction_with first (said_all place operands))
          (good-first (words_of (operands_text place operands)) tail.good) (not-true _ org.0) (not-true _ db.0) db.1
          (fit-hit place instructions word first operands hit few all)
          ),
    )

-- the line of a listing that an entry of the table writes says the entry's instruction
pub entry-line : (place : ℕ) (entry : Entry) → is_entry entry ≡ true → AllListed place entry.operands
    → IsPlain (entry_text place entry)
    × (line_of (entry_text place entry) ≡ said (instruction_with entry.first (said_all place entry.operands)))
entry-line place entry h all =
    let first = and_parts (is_first entry.word) _ h in
    let few = and_parts (nat_le (length entry.operands) 2) _ first.1 in
    let shown = and_parts (list_all is_word_shown entry.operands) _ few.1 in
    word-line place entry.word entry.first entry.operands first.0 few.0 shown.1 all
