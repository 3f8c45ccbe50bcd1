-- DB and a byte, in a listing.
use Rattle.std.proofs.Common.{◌≡◌, ℕ, ◌%◌, ◌<◌, ◌||◌, true, false, cond, List, [], ◌∷◌, ◌++◌, codes, Some, refl, ap, ◌∙◌, arith}
use Rattle.std.specs.List.{list_all}
use Rattle.std.specs.Option.{option_map, option_and_then, ok_or}
use Rattle.std.proofs.lemmas.Bool.{and_parts}
use Rattle.mcs48_isa.specs.Text.{value}
use Rattle.mcs48_asm.specs.declared.flaw.Flaw.TheVariants.{Misfit}
use Rattle.mcs48_asm.specs.Tokens.{words_of, tokens_of, parts_of}
use Rattle.mcs48_asm.specs.Values.{Number, number_or_name}
use Rattle.mcs48_asm.specs.Statements.{Data, values_of, equate_of, data_of, statement_in, is_known_word}
use Rattle.mcs48_asm.proofs.Plain.{IsPlain, is_plain}
use Rattle.mcs48_asm.proofs.Numerals.{value-numeral}
use Rattle.mcs48_asm.proofs.Readings.{IsRead, said_at, late_fault}
use Rattle.mcs48_asm.proofs.Tokenized.{is_token, token-one}
use Rattle.mcs48_asm.proofs.Shapes.{byte-suits, if_none}
use Rattle.mcs48_asm.proofs.Entries.{shown-numeral, token-comma, one-parts}
use Rattle.mcs48_asm.proofs.EntryLines.{word-before, good-known, good-first, plain-line}

-- a line DB and a byte, as a listing has it, is read as that byte
pub byte_alone : (place n : ℕ) → n < 256 → IsRead (codes "DB " ++ value n) place (n ∷ [])
byte_alone place n below =
    let v : List ℕ = value n in
    let text : List ℕ = codes "DB " ++ v in
    let numeral = value-numeral n below in
    let first = and_parts (is_token v) _ (shown-numeral _ n numeral).0 in
    let second = and_parts (list_all is_plain v) _ first.1 in
    let whole = word-before 68 (codes "B") (32 ∷ v) refl refl in
    let plain : IsPlain text = second.0 in
    let known : list_all is_known_word (words_of text) ≡ true = ap (list_all is_known_word) whole.1 ∙ good-known (words_of v) second.1 in
    let values : values_of (parts_of (v ∷ [])) ≡ Some (Number n ∷ []) =
    ap values_of (one-parts v (token-comma v first.0))
    ∙ ap (λ o. option_and_then (λ value. Some (value ∷ [])) (number_or_name o v)) numeral.number in
    let line =
    plain-line text (Data (Number n ∷ [])) plain known (
    ap (λ ws. statement_in ws (tokens_of text)) whole.1
    ∙ ap (statement_in (codes "DB" ∷ words_of v)) (whole.0 ∙ ap (λ ts. codes "DB" ∷ ts) (token-one v first.0))
    ∙ ap (λ b. cond b (ok_or (equate_of (codes "DB" ∷ v ∷ [])) Misfit) (ok_or (data_of (codes "DB" ∷ v ∷ [])) Misfit))
    (good-first (words_of v) second.1)
    ∙ ap (λ o. ok_or (option_map Data o) Misfit) values
    ) in
    let low : n % 256 ≡ n = omega arith in
    record {
      statement = Data (Number n ∷ []);
      plain = plain;
      line = line;
      bytes_are = λ names. ap (λ k. k ∷ []) low;
      count = refl;
      start = λ before. refl;
      no_name = refl;
      faults = λ names seen filled.
          if_none _ _ (late_fault filled (said_at place (Data (Number n ∷ []))))
          (ap (λ b. (b || false) || false || false || false || false) (byte-suits place n below names).0) refl;
    }
