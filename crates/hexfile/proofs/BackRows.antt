-- What is written is read again: the rows of an image, one after another.
use Rattle.std.proofs.Common.{◌≡◌, ℕ, zero, suc, ◌+◌, ◌*◌, ◌<◌, ◌≤◌, ◌==◌, Bool, true, false, List, [], ◌∷◌, ◌-◌, ◌++◌}
use Rattle.std.proofs.Common.{length, take, drop, map, replicate, subst, Result, Option, None, Some, Ok, is_some}
use Rattle.std.proofs.Common.{unwrap_or, if◌then◌else◌, refl, ap, sym, ◌∙◌, append_assoc, append-nil, arith}
use Rattle.std.specs.List.{flat_map, range_with_len, list_any, list_all, slice_range}
use Rattle.std.specs.Str.Lines.{lines}
use Rattle.std.proofs.Math.Seq.{take-add}
use Rattle.std.proofs.lemmas.Bool.Decides.{nat_tests}
use Rattle.std.proofs.lemmas.List.{take_all, drop_all, drop-append-le, map-append, replicate-append-replicate}
use Rattle.std.proofs.lemmas.List.{length-append, length-map, length-replicate, length-take, length-drop}
use Rattle.std.proofs.lemmas.List.Elements.{All-take, All-drop}
use Rattle.hexfile.specs.Memory.{empty_memory, image_of, with_data, is_past, is_given_twice}
use Rattle.hexfile.specs.Rules.{first_broken}
use Rattle.hexfile.specs.Hex.{HexOutcome, hex_of, hex_from, after_line, after_form, after_rules, and_then_at}
use Rattle.hexfile.specs.Spelling.{row_at, line_text, end_text, rows_text, hex_text_of}
use Rattle.hexfile.specs.declared.fault.Rule.{Rule}
use Rattle.hexfile.specs.declared.fault.Rule.TheVariants.{Sum, Kind, Address, Overlap, AfterEnd}
use Rattle.hexfile.specs.declared.progress.Progress.{Progress}
use Rattle.hexfile.proofs.Back.{AllBytes, take_whole, row_record, row_bytes, row_line, line_back, line_plain, first_line}

-- a memory that lines go on to fill
abbrev pub going : List (Option ℕ) → Progress
going memory = record { memory = memory; ended = false }

-- sixteen places that no line gave
abbrev pub blank : List (Option ℕ)
blank = replicate 16 None

drop_whole : {X : Type 0} (n : ℕ) (xs ys : List X) → length xs ≡ n → drop n (xs ++ ys) ≡ ys
drop_whole n xs ys h = drop-append-le n xs ys (omega arith) ∙ ap (λ t. t ++ ys) (drop_all n xs (omega arith))

-- the memory with a row's data after what is before it
with_row : (front rest : List (Option ℕ)) (place : ℕ) (row : List ℕ) → length front ≡ place → length row ≡ 16
    → with_data (front ++ (blank ++ rest)) (row_record place row) ≡ (front ++ map Some row) ++ rest
with_row front rest place row at long =
    let before : take place (front ++ (blank ++ rest)) ≡ front = take_whole place front (blank ++ rest) at in
    let end : length (front ++ blank) ≡ place + length row = omega (arith, length-append front blank, length-replicate 16 (none_of)) in
    let after : drop (place + length row) (front ++ (blank ++ rest))
    ≡ rest = ap (drop (place + length row)) (sym (append_assoc front blank rest))
    ∙ drop_whole (place + length row) (front ++ blank) rest end in
    rw (before, after) refl
  where
    none_of : Option ℕ
    none_of = None

-- no place of the row was given
row_free : (front rest : List (Option ℕ)) (place : ℕ) (row : List ℕ) → length front ≡ place → length row ≡ 16
    → is_given_twice (front ++ (blank ++ rest)) (row_record place row) ≡ false
row_free front rest place row at long =
    let here : drop place (front ++ (blank ++ rest)) ≡ blank ++ rest = drop_whole place front (blank ++ rest) at in
    let count : place + length row - place ≡ 16 = omega arith in
    ap (λ cells. list_any is_some (take (place + length row - place) cells)) here
    ∙ ap (λ n. list_any is_some (take n (blank ++ rest))) count

row_within : (place : ℕ) (row : List ℕ) → place + length row ≤ 2048 → is_past (row_record place row) ≡ false
row_within place row h = grind (arith, nat_tests)

none_broken : (past twice : Bool) → past ≡ false → twice ≡ false
    → first_broken ((Sum, false) ∷ (Kind, false) ∷ (Address, past) ∷ (Overlap, twice) ∷ (AfterEnd, false) ∷ []) ≡ None
none_broken true twice p t = absurd cc
none_broken false true p t = absurd cc
none_broken false false p t = refl

-- a row's line does what the row says
line_obeyed : (front rest : List (Option ℕ)) (place : ℕ) (row : List ℕ) → length front ≡ place → length row ≡ 16
    → place + 16 ≤ 2048 → AllBytes row
    → after_line (going (front ++ (blank ++ rest))) (row_line place row) ≡ Ok (going ((front ++ map Some row) ++ rest))
line_obeyed front rest place row at long fits all =
    let memory = front ++ (blank ++ rest) in
    let said = line_back place row (omega arith) long all in
    let whole = none_broken (is_past (row_record place row)) (is_given_twice memory (row_record place row))
    (row_within place row (omega arith)) (row_free front rest place row at long) in
    ap (λ found. after_form found (going memory)) said
    ∙ ap (λ broken. after_rules broken (going memory) (row_record place row)) whole
    ∙ ap (λ filled. let done : Result Progress Rule = Ok (going filled) in done) (with_row front rest place row at long)

-- the bytes of a row are those that were given
image_of-given : (row : List ℕ) → image_of (map Some row) ≡ row
image_of-given [] = refl
image_of-given (byte ∷ row) = ap (λ bytes. byte ∷ bytes) (image_of-given row)

-- a row of zeros is what no line gives
zeros : (n : ℕ) (row : List ℕ) → length row ≡ n → list_all (λ byte. byte == 0) row ≡ true → image_of (replicate n None) ≡ row
zeros zero [] h z = refl
zeros zero (byte ∷ row) h z = absurd (omega arith)
zeros (suc n) [] h z = absurd (omega arith)
zeros (suc n) (byte ∷ row) h z =
    let first : byte ≡ 0 = grind (arith, nat_tests) in
    let others : list_all (λ b. b == 0) row ≡ true = grind (arith, nat_tests) in
    rw first (ap (λ bytes. 0 ∷ bytes) (zeros n row (omega arith) others))

-- the bytes up to the end of a row are those before it and the row
take_row : (bytes : List ℕ) (place : ℕ) → place + 16 ≤ length bytes
    → take (place + 16) bytes ≡ take place bytes ++ slice_range bytes place (place + 16)
take_row bytes place h =
    let count : 16 ≡ place + 16 - place = omega arith in
    take-add place 16 bytes ∙ ap (λ n. take place bytes ++ take n (drop place bytes)) count

-- what the rows after this one come to
abbrev pub ComesBack : List ℕ → ℕ → List (Option ℕ) → List ℕ → Type 0
ComesBack bytes place rest text =
    (line : ℕ) (front : List (Option ℕ)) → length front ≡ place → image_of front ≡ take place bytes
    → hex_from line (going (front ++ rest)) (lines text) ≡ Ok bytes

module _ (bytes : List ℕ) (place line : ℕ) (front rest : List (Option ℕ)) (more : List ℕ) where
  -- one row, and the rows after it
  row_step : place + 16 ≤ 2048 → length bytes ≡ 2048 → AllBytes bytes → length front ≡ place
      → image_of front ≡ take place bytes → ComesBack bytes (place + 16) rest more → (b : Bool)
      → list_all (λ byte. byte == 0) (slice_range bytes place (place + 16)) ≡ b
      → hex_from line (going (front ++ (blank ++ rest)))
      (lines ((if b then [] else line_text (row_bytes place (slice_range bytes place (place + 16)))) ++ more)) ≡ Ok bytes
  row_step fits long all at so_far ih true z =
      let row = slice_range bytes place (place + 16) in
      let row_long : length row ≡ 16 = omega (arith, length-take (place + 16 - place) (drop place bytes), length-drop place bytes) in
      let here : image_of (front ++ blank)
      ≡ take (place + 16) bytes = map-append (λ cell. unwrap_or cell 0) front blank
      ∙ ap (λ b. b ++ image_of blank) so_far ∙ ap (λ b. take place bytes ++ b) (zeros 16 row row_long z)
      ∙ sym (take_row bytes place (omega arith)) in
      ap (λ memory. hex_from line (going memory) (lines more)) (sym (append_assoc front blank rest))
      ∙ ih line (front ++ blank) (omega (arith, length-append front blank)) here
  row_step fits long all at so_far ih false z =
      let row = slice_range bytes place (place + 16) in
      let row_long : length row ≡ 16 = omega (arith, length-take (place + 16 - place) (drop place bytes), length-drop place bytes) in
      let row_all : AllBytes row =
      All-take (λ b. b < 256) (place + 16 - place) (drop place bytes) (All-drop (λ b. b < 256) place bytes all) in
      let here : image_of (front ++ map Some row)
      ≡ take (place + 16) bytes = map-append (λ cell. unwrap_or cell 0) front (map Some row)
      ∙ ap (λ b. b ++ image_of (map Some row)) so_far ∙ ap (λ b. take place bytes ++ b) (image_of-given row)
      ∙ sym (take_row bytes place (omega arith)) in
      ap (λ text. hex_from line (going (front ++ (blank ++ rest))) text)
      (first_line (row_line place row) more (omega arith) (line_plain place row))
      ∙ ap (λ said. and_then_at line said (λ after. hex_from (line + 1) after (lines more)))
      (line_obeyed front rest place row at row_long fits row_all)
      ∙ ih (line + 1) (front ++ map Some row) (omega (arith, length-append front (map Some row), length-map row Some)) here

-- the rows from one on, and the end
rows_back : (bytes : List ℕ) (count number : ℕ) → length bytes ≡ 2048 → AllBytes bytes → number + count ≡ 128
    → ComesBack bytes (16 * number) (replicate (16 * count) None) (flat_map (row_at bytes) (range_with_len number count) ++ end_text)
rows_back bytes zero number long all sum line front at so_far =
    let whole : image_of (front ++ []) ≡ bytes = ap image_of (append-nil front) ∙ so_far ∙ take_all (16 * number) bytes (omega arith) in
    ap (λ image. let done : HexOutcome = Ok image in done) whole
rows_back bytes (suc count) number long all sum line front at so_far =
    let rest = replicate (16 * count) None in
    let more = flat_map (row_at bytes) (range_with_len (number + 1) count) ++ end_text in
    let places : replicate (16 * suc count) None ≡ blank ++ rest = ap (λ n. replicate n None) (times16 count)
    ∙ sym (replicate-append-replicate 16 (16 * count) None) in
    let next : 16 * (number + 1) ≡ 16 * number + 16 = omega arith in
    let ih : ComesBack bytes (16 * number + 16) rest more =
    subst (λ place. ComesBack bytes place rest more) next (rows_back bytes count (number + 1) long all (omega arith)) in
    ap (λ cells. hex_from line (going (front ++ cells))
    (lines ((row_at bytes number ++ flat_map (row_at bytes) (range_with_len (number + 1) count)) ++ end_text))) places
    ∙ ap (λ text. hex_from line (going (front ++ (blank ++ rest))) (lines text))
    (append_assoc (row_at bytes number) (flat_map (row_at bytes) (range_with_len (number + 1) count)) end_text)
    ∙ row_step bytes (16 * number) line front rest more (omega arith) long all at so_far ih
    (list_all (λ byte. byte == 0) (slice_range bytes (16 * number) (16 * number + 16))) refl
  where
    times16 : (count : ℕ) → 16 * suc count ≡ 16 + 16 * count
    times16 count = omega arith

-- the text of an image, read again, is that image
pub text_back : (bytes : List ℕ) → length bytes ≡ 2048 → AllBytes bytes → hex_of (hex_text_of bytes) ≡ Ok bytes
unfolding hex_of hex_text_of rows_text empty_memory
text_back bytes long all = rows_back bytes 128 0 long all refl 1 [] refl refl
