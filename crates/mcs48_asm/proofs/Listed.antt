-- The listing of an image, assembled, is that image.
use Rattle.std.proofs.Common.{◌≡◌, ℕ, zero, suc, ◌+◌, ◌-◌, ◌<◌, ◌≤◌, ◌==◌, ◌&&◌, Bool, true, false, cond, List, [], ◌∷◌, ◌++◌}
use Rattle.std.proofs.Common.{length, map, slice_index, slice_index_or, nat_eq, nat_lt, nat_le, Some, None, Ok, ◌⊎◌, inl, inr}
use Rattle.std.proofs.Common.{⊎_elim, refl, ap, sym, ◌∙◌, subst, arith, append_assoc, length-take}
use Rattle.std.specs.List.{list_all}
use Rattle.std.specs.Option.{option_map, option_or}
use Rattle.std.specs.Char.{to_ascii_uppercase}
use Rattle.std.specs.Str.Lines.{lines, strip_carriage_return}
use Rattle.std.proofs.lemmas.Bool.{and_parts, and_from, and_left, and_right, or_from, both_ways, cases_lt, ltb-true, lt-ltb, le-ltb, le-leb}
use Rattle.std.proofs.lemmas.Bool.Decides.{nat_tests}
use Rattle.std.proofs.lemmas.List.{map-append, get_or-take}
use Rattle.std.proofs.lemmas.List.Folds.{list_any_none}
use Rattle.std.proofs.lemmas.List.FromFn.{fill_by_all}
use Rattle.mcs48_isa.specs.Listing.{end_after, end_of, lines_from, line_at, listing_of, size_of, instruction_at}
use Rattle.mcs48_asm.specs.declared.flaw.Flaw.TheVariants.{PastEnd, PlaceTaken}
use Rattle.mcs48_asm.specs.Flaws.{number_of}
use Rattle.mcs48_asm.specs.Statements.{Statement, Line, line_of}
use Rattle.mcs48_asm.specs.Places.{Placed, placed, places, covers, is_filled, count_of, start_of}
use Rattle.mcs48_asm.specs.Names.{Meanings, definitions, value_named, bytes_of}
use Rattle.mcs48_asm.specs.Faults.{fault_of, is_past_end, is_filled_again}
use Rattle.mcs48_asm.specs.Assembly.{lines_in, first_fault, byte_at, image_of, image_unless, outcome_of, assembly_of}
use Rattle.mcs48_asm.proofs.Plain.{is_plain, IsPlain, first_part, plain-upper, plain-newline, plain-return}
use Rattle.text_lines.proofs.FirstLine.{lines-first}
use Rattle.mcs48_asm.proofs.Ranges.{places-of}
use Rattle.mcs48_asm.proofs.Steps.{is_filled-push}
use Rattle.mcs48_asm.proofs.Sizes.{IsSized}
use Rattle.mcs48_asm.proofs.Readings.{IsRead, said, said_at, late_fault, text_at, bytes_at}

-- a plain text is its own upper case
plain_text-upper : (text : List ℕ) → IsPlain text → map to_ascii_uppercase text ≡ text
plain_text-upper [] plain = refl
plain_text-upper (c ∷ cs) plain =
    let both = and_parts (is_plain c) (list_all is_plain cs) plain in
    rw (plain-upper c both.0) (ap (λ t. c ∷ t) (plain_text-upper cs both.1))

-- no character of a plain text is a carriage return
plain_text-return : (text : List ℕ) (k : ℕ) → IsPlain text → (slice_index text k == 13) ≡ false
plain_text-return [] k plain = refl
plain_text-return (c ∷ cs) zero plain = plain-return c (and_parts (is_plain c) (list_all is_plain cs) plain).0
plain_text-return (c ∷ cs) (suc k) plain = plain_text-return cs k (and_parts (is_plain c) (list_all is_plain cs) plain).1

-- so it loses none
plain_text-whole : (text : List ℕ) → IsPlain text → strip_carriage_return text ≡ text
plain_text-whole text plain = rw (plain_text-return text (length text - 1) plain) refl

-- a plain text and its LF are a line
first_line : (text rest : List ℕ) → IsPlain text → lines (text ++ 10 ∷ rest) ≡ text ∷ lines rest
first_line text rest plain =
    lines-first (text ++ 10 ∷ rest) text rest (first_part is_plain (λ c. c == 10) plain-newline text 10 rest plain refl)
    ∙ ap (λ t. t ∷ lines rest) (plain_text-whole text plain)

-- and the same in upper case
first_line-upper : (text rest : List ℕ) → IsPlain text
    → lines (map to_ascii_uppercase ((text ++ 10 ∷ []) ++ rest)) ≡ text ∷ lines (map to_ascii_uppercase rest)
first_line-upper text rest plain =
    ap (λ t. lines (map to_ascii_uppercase t)) (append_assoc text (10 ∷ []) rest)
    ∙ ap lines (map-append to_ascii_uppercase text (10 ∷ rest))
    ∙ ap (λ t. lines (t ++ 10 ∷ map to_ascii_uppercase rest)) (plain_text-upper text plain)
    ∙ first_line text (map to_ascii_uppercase rest) plain

-- a line that is a statement, and the lines after it
placed-said : (place : ℕ) (statement : Statement) (others : List Line)
    → ((before : ℕ) → start_of before statement ≡ before) → place + count_of statement ≤ 2048
    → placed place (said statement ∷ others) ≡ said_at place statement ∷ placed (place + count_of statement) others
placed-said place statement others start within =
    ap (λ s. record { start = s; line = said statement } ∷ placed (s + count_of statement) others) (start place)

-- a line whose bytes are those of the memory from a place on, and which has no fault of its own
pub record IsWritten (memory : List ℕ) (place : ℕ) (at : Placed) : Type 0 where
  pub start : at.start ≡ place
  pub some : 0 < count_of at.line.statement
  pub within : place + count_of at.line.statement ≤ 2048
  pub bytes : (names : Meanings) (k : ℕ) → k < count_of at.line.statement
      → slice_index (bytes_of names at.line.statement) k ≡ slice_index memory (place + k)
  pub faults : (names seen : Meanings) (filled : ℕ → Bool) → fault_of names seen filled at ≡ late_fault filled at

-- lines one after the other from a place on, up to the end
abbrev pub Written : List ℕ → ℕ → ℕ → List Placed → Type 0
Written memory end place [] = end ≤ place
Written memory end place (at ∷ rest) = IsWritten memory place at × Written memory end (place + count_of at.line.statement) rest

-- none of the places from this one on is filled
abbrev IsFree : (ℕ → Bool) → ℕ → Type 0
IsFree filled place = (k : ℕ) → place ≤ k → filled k ≡ false

-- each byte from the end on is 00
abbrev IsZeroFrom : List ℕ → ℕ → Type 0
IsZeroFrom memory end = (k : ℕ) → end ≤ k → slice_index memory k ≡ 0

-- the lines of a listing, as they are read
abbrev listed : List ℕ → ℕ → ℕ → ℕ → List Line
listed memory end most place = map line_of (lines (map to_ascii_uppercase (lines_from memory end most place)))

-- one of two bytes that are one after the other
one_of_two : (memory : List ℕ) (place k : ℕ) → k < 2
    → slice_index (slice_index memory place ∷ slice_index memory (place + 1) ∷ []) k ≡ slice_index memory (place + k)
one_of_two memory place zero h = ap (slice_index memory) (omega arith)
one_of_two memory place (suc zero) h = refl
one_of_two memory place (suc (suc k)) h = absurd (omega arith)

-- a byte of the bytes at a place
byte_of-place : (memory : List ℕ) (place k : ℕ) → k < length (bytes_at memory place)
    → slice_index (bytes_at memory place) k ≡ slice_index memory (place + k)
byte_of-place memory place k h =
    let two : List ℕ = slice_index memory place ∷ slice_index memory (place + 1) ∷ [] in
    let size : ℕ = size_of (instruction_at memory place) in
    let below : (k < size) × (k < 2) = omega (arith, length-take size two) in
    get_or-take size two k 0 below.0 ∙ one_of_two memory place k below.1

-- what is read from the text of a place is written there
said-written : (memory : List ℕ) (place : ℕ) (read : IsRead (text_at memory place) place (bytes_at memory place)) → IsSized memory place
    → IsWritten memory place (said_at place read.statement)
said-written memory place read sized = record {
  start = refl;
  some = omega (arith, read.count, sized.some, sized.length_is);
  within = omega (arith, read.count, sized.within, sized.length_is);
  bytes = λ names k h. ap (λ bs. slice_index bs k) (read.bytes_are names) ∙ byte_of-place memory place k (omega (arith, h, read.count));
  faults = read.faults;
}

-- where a place lies before the end its line is the first, and the others follow
listed-step : (memory : List ℕ) (end most place : ℕ)
    (read : IsRead (text_at memory place) place (bytes_at memory place)) → IsSized memory place → place < end
    → placed place (listed memory end (suc most) place)
    ≡ said_at place read.statement
    ∷ placed (place + count_of read.statement) (listed memory end most (place + size_of (instruction_at memory place)))
listed-step memory end most place read sized below =
    let next : ℕ = place + size_of (instruction_at memory place) in
    let others : List ℕ = lines_from memory end most next in
    ap (λ b. placed place (map line_of (lines (map to_ascii_uppercase (cond b (line_at memory place ++ others) [])))))
    (lt-ltb place end below)
    ∙ ap (λ ls. placed place (map line_of ls)) (first_line-upper (text_at memory place) others read.plain)
    ∙ ap (λ line. placed place (line ∷ listed memory end most next)) read.line
    ∙ placed-said place read.statement (listed memory end most next) read.start (omega (arith, read.count, sized.within, sized.length_is))

-- and no line is after the end
listed-done : (memory : List ℕ) (end most place : ℕ) → end ≤ place → placed place (listed memory end (suc most) place) ≡ []
listed-done memory end most place past =
    let others : List ℕ = lines_from memory end most (place + size_of (instruction_at memory place)) in
    ap (λ b. placed place (map line_of (lines (map to_ascii_uppercase (cond b (line_at memory place ++ others) [])))))
    (le-ltb place end past)

-- the lines of a listing are one after the other
listing-written : (memory : List ℕ) (end most place : ℕ)
    → ((k : ℕ) → k < 2048 → IsRead (text_at memory k) k (bytes_at memory k))
    → ((k : ℕ) → k < 2048 → IsSized memory k)
    → end ≤ 2048 → end ≤ place + most
    → Written memory end place (placed place (listed memory end most place))
listing-written memory end zero place reads sized all bound = omega arith
listing-written memory end (suc most) place reads sized all bound =
    ⊎_elim
    (λ (below : place < end).
    let read = reads place (omega arith) in
    let here = sized place (omega arith) in
    let size_is : count_of read.statement ≡ size_of (instruction_at memory place) = read.count ∙ here.length_is in
    let next : ℕ = place + size_of (instruction_at memory place) in
    subst (λ ls. Written memory end place ls) (sym (listed-step memory end most place read here below)) (
      said-written memory place read here,
      subst (λ n. Written memory end (place + n) (placed (place + n) (listed memory end most next))) (sym size_is)
          (listing-written memory end most next reads sized all (omega (arith, here.some))),
    ))
    (λ (past : end ≤ place). subst (λ ls. Written memory end place ls) (sym (listed-done memory end most place past)) past)
    (cases_lt place end)

-- a line covers no place before it and none after it
covers-not : (memory : List ℕ) (place : ℕ) (at : Placed) (k : ℕ) → IsWritten memory place at → (k < place)
    ⊎ (place + count_of at.line.statement ≤ k)
    → covers at k ≡ false
covers-not memory place at k w (inl before) = rw w.start (grind (arith, nat_tests))
covers-not memory place at k w (inr afterwards) = rw w.start (grind (arith, nat_tests))

-- its bytes are below place 2,048
written-within : (memory : List ℕ) (place : ℕ) (at : Placed) → IsWritten memory place at → is_past_end at ≡ false
written-within memory place at w =
    and_right (nat_lt 0 (count_of at.line.statement)) (nat_lt 2048 (at.start + count_of at.line.statement))
    (le-ltb 2048 (at.start + count_of at.line.statement) (omega (arith, w.start, w.within)))

-- no earlier line fills a place of its own
written-free : (memory : List ℕ) (place : ℕ) (at : Placed) (filled : ℕ → Bool) → IsWritten memory place at
    → IsFree filled place → is_filled_again filled at ≡ false
written-free memory place at filled w free =
    list_any_none (λ k. covers at k && filled k) places (λ k d h. one (slice_index_or places k d))
  where
    one : (k : ℕ) → (covers at k && filled k) ≡ false
    one k =
        ⊎_elim
        (λ (before : k < place). and_left (covers at k) (filled k) (covers-not memory place at k w (inl before)))
        (λ (from : place ≤ k). and_right (covers at k) (filled k) (free k from))
        (cases_lt k place)

-- so it has no fault
written-sound : (memory : List ℕ) (place : ℕ) (at : Placed) (names seen : Meanings) (filled : ℕ → Bool)
    → IsWritten memory place at → IsFree filled place
    → fault_of names seen filled at ≡ None
written-sound memory place at names seen filled w free =
    w.faults names seen filled
    ∙ ap (λ b. cond b (Some PastEnd) (cond (is_filled_again filled at) (Some PlaceTaken) None)) (written-within memory place at w)
    ∙ ap (λ b. cond b (Some PlaceTaken) None) (written-free memory place at filled w free)

-- one line more fills no place after it
free-push : (memory : List ℕ) (place : ℕ) (earlier : List Placed) (at : Placed) → IsWritten memory place at
    → IsFree (is_filled earlier) place
    → IsFree (is_filled (earlier ++ at ∷ [])) (place + count_of at.line.statement)
free-push memory place earlier at w free k afterwards =
    is_filled-push earlier at k
    ∙ or_from (is_filled earlier k) (covers at k) (free k (omega arith)) (covers-not memory place at k w (inr afterwards))

-- lines one after the other have no fault
written-faultless : (memory : List ℕ) (end place : ℕ) (names : Meanings) (earlier all : List Placed)
    → Written memory end place all → IsFree (is_filled earlier) place
    → first_fault names earlier all ≡ None
written-faultless memory end place names earlier [] w free = refl
written-faultless memory end place names earlier (at ∷ rest) w free =
    ap (λ o. option_or (option_map (λ flaw. (length earlier + 1, number_of flaw)) o) (first_fault names (earlier ++ at ∷ []) rest))
    (written-sound memory place at names (value_named (definitions earlier)) (is_filled earlier) w.0 free)
    ∙ written-faultless memory end (place + count_of at.line.statement) names (earlier ++ at ∷ []) rest w.1
    (free-push memory place earlier at w.0 free)

-- a byte of a line, or of those after it
byte-step : (t : Bool) (memory : List ℕ) (place : ℕ) (names : Meanings) (at : Placed) (k x : ℕ)
    → IsWritten memory place at → covers at k ≡ t → place ≤ k
    → (place + count_of at.line.statement ≤ k → x ≡ slice_index memory k)
    → cond t (slice_index (bytes_of names at.line.statement) (k - at.start)) x ≡ slice_index memory k
byte-step true memory place names at k x w t from others =
    let both = and_parts (nat_le at.start k) (nat_lt k (at.start + count_of at.line.statement)) t in
    let below : k < at.start + count_of at.line.statement = ltb-true k (at.start + count_of at.line.statement) both.1 in
    let there : place + (k - place) ≡ k = omega arith in
    ap (λ s. slice_index (bytes_of names at.line.statement) (k - s)) w.start
    ∙ w.bytes names (k - place) (omega (arith, w.start, below, w.some))
    ∙ ap (slice_index memory) there
byte-step false memory place names at k x w t from others =
    others (⊎_elim
    (λ (below : k < place + count_of at.line.statement).
    absurd (both_ways (covers at k) t
    (and_from (nat_le at.start k) (nat_lt k (at.start + count_of at.line.statement)) (le-leb at.start k (omega (arith, w.start)))
    (lt-ltb k (at.start + count_of at.line.statement) (omega (arith, w.start, below))))))
    (λ (afterwards : place + count_of at.line.statement ≤ k). afterwards)
    (cases_lt k (place + count_of at.line.statement)))

-- from a place on the bytes of the lines are those of the memory, which is 00 from the end on
written-byte : (memory : List ℕ) (end place : ℕ) (names : Meanings) (all : List Placed) → Written memory end place all
    → IsZeroFrom memory end
    → (k : ℕ) → place ≤ k → byte_at names all k ≡ slice_index memory k
written-byte memory end place names [] w zeros k from = sym (zeros k (omega arith))
written-byte memory end place names (at ∷ rest) w zeros k from =
    byte-step (covers at k) memory place names at k (byte_at names rest k) w.0 refl from
    (λ afterwards. written-byte memory end (place + count_of at.line.statement) names rest w.1 zeros k afterwards)

-- the end lies within the list
end_of-within : (bytes : List ℕ) → end_of bytes ≤ length bytes
end_of-within [] = omega arith
end_of-within (byte ∷ bytes) = one byte (end_of bytes) (length bytes) (end_of-within bytes)
  where
    some : (t : Bool) (n : ℕ) → cond t 0 1 ≤ suc n
    some true n = omega arith
    some false n = omega arith

    one : (byte end n : ℕ) → end ≤ n → end_after byte end ≤ suc n
    one byte zero n h = some (nat_eq byte 0) n
    one byte (suc end) n h = omega arith

-- and each byte from there on is 00
end_of-zeros : (bytes : List ℕ) → IsZeroFrom bytes (end_of bytes)
end_of-zeros [] k h = refl
end_of-zeros (byte ∷ bytes) zero h = one byte (end_of bytes) h
  where
    one : (byte end : ℕ) → end_after byte end ≤ 0 → byte ≡ 0
    one byte zero h = grind (arith, nat_tests)
    one byte (suc end) h = absurd (omega arith)
end_of-zeros (byte ∷ bytes) (suc k) h = end_of-zeros bytes k (one byte (end_of bytes) h)
  where
    one : (byte end : ℕ) → end_after byte end ≤ suc k → end ≤ k
    one byte zero h = omega arith
    one byte (suc end) h = omega arith

-- lines from place 0 on give the memory
written-image : (memory : List ℕ) (end : ℕ) (names : Meanings) (all : List Placed) → length memory ≡ 2048
    → Written memory end 0 all → IsZeroFrom memory end
    → image_of names all ≡ memory
written-image memory end names all long w zeros =
    ap (map (byte_at names all)) (sym (places-of 2048 refl))
    ∙ sym (fill_by_all (byte_at names all) memory 2048 0 long (λ k h. sym (written-byte memory end 0 names all w zeros k (omega arith))))

-- and no fault
written-outcome : (memory : List ℕ) (end : ℕ) (names : Meanings) (all : List Placed) → length memory ≡ 2048
    → Written memory end 0 all → IsZeroFrom memory end
    → outcome_of names all ≡ Ok memory
written-outcome memory end names all long w zeros =
    ap (λ f. image_unless f (image_of names all)) (written-faultless memory end 0 names [] all w (λ k h. refl))
    ∙ ap Ok (written-image memory end names all long w zeros)

-- the listing of an image, assembled, is that image
pub listing-assembles : (memory : List ℕ) → length memory ≡ 2048
    → ((place : ℕ) → place < 2048 → IsRead (text_at memory place) place (bytes_at memory place))
    → ((place : ℕ) → place < 2048 → IsSized memory place)
    → assembly_of (listing_of memory) ≡ Ok memory
listing-assembles memory long reads sized =
    let all : List Placed = lines_in (listing_of memory) in
    written-outcome memory (end_of memory) (value_named (definitions all)) all long
    (listing-written memory (end_of memory) (end_of memory) 0 reads sized (omega (arith, end_of-within memory)) (omega arith))
    (end_of-zeros memory)
