-- What stands for large numbers and places never shows in an answer.
use Rattle.std.proofs.Common.{◌≡◌, ℕ, zero, suc, ◌+◌, ◌≤◌, ◌&&◌, ◌||◌, Bool, true, false, List, [], ◌∷◌, ◌++◌}
use Rattle.std.proofs.Common.{length, map, Some, None, Option, refl, ap, sym, ◌∙◌, arith, nat_lt}
use Rattle.std.specs.List.{list_any}
use Rattle.std.specs.Option.{option_or, option_map}
use Rattle.std.proofs.lemmas.Bool.{or_parts}
use Rattle.std.proofs.lemmas.Bool.Decides.{nat_tests}
use Rattle.std.proofs.lemmas.List.{map-append, length-map}
use Rattle.mcs48_asm.specs.declared.argument.Role.{Role}
use Rattle.mcs48_asm.specs.declared.argument.Role.TheVariants.{Byte, Address, Target}
use Rattle.mcs48_asm.specs.Values.{Value, Number, Named, Low}
use Rattle.mcs48_asm.specs.Statements.{Statement, Nothing, Instruction, Origin, Data, Equate, Line, line_of}
use Rattle.mcs48_asm.specs.Places.{Placed, placed, is_filled, count_of, start_of}
use Rattle.mcs48_asm.specs.Names.{Meanings, labelled, equated, definitions, value_named}
use Rattle.mcs48_asm.specs.Faults.{arguments, is_past, is_too_large, has_wrong_number, has_labelled_equate}
use Rattle.mcs48_asm.specs.Assembly.{fault_after, first_fault, outcome_of, image_unless, image_of, answer_of}
use Rattle.mcs48_asm.specs.declared.flaw.Flaw.{Flaw}
use Rattle.mcs48_asm.specs.Flaws.{number_of}
use Rattle.mcs48_asm.specs.Capped.{capped, value_capped, statement_capped, line_capped, kept_places}
use Rattle.mcs48_asm.specs.Kept.{kept_line}
use Rattle.mcs48_asm.proofs.Capped.{at_capped, names_capped, reserved, small-capped, placed-capped, names-capped, fault-capped}
use Rattle.mcs48_asm.proofs.Passes.{and_true, sound-line}

two : (a b c d e : Bool) → (a || b || c || d || e) ≡ false → (a ≡ false) × (b ≡ false)
two true b c d e h = absurd (cc)
two false true c d e h = absurd (cc)
two false false c d e h = (refl, refl)

not_past : (k n : ℕ) → nat_lt k n ≡ false → n ≤ k
not_past k n h = grind (arith, nat_tests)

counted_end : (s c : ℕ) → s ≤ 2048 → (nat_lt 0 c && nat_lt 2048 (s + c)) ≡ false → s + c ≤ 2048
counted_end s zero h l = omega arith
counted_end s (suc c) h l =
    let some : nat_lt 0 (suc c) ≡ true = grind (arith, nat_tests) in
    not_past 2048 (s + suc c) (and_true (nat_lt 0 (suc c)) (nat_lt 2048 (s + suc c)) l some)

start-near : (place : ℕ) (s : Statement) → place ≤ 2048 → has_wrong_number s ≡ false → start_of place s ≤ 2048
start-near place Nothing h w = h
start-near place (Instruction opcode a) h w = h
start-near place (Origin n) h w = not_past 2048 n w
start-near place (Data vs) h w = h
start-near place (Equate q n) h w = h

same-value : (names : Meanings) (role : Role) (v : Value) → is_past names role v ≡ false → value_capped v ≡ v
same-value names Byte (Number n) h = ap Number (small-capped n (let l : n ≤ 255 = not_past 255 n h in omega arith))
same-value names Address (Number n) h = ap Number (small-capped n (let l : n ≤ 2047 = not_past 2047 n h in omega arith))
same-value names Target (Number n) h = ap Number (small-capped n (let l : n ≤ 65535 = not_past 65535 n h in omega arith))
same-value names role (Named q) h = refl
same-value names role (Low q) h = refl

same-data : (names : Meanings) (vs : List Value) → list_any (is_too_large names) (arguments (Data vs)) ≡ false → map value_capped vs ≡ vs
same-data names [] h = refl
same-data names (v ∷ vs) h =
    let parts = or_parts (is_past names Byte v) (list_any (is_too_large names) (arguments (Data vs))) h in
    rw (same-value names Byte v parts.0) (ap (λ more. v ∷ more) (same-data names vs parts.1))

same-statement : (names : Meanings) (s : Statement) → list_any (is_too_large names) (arguments s) ≡ false
    → has_wrong_number s ≡ false → statement_capped s ≡ s
same-statement names Nothing h w = refl
same-statement names (Instruction opcode None) h w = refl
same-statement names (Instruction opcode (Some a)) h w =
    ap (λ v. Instruction opcode (Some (record { role = a.role; value = v })))
    (same-value names a.role a.value (or_parts (is_past names a.role a.value) false h).0)
same-statement names (Origin n) h w = ap Origin (small-capped n (let l : n ≤ 2048 = not_past 2048 n w in omega arith))
same-statement names (Data vs) h w = ap Data (same-data names vs h)
same-statement names (Equate q n) h w = ap (Equate q) (small-capped n (let l : n ≤ 65535 = not_past 65535 n w in omega arith))

-- a line without a fault has no large number, and the place after it is near
pub record IsNear (at : Placed) : Type 0 where
  pub same : at_capped at ≡ at
  pub afterwards : at.start + count_of at.line.statement ≤ 2048

near : (names : Meanings) (earlier : List Placed) (place : ℕ) (line : Line) → place ≤ 2048
    → fault_after names earlier (record { start = start_of place line.statement; line = line }) ≡ None
    → IsNear (record { start = start_of place line.statement; line = line })
near names earlier place line h none =
    let at : Placed = record { start = start_of place line.statement; line = line } in
    let seen = value_named (definitions earlier) in
    let sound = sound-line names seen (is_filled earlier) at none in
    let numbers = two (list_any (is_too_large names) (arguments line.statement)) (has_wrong_number line.statement)
    (list_any reserved (labelled at)) (list_any reserved (equated line.statement)) (has_labelled_equate line) sound.numbers in
    let begins = start-near place line.statement h numbers.1 in
    let begun : capped (start_of place line.statement)
    ≡ start_of place line.statement = small-capped (start_of place line.statement) (omega (arith, begins)) in
    let stated : statement_capped line.statement ≡ line.statement = same-statement names line.statement numbers.0 numbers.1 in
    record {
      same = λ i. record { start = begun i; line = record { flaw = line.flaw; label = line.label; statement = stated i } };
      afterwards = counted_end (start_of place line.statement) (count_of line.statement) begins sound.within;
    }

-- the first fault is the same
first : (names : Meanings) (earlier : List Placed) (place : ℕ) (lines : List Line) → place ≤ 2048
    → first_fault (names_capped names) (map at_capped earlier) (map at_capped (placed place lines))
    ≡ first_fault names earlier (placed place lines)
first names earlier place [] h = refl
first names earlier place (line ∷ lines) h =
    let at : Placed = record { start = start_of place line.statement; line = line } in
    go (fault_after names earlier at) at (fault-capped names earlier place line h) refl
    (λ none. ap (λ ps. first_fault (names_capped names) ps
    (map at_capped (placed (at.start + count_of line.statement) lines))) (sym (map-append at_capped earlier (at ∷ [])))
    ∙ first names (earlier ++ at ∷ []) (at.start + count_of line.statement) lines (near names earlier place line h none).afterwards)
  where
    go : (o : Option Flaw) (at : Placed)
        → fault_after (names_capped names) (map at_capped earlier) (at_capped at) ≡ fault_after names earlier at
        → fault_after names earlier at ≡ o
        → (o ≡ None → first_fault (names_capped names) (map at_capped earlier ++ at_capped at ∷ [])
        (map at_capped (placed (at.start + count_of line.statement) lines))
        ≡ first_fault names (earlier ++ at ∷ []) (placed (at.start + count_of line.statement) lines))
        → first_fault (names_capped names) (map at_capped earlier)
        (at_capped at ∷ map at_capped (placed (at.start + count_of line.statement) lines))
        ≡ first_fault names earlier (at ∷ placed (at.start + count_of line.statement) lines)
    go (Some x) at same is more =
        ap (λ o. option_or (option_map (λ flaw. (length (map at_capped earlier) + 1, number_of flaw)) o)
        (first_fault (names_capped names) (map at_capped earlier ++ at_capped at ∷ [])
        (map at_capped (placed (at.start + count_of line.statement) lines)))) (same ∙ is)
        ∙ ap (λ n. Some (n + 1, number_of x)) (length-map earlier at_capped)
        ∙ sym (ap (λ o. option_or (option_map (λ flaw. (length earlier + 1, number_of flaw)) o)
        (first_fault names (earlier ++ at ∷ []) (placed (at.start + count_of line.statement) lines))) is)
    go None at same is more =
        ap (λ o. option_or (option_map (λ flaw. (length (map at_capped earlier) + 1, number_of flaw)) o)
        (first_fault (names_capped names) (map at_capped earlier ++ at_capped at ∷ [])
        (map at_capped (placed (at.start + count_of line.statement) lines)))) (same ∙ is)
        ∙ more refl
        ∙ sym (ap (λ o. option_or (option_map (λ flaw. (length earlier + 1, number_of flaw)) o)
        (first_fault names (earlier ++ at ∷ []) (placed (at.start + count_of line.statement) lines))) is)

-- lines without a fault are the same
option-none : (o : Option Flaw) (n : ℕ) (p : Option (ℕ × ℕ))
    → option_or (option_map (λ flaw. (n, number_of flaw)) o) p ≡ None → (o ≡ None) × (p ≡ None)
option-none (Some x) n p h = absurd (cc)
option-none None n p h = (refl, h)

whole : (names : Meanings) (earlier : List Placed) (place : ℕ) (lines : List Line) → place ≤ 2048
    → first_fault names earlier (placed place lines) ≡ None → map at_capped (placed place lines) ≡ placed place lines
whole names earlier place [] h none = refl
whole names earlier place (line ∷ lines) h none =
    let at : Placed = record { start = start_of place line.statement; line = line } in
    let next = at.start + count_of line.statement in
    let parts = option-none (fault_after names earlier at) (length earlier + 1)
    (first_fault names (earlier ++ at ∷ []) (placed next lines)) none in
    let here = near names earlier place line h parts.0 in
    ap (λ p. p ∷ map at_capped (placed next lines)) here.same
    ∙ ap (λ ps. at ∷ ps) (whole names (earlier ++ at ∷ []) next lines here.afterwards parts.1)

answers : (ps : List Placed) (o : Option (ℕ × ℕ)) → first_fault (value_named (definitions ps)) [] ps ≡ o
    → first_fault (names_capped (value_named (definitions ps))) [] (map at_capped ps) ≡ o
    → (o ≡ None → map at_capped ps ≡ ps) → answer_of ps ≡ answer_of (map at_capped ps)
answers ps None is capped_is same = sym (ap answer_of (same refl))
answers ps (Some x) is capped_is same =
    ap (λ f. image_unless f (image_of (value_named (definitions ps)) ps)) is
    ∙ sym (ap (λ names. outcome_of names (map at_capped ps)) (names-capped ps)
    ∙ ap (λ f. image_unless f (image_of (names_capped (value_named (definitions ps))) (map at_capped ps))) capped_is)

-- the answer for a source is the same if 65,536 is kept for each larger number and place
pub large-numbers : (lines : List Line) → answer_of (placed 0 lines) ≡ answer_of (kept_places 0 (map line_capped lines))
large-numbers lines =
    let ps = placed 0 lines in
    let names = value_named (definitions ps) in
    answers ps (first_fault names [] ps) refl (first names [] 0 lines (omega arith))
    (whole names [] 0 lines (omega arith)) ∙ sym (ap answer_of (placed-capped 0 lines))

kept_lines : (ls : List (List ℕ)) → map kept_line ls ≡ map line_capped (map line_of ls)
kept_lines [] = refl
kept_lines (l ∷ ls) = ap (λ more. kept_line l ∷ more) (kept_lines ls)

-- so what the program keeps of lines gives what the lines give
pub exact-numbers : (ls : List (List ℕ)) → answer_of (kept_places 0 (map kept_line ls)) ≡ answer_of (placed 0 (map line_of ls))
exact-numbers ls = ap (λ lines. answer_of (kept_places 0 lines)) (kept_lines ls) ∙ sym (large-numbers (map line_of ls))
