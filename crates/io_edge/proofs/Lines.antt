-- A text, line by line.
use Rattle.std.proofs.Common.{◌≡◌, ℕ, suc, ◌+◌, ◌-◌, ◌<◌, ◌≤◌, Bool, true, false, ◌==◌, List, [], ◌∷◌, length}
use Rattle.std.proofs.Common.{take, drop, cond, not, Some, None, refl, ap, sym, subst, ◌∙◌, arith}
use Rattle.std.specs.Prelude.{position, if◌then◌else◌}
use Rattle.std.specs.List.{position_or_len}
use Rattle.std.proofs.lemmas.List.{take_all, length-drop}
use Rattle.text_lines.proofs.Splits.{place_is, none_passes}
use Rattle.io_edge.specs.Said.{line_length, lines_in, onto_first}

abbrev pub is_lf : ℕ → Bool
is_lf byte = byte == 10

-- the first line goes on to the first LF, or to the end
abbrev EndsAt : ℕ → ℕ → ℕ → Type 0
EndsAt place all line = (place < all → line ≡ place + 1) × (all ≤ place → line ≡ all)

ends_on : (lf : Bool) (place all line : ℕ) → EndsAt place all line
    → EndsAt (cond (not lf) (1 + place) 0) (suc all) (if lf then 1 else 1 + line)
ends_on true place all line h = (λ below. refl, λ above. absurd (omega arith))
ends_on false place all line h = (λ below. omega (arith, h.0), λ above. omega (arith, h.1))

ends_at : (text : List ℕ) → EndsAt (position_or_len is_lf text) (length text) (line_length text)
ends_at [] = (λ below. absurd (omega arith), λ above. refl)
ends_at (byte ∷ text) = ends_on (byte == 10) (position_or_len is_lf text) (length text) (line_length text) (ends_at text)

-- where there is an LF
pub length_some : (text : List ℕ) (i : ℕ) → position is_lf text ≡ Some i → line_length text ≡ i + 1
length_some text i h =
    let at = place_is is_lf text i h in
    (ends_at text).0 at.0 ∙ ap (λ n. n + 1) at.1

-- where there is none
pub length_none : (text : List ℕ) → position is_lf text ≡ None → line_length text ≡ length text
length_none text h = (ends_at text).1 (none_passes is_lf text h)

-- the first line, and those after it
abbrev IsParted : List ℕ → List (List ℕ) → ℕ → Type 0
IsParted text lines n = lines ≡ take n text ∷ lines_in (drop n text)

parted_on : (lf : Bool) (byte : ℕ) (text : List ℕ) (n : ℕ) → (0 < length text → IsParted text (lines_in text) n)
    → (length text ≡ 0 → n ≡ 0)
    → IsParted (byte ∷ text) (if lf then (byte ∷ []) ∷ lines_in text else onto_first byte (lines_in text)) (if lf then 1 else 1 + n)
parted_on true byte text n h none = refl
parted_on false byte [] n h none = subst (λ (k : ℕ). IsParted (byte ∷ []) ((byte ∷ []) ∷ []) (1 + k)) (sym (none refl)) refl
parted_on false byte (next ∷ text) n h none =
    let first : 1 + n ≡ suc n = omega arith in
    subst (λ (k : ℕ). IsParted (byte ∷ next ∷ text) (onto_first byte (lines_in (next ∷ text))) k) (sym first)
    (ap (onto_first byte) (h (omega arith)))

no_line : (text : List ℕ) → length text ≡ 0 → line_length text ≡ 0
no_line [] none = refl
no_line (byte ∷ text) none = absurd (omega (arith, none))

-- a text that isn't empty is its first line and then the lines of the rest
pub parted : (text : List ℕ) → 0 < length text → lines_in text ≡ take (line_length text) text ∷ lines_in (drop (line_length text) text)
parted [] some = absurd (omega arith)
parted (byte ∷ text) some = parted_on (byte == 10) byte text (line_length text) (parted text) (λ none. no_line text none)

-- the same after a place of the text
whole_rest : (text : List ℕ) (start : ℕ) → take (length text - start) (drop start text) ≡ drop start text
whole_rest text start = take_all (length text - start) (drop start text) (omega (arith, length-drop start text))

-- if an LF is found, the line ends after it
pub end_some : (text : List ℕ) (start i : ℕ) → position is_lf (take (length text - start) (drop start text)) ≡ Some i
    → start + i + 1 ≡ start + line_length (drop start text)
end_some text start i h =
    let ends : line_length (drop start text)
    ≡ i + 1 = length_some (drop start text) i (ap (position is_lf) (sym (whole_rest text start)) ∙ h) in
    omega (arith, ends)

-- if no LF is found, the line ends with the text
pub end_none : (text : List ℕ) (start : ℕ) → start < length text
    → position is_lf (take (length text - start) (drop start text)) ≡ None → length text ≡ start + line_length (drop start text)
end_none text start below h =
    let ends : line_length (drop start text)
    ≡ length (drop start text) = length_none (drop start text) (ap (position is_lf) (sym (whole_rest text start)) ∙ h) in
    omega (arith, ends, below, length-drop start text)
