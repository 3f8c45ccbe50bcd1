-- The strokes of a text.
use Rattle.std.proofs.Common.{◌≡◌, ℕ, suc, ◌<◌, Bool, true, false, not, ◌||◌, cond, ◌==◌, List, []}
use Rattle.std.proofs.Common.{◌∷◌, length, find, Some, None, refl, ap, sym, ◌∙◌, subst}
use Rattle.std.specs.Prelude.{IfSome, IsSome, is_none, option_and_then}
use Rattle.std.specs.Option.{option_or}
use Rattle.std.specs.declared.option.Option.{Option}
use Rattle.std.proofs.lemmas.Bool.{eqb-true}
use Rattle.pc_tables.specs.declared.words.WordRow.{WordRow}
use Rattle.bits.proofs.Every.{at_each, and-left}
use Rattle.pc_tables.specs.Keys.{keys, scan_at}
use Rattle.pc_tables.specs.Words.{words, letter_on, words_at}
use Rattle.layout_reader.specs.declared.entry.Entry.{Entry}
use Rattle.layout_reader.specs.Entries.{IsEntry}
use Rattle.layout_reader.specs.Layouts.{KeyLayout, IsKeyLayout, AreEntries, entry_at}
use Rattle.law_typed_log.specs.Typing.{Stroke, Plain, Shifted, base, shifted, is_low, word_of, enters, is_shift, sends_shift}
use Rattle.law_typed_log.specs.Typing.{is_shift_entry, shift_entry, plain, under_shift, key_of, stroke_of, before, strokes_of, character}
use Rattle.law_typed_log.proofs.Found.{Found, found}

-- how a stroke types a character
pub record IsUnderShift (es : List Entry) (c : ℕ) (shift key : Entry) : Type 0 where
  pub of_shift : Found is_shift_entry es shift
  pub of_key : Found (enters shifted c) es key

abbrev pub IsStroke : List Entry → ℕ → Stroke → Type 0
IsStroke es c (Plain key) = Found (enters base c) es key
IsStroke es c (Shifted shift key) = IsUnderShift es c shift key

module _ (es : List Entry) (are : AreEntries es) (c : ℕ) where
  shifted_by : (a b : Option Entry) (s : Stroke) → shift_entry es ≡ a → find (enters shifted c) es ≡ b
      → under_shift a b ≡ Some s
      → IsStroke es c s
  shifted_by (Some shift) (Some key) s f g h =
      let k : Shifted shift key ≡ s = cc in
      subst (λ v. IsStroke es c v) k (record
      { of_shift = found is_shift_entry shift es are f; of_key = found (enters shifted c) key es are g })
  shifted_by (Some shift) None s f g h = absurd cc
  shifted_by None b s f g h = absurd cc

  plain_by : (a : Option Entry) (b : Option Stroke) (s : Stroke) → find (enters base c) es ≡ a
      → (b ≡ Some s → IsStroke es c s)
      → option_or (plain a) b ≡ Some s → IsStroke es c s
  plain_by (Some key) b s f g h = let k : Plain key
      ≡ s = cc in subst (λ v. IsStroke es c v) k (found (enters base c) key es are f)
  plain_by None b s f g h = g h

  key_is : (s : Stroke) → key_of c es ≡ Some s → IsStroke es c s
  key_is s h =
      plain_by (find (enters base c) es) _ s refl
      (shifted_by (shift_entry es) (find (enters shifted c) es) s refl refl) h

-- a character that isn't 00, and its stroke
pub record Types (es : List Entry) (c : ℕ) (s : Stroke) : Type 0 where
  pub some : (c == 0) ≡ false
  pub is : IsStroke es c s

stroke_is : (layout : KeyLayout) → IsKeyLayout layout → (c : ℕ) (s : Stroke) → stroke_of layout c ≡ Some s
    → Types layout.entries c s
unfolding stroke_of
stroke_is layout is c s h = by (c == 0) refl h
  where
    by : (b : Bool) → (c == 0) ≡ b → cond b None (key_of c layout.entries) ≡ Some s → Types layout.entries c s
    by true z g = absurd cc
    by false z g = record { some = z; is = key_is layout.entries is.entries c s g }

-- a text and its strokes
abbrev pub AreStrokes : List Entry → List ℕ → List Stroke → Type 0
AreStrokes es [] [] = Unit {0}
AreStrokes es [] (s ∷ ss) = ⊥
AreStrokes es (byte ∷ text) [] = ⊥
AreStrokes es (byte ∷ text) (s ∷ ss) = Types es (character byte) s × AreStrokes es text ss

-- the strokes that a layout has for a text type its characters, one by one
pub strokes_are : (layout : KeyLayout) → IsKeyLayout layout → (text : List ℕ) (ss : List Stroke)
    → strokes_of layout text ≡ Some ss → AreStrokes layout.entries text ss
strokes_are layout is [] [] h = tt
strokes_are layout is [] (s ∷ ss) h = absurd cc
strokes_are layout is (byte ∷ text) ss h =
    by (stroke_of layout (character byte)) (strokes_of layout text) ss refl (strokes_are layout is text) h
  where
    by : (a : Option Stroke) (b : Option (List Stroke)) (ss : List Stroke) → stroke_of layout (character byte) ≡ a
        → ((rest : List Stroke) → b ≡ Some rest → AreStrokes layout.entries text rest) → before a b ≡ Some ss
        → AreStrokes layout.entries (byte ∷ text) ss
    by (Some s) (Some rest) ss f g h =
        let k : s ∷ rest ≡ ss = cc in
        subst (λ v. AreStrokes layout.entries (byte ∷ text) v) k (stroke_is layout is (character byte) s f, g rest refl)
    by (Some s) None ss f g h = absurd cc
    by None b ss f g h = absurd cc

-- a text has as many strokes as bytes
pub lengths : (es : List Entry) (text : List ℕ) (ss : List Stroke) → AreStrokes es text ss → length ss ≡ length text
lengths es [] [] a = refl
lengths es [] (s ∷ ss) a = absurd a
lengths es (byte ∷ text) [] a = absurd a
lengths es (byte ∷ text) (s ∷ ss) a = ap (λ n. suc n) (lengths es text ss a.1)

-- a shift key has no words
wordless : (k : ℕ) → k < 84 → (not (is_shift k) || is_none (words_at (scan_at k))) ≡ true
unfolding keys words letter_on
wordless = at_each (λ k. not (is_shift k) || is_none (words_at (scan_at k))) 84 refl

-- so the shift entry isn't the one whose key it shifts
shift_or_word : (c : ℕ) (o : Option ℕ) → IfSome o (λ k. k < 84) → sends_shift o ≡ true
    → is_low c (option_and_then (word_of shifted) o) ≡ true → ⊥
shift_or_word c None l h g = absurd cc
shift_or_word c (Some k) l h g = by (is_shift k) (words_at (scan_at k)) h (wordless k l) g
  where
    by : (b : Bool) (o : Option WordRow) → b ≡ true → (not b || is_none o) ≡ true
        → is_low c (option_and_then shifted o) ≡ true → ⊥
    by true None h i g = absurd cc
    by true (Some row) h i g = absurd cc
    by false o h i g = absurd cc

not_both : (c : ℕ) (e : Entry) → IsEntry e → is_shift_entry e ≡ true → enters shifted c e ≡ true → ⊥
unfolding is_shift_entry enters
not_both c e is h g = shift_or_word c e.sends is.sends (and-left (sends_shift e.sends) (not e.make_only) h) g

-- a place of the matrix at which the layout has an entry
pub record IsTaken (es : List Entry) (place : ℕ) : Type 0 where
  pub in_matrix : place < 96
  pub own : IsSome (entry_at place es)

taken_of : (p : Entry → Bool) (es : List Entry) (e : Entry) → Found p es e → IsTaken es e.place
taken_of p es e f = record { in_matrix = f.is.place; own = rw f.own refl }

-- where a stroke's keys are
pub record AreApart (es : List Entry) (first second : ℕ) : Type 0 where
  pub of_first : IsTaken es first
  pub of_second : IsTaken es second
  pub apart : (first == second) ≡ false

abbrev pub Fits : List Entry → Stroke → Type 0
Fits es (Plain key) = IsTaken es key.place
Fits es (Shifted shift key) = AreApart es shift.place key.place

-- a key under shift isn't at the place of the shift key
pub apart_of : (es : List Entry) (c : ℕ) (shift key : Entry) → IsUnderShift es c shift key
    → (shift.place == key.place) ≡ false
apart_of es c shift key u =
    elim (shift.place == key.place) as (λ b. (shift.place == key.place) ≡ b → b ≡ false) [
      | true ↦ λ h.
          let s : shift.place ≡ key.place = eqb-true shift.place key.place h in
          let k : Some shift ≡ Some key = sym u.of_shift.own ∙ ap (λ n. entry_at n es) s ∙ u.of_key.own in
          let i : shift ≡ key = cc in
          absurd (not_both c key u.of_key.is (ap is_shift_entry (sym i) ∙ u.of_shift.passes) u.of_key.passes)
      | false ↦ λ h. refl
    ] refl

fits : (es : List Entry) (c : ℕ) (s : Stroke) → IsStroke es c s → Fits es s
fits es c (Plain key) f = taken_of (enters base c) es key f
fits es c (Shifted shift key) u = record {
  of_first = taken_of is_shift_entry es shift u.of_shift;
  of_second = taken_of (enters shifted c) es key u.of_key;
  apart = apart_of es c shift key u;
}

-- the same of each of a text's strokes
abbrev pub AllFit : List Entry → List Stroke → Type 0
AllFit es [] = Unit {0}
AllFit es (s ∷ ss) = Fits es s × AllFit es ss

-- the keys of a text's strokes are at places of the matrix that the layout takes
pub all_fit : (es : List Entry) (text : List ℕ) (ss : List Stroke) → AreStrokes es text ss → AllFit es ss
all_fit es [] [] a = tt
all_fit es [] (s ∷ ss) a = absurd a
all_fit es (byte ∷ text) [] a = absurd a
all_fit es (byte ∷ text) (s ∷ ss) a = (fits es (character byte) s a.0.is, all_fit es text ss a.1)
