-- A text, stroke by stroke.
use Rattle.std.proofs.Common.{◌≡◌, ℕ, suc, ◌+◌, ◌*◌, ◌%◌, ◌<◌, ◌≤◌, ◌≢◌, Bool, true, false, not, ◌==◌, List, [], ◌∷◌, ◌++◌}
use Rattle.std.proofs.Common.{length, map, append-nil, append_assoc, Some, None, refl, ap, sym, ◌∙◌, subst, arith}
use Rattle.std.specs.Prelude.{IfSome, slice_get, is_none, option_and_then, unwrap_or}
use Rattle.std.specs.Option.{option_map}
use Rattle.std.proofs.lemmas.List.{map-append}
use Rattle.std.specs.declared.option.Option.{Option}
use Rattle.std.proofs.lemmas.Bool.{eqb-true}
use Rattle.bits.proofs.Every.{and-left, and-right}
use Rattle.pc_tables.specs.Keys.{scan_at, code_at as code_of_key}
use Rattle.layout_reader.specs.declared.entry.Entry.{Entry}
use Rattle.layout_reader.specs.Entries.{IsEntry}
use Rattle.layout_reader.specs.Layouts.{KeyLayout, IsKeyLayout, base_key, code_at, is_make_only}
use Rattle.layout_reader.proofs.FnKey.{is_silent_at_fn}
use Rattle.key_file.specs.Histories.{KeyHistory}
use Rattle.model_link.specs.Machine.{keyboard}
use Rattle.law_quiet_log.specs.Quiet.{IsQuiet, even, last_even, quiet_log}
use Rattle.law_quiet_log.proofs.Calm.{calm_lines}
use Rattle.law_quiet_log.proofs.Ran.{even_law, expected_is}
use Rattle.law_typed_log.specs.Typing.{Stroke, Plain, Shifted, Column, base, shifted, is_low, word_of, enters, is_shift, sends_shift}
use Rattle.law_typed_log.specs.Typing.{is_shift_entry, character, stroke_start, edges_from, takes_from, planned}
use Rattle.law_typed_log.specs.Typed.{low_byte, Says, StrokesSayText}
use Rattle.law_typed_log.proofs.Found.{Found, same_place}
use Rattle.law_typed_log.proofs.Struck.{IsUnderShift, Types, AreStrokes, AllFit, all_fit, strokes_are, lengths, apart_of}
use Rattle.law_typed_log.proofs.Played.{playable}
use Rattle.law_typed_log.proofs.Tables.{no_prefix, scan_is, plain_makes, plain_breaks, shift_makes, shift_breaks, shifted_makes}
use Rattle.law_typed_log.proofs.Tables.{shifted_breaks, shifted_ends, is_left}
use Rattle.law_typed_log.proofs.Turns.{IsKeyAt}
use Rattle.law_typed_log.proofs.Resting.{Rest}
use Rattle.law_typed_log.proofs.Start.{at_rest}
use Rattle.law_typed_log.proofs.PlainStroke.{IsPlain, plain_stroke}
use Rattle.law_typed_log.proofs.PlainSettled.{plain_settled}
use Rattle.law_typed_log.proofs.ShiftedStroke.{AreShifted, shifted_stroke}
use Rattle.law_typed_log.proofs.ShiftedSettled.{shifted_settled}

-- and the word that it enters for a character
pub record SendsWord (column : Column) (c : ℕ) (e : Entry) : Type 0 where
  pub key : ℕ
  pub is : e.sends ≡ Some key
  pub below : key < 84
  pub word : ℕ
  pub word_is : word_of column key ≡ Some word
  pub low : word % 256 ≡ c

sends_word : (column : Column) (c : ℕ) (e : Entry) → IsEntry e → enters column c e ≡ true → SendsWord column c e
unfolding enters
sends_word column c e is h = by e.sends refl is.sends h
  where
    word_by : (k : ℕ) → e.sends ≡ Some k → k < 84 → (o : Option ℕ) → word_of column k ≡ o → is_low c o ≡ true
        → SendsWord column c e
    word_by k s l None f g = absurd cc
    word_by k s l (Some w) f g =
        record { key = k; is = s; below = l; word = w; word_is = f; low = eqb-true (w % 256) c g }

    by : (o : Option ℕ) → e.sends ≡ o → IfSome o (λ k. k < 84) → is_low c (option_and_then (word_of column) o) ≡ true
        → SendsWord column c e
    by None s l g = absurd cc
    by (Some k) s l g = word_by k s l (word_of column k) refl g

-- a shift entry sends a shift key, and its break
pub record SendsShift (e : Entry) : Type 0 where
  pub key : ℕ
  pub is : e.sends ≡ Some key
  pub below : key < 84
  pub shifts : is_shift key ≡ true
  pub only : e.make_only ≡ false

not-true : (b : Bool) → not b ≡ true → b ≡ false
not-true true h = absurd cc
not-true false h = refl

sends_shift_key : (e : Entry) → IsEntry e → is_shift_entry e ≡ true → SendsShift e
unfolding is_shift_entry
sends_shift_key e is h =
    by e.sends refl is.sends (and-left (sends_shift e.sends) (not e.make_only) h)
    (not-true e.make_only (and-right (sends_shift e.sends) (not e.make_only) h))
  where
    by : (o : Option ℕ) → e.sends ≡ o → IfSome o (λ k. k < 84) → sends_shift o ≡ true → e.make_only ≡ false
        → SendsShift e
    by None s l g m = absurd cc
    by (Some k) s l g m = record { key = k; is = s; below = l; shifts = g; only = m }

-- a key of the layout that sends a code
key_at : (layout : KeyLayout) → IsKeyLayout layout → (p : Entry → Bool) (e : Entry) (key : ℕ) → Found p layout.entries e
    → e.sends ≡ Some key → IsKeyAt layout e.place (code_of_key key) e.make_only
unfolding code_at is_make_only
key_at layout is p e key f s =
    let code : code_at e.place layout ≡ Some (code_of_key key) =
    ap (λ o. option_map code_of_key (option_and_then base_key o)) f.own ∙ ap (λ o. option_map code_of_key o) s in
    record {
      in_matrix = f.is.place;
      code_is = ap (λ o. unwrap_or o 0) code;
      only_is = ap (λ o. unwrap_or (option_map (λ (x : Entry). x.make_only) o) false) f.own;
      fn_is = sym ((is_silent_at_fn layout is).base e.place (rw f.own refl)) ∙ ap is_none code;
    }

module _ (layout : KeyLayout) (ok : IsKeyLayout layout) (h : KeyHistory) (ss : List Stroke)
    (edges : h.edges ≡ edges_from 0 ss)
    (host : h.host ≡ takes_from 0 ss) (fit : AllFit layout.entries ss) where
  -- at rest after so many strokes, the words that were taken have these characters
  pub record Typed (m : ℕ) (characters : List (Option ℕ)) : Type 0 where
    pub words : List (Option ℕ)
    pub rest : Rest layout h ss edges host fit m words
    pub low : map (option_map low_byte) words ≡ characters

  -- a word more
  with_word_more : (m c w : ℕ) (characters : List (Option ℕ)) (words : List (Option ℕ))
      → map (option_map low_byte) words ≡ characters → w % 256 ≡ c
      → Rest layout h ss edges host fit (suc m) (words ++ Some w ∷ []) → Typed (suc m) (characters ++ Some c ∷ [])
  with_word_more m c w characters words low e r = record {
    words = words ++ Some w ∷ [];
    rest = r;
    low = map-append (option_map low_byte) words (Some w ∷ []) ∙ ap (λ v. v ++ Some (w % 256) ∷ []) low
        ∙ ap (λ n. characters ++ Some n ∷ []) e;
  }

  char_word : (c w : ℕ) → (c == 0) ≡ false → w % 256 ≡ c → (w % 256 == 0) ≡ false
  char_word c w z e = ap (λ n. n == 0) e ∙ z

  -- with or without a debounce
  plain : (m : ℕ) (key : Entry) → slice_get ss m ≡ Some (Plain key) → m < length ss → (code scan w : ℕ) (only : Bool)
      → IsKeyAt layout key.place code only → IsPlain code scan w → (words : List (Option ℕ))
      → Rest layout h ss edges host fit m words → Rest layout h ss edges host fit (suc m) (words ++ Some w ∷ [])
  plain m key is below code scan w only k f words r =
      elim layout.debounce as (λ b. layout.debounce ≡ b → Rest layout h ss edges host fit (suc m) (words ++ Some w ∷ [])) [
        | true ↦ λ on. plain_settled layout h ss edges host fit on m key is below code scan w only k f words r
        | false ↦ λ off. plain_stroke layout h ss edges host fit off m key is below code scan w only k f words r
      ] refl

  shifted_by : (m : ℕ) (shift key : Entry) → slice_get ss m ≡ Some (Shifted shift key) → m < length ss → (left : Bool)
      (code scan code' scan' w : ℕ) (only : Bool) → IsKeyAt layout key.place code only
      → IsKeyAt layout shift.place code' false → key.place ≢ shift.place → AreShifted left code scan code' scan' w
      → (words : List (Option ℕ)) → Rest layout h ss edges host fit m words
      → Rest layout h ss edges host fit (suc m) (words ++ Some w ∷ [])
  shifted_by m shift key is below left code scan code' scan' w only k k' apart f words r =
      elim layout.debounce as (λ b. layout.debounce ≡ b → Rest layout h ss edges host fit (suc m) (words ++ Some w ∷ [])) [
        | true ↦ λ on.
            shifted_settled layout h ss edges host fit on m shift key is below left code scan code' scan' w only k k' apart f
            words r
        | false ↦ λ off.
            shifted_stroke layout h ss edges host fit off m shift key is below left code scan code' scan' w only k k' apart f
            words r
      ] refl

  one_stroke : (m c : ℕ) (s : Stroke) (characters : List (Option ℕ)) → slice_get ss m ≡ Some s → m < length ss
      → Types layout.entries c s → Typed m characters → Typed (suc m) (characters ++ Some c ∷ [])
  one_stroke m c (Plain key) characters at l t r =
      let f : Found (enters base c) layout.entries key = t.is in
      let k : SendsWord base c key = sends_word base c key f.is f.passes in
      let z : (k.word % 256 == 0) ≡ false = char_word c k.word t.some k.low in
      with_word_more m c k.word characters r.words r.low k.low
      (plain m key at l (code_of_key k.key) (scan_at k.key) k.word key.make_only
      (key_at layout ok (enters base c) key k.key f k.is)
      (record {
        no_prefix = no_prefix k.key k.below;
        scan_is = scan_is k.key k.below;
        makes = plain_makes k.key k.word k.below k.word_is z;
        breaks = plain_breaks k.key k.word k.below k.word_is z;
      }) r.words r.rest)
  one_stroke m c (Shifted shift key) characters at l t r =
      let u : IsUnderShift layout.entries c shift key = t.is in
      let k : SendsWord shifted c key = sends_word shifted c key u.of_key.is u.of_key.passes in
      let j : SendsShift shift = sends_shift_key shift u.of_shift.is u.of_shift.passes in
      let z : (k.word % 256 == 0) ≡ false = char_word c k.word t.some k.low in
      let apart : key.place ≢ shift.place = λ e.
      let a : (shift.place == key.place) ≡ true = ap (λ n. shift.place == n) e ∙ same_place shift.place in
      absurd (cc (a, apart_of layout.entries c shift key u)) in
      with_word_more m c k.word characters r.words r.low k.low
      (shifted_by m shift key at l (is_left j.key) (code_of_key k.key) (scan_at k.key)
      (code_of_key j.key) (scan_at j.key) k.word key.make_only
      (key_at layout ok (enters shifted c) key k.key u.of_key k.is)
      (subst (λ b. IsKeyAt layout shift.place (code_of_key j.key) b) j.only
      (key_at layout ok is_shift_entry shift j.key u.of_shift j.is))
      apart
      (record {
        no_prefix = no_prefix k.key k.below;
        scan_is = scan_is k.key k.below;
        no_prefix' = no_prefix j.key j.below;
        scan_is' = scan_is j.key j.below;
        makes' = shift_makes j.key j.below j.shifts;
        makes = shifted_makes (is_left j.key) k.key k.word k.below k.word_is z;
        breaks = shifted_breaks (is_left j.key) k.key k.word k.below k.word_is z;
        ends = shifted_ends (is_left j.key) k.key k.word k.below k.word_is z;
        breaks' = shift_breaks j.key j.below j.shifts;
      }) r.words r.rest)

  -- the characters of a text
  abbrev characters_of : List ℕ → List (Option ℕ)
  characters_of text = map (λ byte. Some (character byte)) text

  -- the rest of a text, where its strokes are after so many others
  strokes_on : (m : ℕ) (text : List ℕ) (more : List Stroke) (characters : List (Option ℕ))
      → AreStrokes layout.entries text more
      → ((i : ℕ) → slice_get more i ≡ slice_get ss (i + m)) → m + length more ≡ length ss → Typed m characters
      → Typed (length ss) (characters ++ characters_of text)
  strokes_on m [] [] characters a at l r =
      let e : m ≡ length ss = omega (arith, l) in
      subst (λ v. Typed v (characters ++ [])) e (subst (λ v. Typed m v) (sym (append-nil characters)) r)
  strokes_on m [] (s ∷ more) characters a at l r = absurd a
  strokes_on m (byte ∷ text) [] characters a at l r = absurd a
  strokes_on m (byte ∷ text) (s ∷ more) characters a at l r =
      let y : 0 + m ≡ m = omega arith in
      let here : slice_get ss m ≡ Some s = ap (λ i. slice_get ss i) (sym y) ∙ sym (at 0) in
      subst (λ v. Typed (length ss) v) (append_assoc characters (Some (character byte) ∷ []) (characters_of text))
      (strokes_on (suc m) text more (characters ++ Some (character byte) ∷ []) a.1
      (λ i. let x : suc i + m ≡ i + suc m = omega arith in at (suc i) ∙ ap (λ v. slice_get ss v) x)
      (omega (arith, l))
      (one_stroke m (character byte) s characters here (omega (arith, l)) a.0 r))

  -- after all strokes of a text the words that were taken have its characters
  pub all_typed : (text : List ℕ) → AreStrokes layout.entries text ss → Typed (length ss) (characters_of text)
  all_typed text a =
      strokes_on 0 text ss [] a (λ i. let x : i ≡ i + 0 = omega arith in ap (λ v. slice_get ss v) x) (omega arith)
      (record { words = []; rest = at_rest layout h ss edges host fit; low = refl })

  -- so the quiet log says the text
  pub log_says : (text : List ℕ) → IsQuiet h → last_even h.end ≡ 80 + 10 * length ss → AreStrokes layout.entries text ss
      → Says text (quiet_log layout h)
  log_says text quiet ends a =
      let t : Typed (length ss) (characters_of text) = all_typed text a in
      let e : calm_lines (keyboard layout) h (80 + 10 * length ss) ≡ quiet_log layout h =
      ap (λ n. calm_lines (keyboard layout) h n) (sym ends)
      ∙ sym (expected_is (keyboard layout) h quiet even (last_even h.end) (λ n l. even_law.cadence n)) in
      subst (λ v. Says text v) e (record
      { nothing_lost = t.rest.is.kept; taken = ap (λ v. map (option_map low_byte) v) t.rest.is.taken_so_far ∙ t.low })

-- the log of the strokes of a text says the text
pub strokes_say_text : StrokesSayText
unfolding planned
strokes_say_text layout text ss is l h =
    let a : AreStrokes layout.entries text ss = strokes_are layout is text ss h in
    let fit : AllFit layout.entries ss = all_fit layout.entries text ss a in
    let few : length ss ≤ 10000 = omega (arith, l, lengths layout.entries text ss a) in
    let ends : last_even (stroke_start (length ss)) ≡ 80 + 10 * length ss = omega arith in
    log_says layout is (planned ss) ss refl refl fit text (playable layout ss fit few).quiet ends a
