-- Laws of the entries of a layout.
use Rattle.std.proofs.Common.{◌≡◌, ℕ, zero, suc, ◌+◌, ◌<◌, ◌≤◌, Bool, true, false, ◌==◌, ◌||◌, eqb, List, []}
use Rattle.std.proofs.Common.{◌∷◌, ◌++◌, map, length, Some, refl, ap, ◌∙◌, arith, subst, ◌&&◌}
use Rattle.std.specs.Prelude.{All, cond}
use Rattle.std.specs.List.{IsDistinct, list_any, filter, range_with_len}
use Rattle.std.specs.Cmp.{nat_eq_equiv}
use Rattle.std.proofs.lemmas.List.{map-append, append-nil}
use Rattle.std.proofs.lemmas.List.Elements.{All-push, All-nil, filter-append}
use Rattle.std.proofs.lemmas.List.FromFn.{map-range_with_len_more}
use Rattle.std.proofs.lemmas.List.Quantifiers.{position-Some}
use Rattle.std.proofs.lemmas.Map.Keys.{IsDistinct-push}
use Rattle.std.proofs.lemmas.Map.Steps.{length-le_from_distinct_below}
use Rattle.std.proofs.lemmas.Bool.Decides.{nat_tests}
use Rattle.pc_tables.specs.Keys.{Row, row, keys, key_with_name}
use Rattle.pc_tables.proofs.KeyLaws.{key_count}
use Rattle.std.specs.Str.{bytes_eq}
use Rattle.layout_reader.specs.declared.entry.Entry.{Entry}
use Rattle.layout_reader.specs.Entries.{IsEntry, is_fn, is_place_taken, is_key_named, has_fn}
use Rattle.layout_reader.specs.Layouts.{AreEntries, places_of, keys_of, sample_entry}

-- a key that has a name is one of the 84
pub key_range : (name : List ℕ) (key : ℕ) → key_with_name name ≡ Some key → key < 84
key_range name key h =
    let found = position-Some (λ (k : Row). bytes_eq k.name name) keys key (row [] 0 0) h in omega (arith, found.0, key_count)

-- two numbers are equal in either order
pub eqb-swap : (a b : ℕ) → eqb a b ≡ eqb b a
eqb-swap a b = grind (arith, nat_tests)

-- the entry's field is among the numbers of the list exactly where an entry has it
among : (f : Entry → ℕ) (n : ℕ) (entries : List Entry) → list_any (eqb n) (map f entries) ≡ list_any (λ entry. f entry == n) entries
among f n [] = refl
among f n (e ∷ es) = rw (eqb-swap n (f e), among f n es) refl

-- where there is no Fn key, none is among the entries
fn_none : (entries : List Entry) → list_any is_fn entries ≡ false → filter is_fn entries ≡ []
fn_none [] h = refl
fn_none (e ∷ es) h = by (is_fn e) h (fn_none es)
  where
    by : (b : Bool) → (b || list_any is_fn es) ≡ false → (list_any is_fn es ≡ false → filter is_fn es ≡ [])
        → cond b (e ∷ filter is_fn es) (filter is_fn es) ≡ []
    by true g more = absurd cc
    by false g more = more g

-- one more Fn key, where there was none
fn_one : (entries : List Entry) (entry : Entry) → length (filter is_fn entries) ≤ 1 → (is_fn entry && list_any is_fn entries) ≡ false
    → length (filter is_fn (entries ++ entry ∷ [])) ≤ 1
fn_one entries entry few h = rw (filter-append is_fn entries (entry ∷ [])) (by (is_fn entry) h)
  where
    by : (b : Bool) → (b && list_any is_fn entries) ≡ false → length (filter is_fn entries ++ cond b (entry ∷ []) []) ≤ 1
    by true g = rw (fn_none entries g) (omega arith)
    by false g = rw (append-nil (filter is_fn entries)) few

-- one more entry, whose place and key are new, and which is no second Fn key
pub AreEntries-push : (entries : List Entry) (entry : Entry) → AreEntries entries → IsEntry entry
    → is_place_taken entries entry.place ≡ false
    → is_key_named entries entry.key ≡ false → (is_fn entry && has_fn entries) ≡ false → AreEntries (entries ++ entry ∷ [])
unfolding is_place_taken is_key_named has_fn
AreEntries-push entries entry before sound place key one = record {
  each = All-push IsEntry entries entry before.each sound;
  own_places = rw (map-append (λ (e : Entry). e.place) entries (entry ∷ []))
      (IsDistinct-push nat_eq_equiv (places_of entries) entry.place before.own_places
      (among (λ (e : Entry). e.place) entry.place entries ∙ place));
  own_keys = rw (map-append (λ (e : Entry). e.key) entries (entry ∷ []))
      (IsDistinct-push nat_eq_equiv (keys_of entries) entry.key before.own_keys (among (λ (e : Entry). e.key) entry.key entries ∙ key));
  one_fn = fn_one entries entry before.one_fn one;
}

-- a layout without entries has none that breaks a rule
pub AreEntries-nil : AreEntries []
unfolding IsDistinct
AreEntries-nil = record { each = All-nil IsEntry; own_places = tt; own_keys = tt; one_fn = omega arith }

or-cases : (a b : Bool) → (a || b) ≡ true → (a ≡ false → b ≡ true)
or-cases true b h e = absurd cc
or-cases false b h e = h

-- a number that an entry has as its key is a key
key-below : (entries : List Entry) → All IsEntry entries → (q : ℕ) → list_any (eqb q) (keys_of entries) ≡ true → q < 84
key-below [] each q h = absurd cc
key-below (e ∷ es) each q h =
    elim (eqb q e.key) as (λ b. eqb q e.key ≡ b → q < 84) [
      | true ↦ λ same. let at : IsEntry e = each 0 e (omega arith) in grind (arith, nat_tests, at.key)
      | false ↦ λ other. key-below es (λ k d l. each (suc k) d (omega arith)) q (or-cases (eqb q e.key) _ h other)
    ] refl

length-map_entries : (entries : List Entry) → length (keys_of entries) ≡ length entries
length-map_entries [] = refl
length-map_entries (e ∷ es) = ap suc (length-map_entries es)

-- no key is twice, so there are 84 entries at most
pub entries_limit : (entries : List Entry) → AreEntries entries → length entries ≤ 84
entries_limit entries sound =
    let few = length-le_from_distinct_below (keys_of entries) 84 sound.own_keys (key-below entries sound.each) in
    subst (λ n. n ≤ 84) (length-map_entries entries) few

-- in the sample layout no number below n has the place or the key n
apart : (f : Entry → ℕ) → ((k : ℕ) → f (sample_entry k) ≡ k) → (a n q : ℕ) → a + n ≤ q
    → list_any (λ entry. f entry == q) (map sample_entry (range_with_len a n)) ≡ false
apart f own a zero q h = refl
apart f own a (suc n) q h =
    let other : eqb (f (sample_entry a)) q ≡ false = rw (own a) (grind (arith, nat_tests)) in
    rw other (apart f own (a + 1) n q (omega arith))

-- the entries of the sample layout are sound
pub sample-sound : (n : ℕ) → n ≤ 84 → AreEntries (map sample_entry (range_with_len 0 n))
unfolding is_place_taken is_key_named
sample-sound zero h = AreEntries-nil
sample-sound (suc n) h =
    let before = sample-sound n (omega arith) in
    let next : n + 1 ≡ suc n = omega arith in
    subst (λ m. AreEntries (map sample_entry (range_with_len 0 m))) next
    (rw (map-range_with_len_more sample_entry 0 n n (omega arith))
    (AreEntries-push _ (sample_entry n) before
    (record { place = omega arith; key = omega arith; sends = omega arith; fn_sends = omega arith; both = refl; of_fn = refl })
    (apart (λ (e : Entry). e.place) (λ k. refl) 0 n n (omega arith)) (apart (λ (e : Entry). e.key) (λ k. refl) 0 n n (omega arith)) refl))
