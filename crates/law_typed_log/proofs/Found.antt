-- The entry of a layout that a search finds.
use Rattle.std.proofs.Common.{◌≡◌, ℕ, Bool, true, false, cond, ◌==◌, List, [], ◌∷◌, find, Some, refl, ap, sym, ◌∙◌, subst, arith}
use Rattle.std.specs.Prelude.{All, nat_eq}
use Rattle.std.specs.List.{IsDistinct, AllByRecursion}
use Rattle.std.proofs.lemmas.Bool.Decides.{nat_tests}
use Rattle.std.proofs.lemmas.List.Elements.{All-head, All-tail}
use Rattle.layout_reader.specs.declared.entry.Entry.{Entry}
use Rattle.layout_reader.specs.Entries.{IsEntry}
use Rattle.layout_reader.specs.Layouts.{AreEntries, places_of, entry_at}

-- a place is equal to itself
pub same_place : (n : ℕ) → (n == n) ≡ true
same_place n = grind (arith, nat_tests)

module _ (p : Entry → Bool) (e : Entry) where
  -- what is found passes
  passes_in : (es : List Entry) → find p es ≡ Some e → p e ≡ true
  passes_in [] f = absurd cc
  passes_in (x ∷ es) f = by (p x) refl f (passes_in es)
    where
      by : (b : Bool) → p x ≡ b → cond b (Some x) (find p es) ≡ Some e → (find p es ≡ Some e → p e ≡ true)
          → p e ≡ true
      by true h g more = let s : x ≡ e = cc in ap (λ v. p v) (sym s) ∙ h
      by false h g more = more g

  -- it is one of the entries
  entry_in : (es : List Entry) → All IsEntry es → find p es ≡ Some e → IsEntry e
  entry_in [] all f = absurd cc
  entry_in (x ∷ es) all f = by (p x) f (entry_in es (All-tail IsEntry x es all))
    where
      by : (b : Bool) → cond b (Some x) (find p es) ≡ Some e → (find p es ≡ Some e → IsEntry e) → IsEntry e
      by true g more = let s : x ≡ e = cc in subst IsEntry s (All-head IsEntry x es all)
      by false g more = more g

  -- and so is its place
  place_in : (q : ℕ) (es : List Entry) → AllByRecursion (λ y. nat_eq q y ≡ false) (places_of es) → find p es ≡ Some e
      → (q == e.place) ≡ false
  place_in q [] own f = absurd cc
  place_in q (x ∷ es) own f = by (p x) f (place_in q es own.1)
    where
      by : (b : Bool) → cond b (Some x) (find p es) ≡ Some e → (find p es ≡ Some e → (q == e.place) ≡ false)
          → (q == e.place) ≡ false
      by true g more = let s : x ≡ e = cc in ap (λ (v : Entry). q == v.place) (sym s) ∙ own.0
      by false g more = more g

  -- no other entry has the place
  own_in : (es : List Entry) → IsDistinct nat_eq (places_of es) → find p es ≡ Some e → entry_at e.place es ≡ Some e
  unfolding IsDistinct
  own_in [] own f = absurd cc
  own_in (x ∷ es) own f = by (p x) f (own_in es own.1)
    where
      by : (b : Bool) → cond b (Some x) (find p es) ≡ Some e → (find p es ≡ Some e → entry_at e.place es ≡ Some e)
          → cond (x.place == e.place) (Some x) (entry_at e.place es) ≡ Some e
      by true g more =
          let s : x ≡ e = cc in
          ap (λ (v : Entry). cond (x.place == v.place) (Some x) (entry_at v.place es)) (sym s)
          ∙ ap (λ b. cond b (Some x) (entry_at x.place es)) (same_place x.place) ∙ ap (λ v. Some v) s
      by false g more =
          ap (λ b. cond b (Some x) (entry_at e.place es)) (place_in x.place es own.0 g) ∙ more g

-- what a search finds is an entry of the layout, the one at its place, and passes
pub record Found (p : Entry → Bool) (es : List Entry) (e : Entry) : Type 0 where
  pub passes : p e ≡ true
  pub is : IsEntry e
  pub own : entry_at e.place es ≡ Some e

-- what a search finds in a layout passes the test and is the entry at its place
pub found : (p : Entry → Bool) (e : Entry) (es : List Entry) → AreEntries es → find p es ≡ Some e → Found p es e
found p e es are f =
    record { passes = passes_in p e es f; is = entry_in p e es are.each f; own = own_in p e es are.own_places f }
