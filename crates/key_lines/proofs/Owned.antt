-- An entry of a layout, found by the name of its key.
use Rattle.std.proofs.Common.{◌≡◌, ℕ, ◌<◌, Bool, true, false, cond, ◌==◌, List, [], ◌∷◌, find, Some, ap, sym, ◌∙◌, arith}
use Rattle.std.specs.Prelude.{nat_eq, option_and_then}
use Rattle.std.specs.List.{IsDistinct, AllByRecursion}
use Rattle.std.specs.Option.{option_map}
use Rattle.std.proofs.lemmas.Bool.Decides.{nat_tests}
use Rattle.pc_tables.specs.Keys.{name_at}
use Rattle.pc_tables.proofs.KeyLaws.{own-name}
use Rattle.layout_reader.specs.declared.entry.Entry.{Entry}
use Rattle.layout_reader.specs.Layouts.{KeyLayout, IsKeyLayout, keys_of, entry_at, entry_of_key, place_of}
use Rattle.key_file.specs.Fields.{place_named}

same_key : (n : ℕ) → (n == n) ≡ true
same_key n = grind (arith, nat_tests)

module _ (p : Entry → Bool) (e : Entry) where
  -- what is found has a key that no entry before it has
  key_in : (q : ℕ) (es : List Entry) → AllByRecursion (λ y. nat_eq q y ≡ false) (keys_of es) → find p es ≡ Some e → (q == e.key) ≡ false
  key_in q [] own f = absurd cc
  key_in q (x ∷ es) own f = by (p x) f (key_in q es own.1)
    where
      by : (b : Bool) → cond b (Some x) (find p es) ≡ Some e → (find p es ≡ Some e → (q == e.key) ≡ false) → (q == e.key) ≡ false
      by true g more = let s : x ≡ e = cc in ap (λ (v : Entry). q == v.key) (sym s) ∙ own.0
      by false g more = more g

  -- so it is found by its key
  own_key : (es : List Entry) → IsDistinct nat_eq (keys_of es) → find p es ≡ Some e → entry_of_key e.key es ≡ Some e
  unfolding IsDistinct
  own_key [] own f = absurd cc
  own_key (x ∷ es) own f = by (p x) f (own_key es own.1)
    where
      by : (b : Bool) → cond b (Some x) (find p es) ≡ Some e → (find p es ≡ Some e → entry_of_key e.key es ≡ Some e)
          → cond (x.key == e.key) (Some x) (entry_of_key e.key es) ≡ Some e
      by true g more =
          let s : x ≡ e = cc in
          ap (λ (v : Entry). cond (x.key == v.key) (Some x) (entry_of_key v.key es)) (sym s)
          ∙ ap (λ b. cond b (Some x) (entry_of_key x.key es)) (same_key x.key) ∙ ap (λ v. Some v) s
      by false g more =
          ap (λ b. cond b (Some x) (entry_of_key e.key es)) (key_in x.key es own.0 g) ∙ more g

-- an entry whose key's name names its place
pub record IsOwn (layout : KeyLayout) (e : Entry) : Type 0 where
  pub key : e.key < 84
  pub place : place_named layout (name_at e.key) ≡ Some e.place

-- the entry that a layout has at its own place is found by the name of its key
pub own-entry : (layout : KeyLayout) (e : Entry)
    → IsKeyLayout layout → e.key < 84 → entry_at e.place layout.entries ≡ Some e → IsOwn layout e
unfolding place_of
own-entry layout e is key found = record {
  key = key;
  place =
      ap (option_and_then (λ key. place_of key layout)) (own-name e.key key)
      ∙ ap (option_map (λ (entry : Entry). entry.place)) (own_key (λ y. y.place == e.place) e layout.entries is.entries.own_keys found);
}
