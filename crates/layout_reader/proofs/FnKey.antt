-- The Fn key's place is the one of the layout that has no code.
use Rattle.std.proofs.Common.{◌≡◌, ℕ, suc, ◌≤◌, Bool, true, false, cond, ◌==◌, List, [], ◌∷◌, length, find, option_map}
use Rattle.std.proofs.Common.{Some, None, refl, ap, sym, ◌∙◌, arith}
use Rattle.std.specs.Prelude.{All, Option, IsSome, is_none, nat_eq, option_and_then}
use Rattle.std.specs.List.{IsDistinct, AllByRecursion, filter}
use Rattle.std.proofs.lemmas.Bool.{eqb-true}
use Rattle.pc_tables.specs.Keys.{code_at as code_of_key}
use Rattle.layout_reader.specs.declared.entry.Entry.{Entry}
use Rattle.layout_reader.specs.Entries.{IsEntry, is_fn}
use Rattle.layout_reader.specs.Layouts.{KeyLayout, IsKeyLayout, places_of, entry_at, base_key, fn_key, code_at, fn_code_at}
use Rattle.layout_reader.specs.Layouts.{fn_place, is_place, HasEntry, IsSilentAtFn}
use Rattle.layout_reader.proofs.Laws.{eqb-swap}

-- the place of the first Fn key of a list; whether the entry at a place has no code
abbrev place_in : List Entry → Option ℕ
place_in es = option_map (λ entry. entry.place) (find is_fn es)

abbrev is_silent : List Entry → ℕ → Bool
is_silent es p = is_none (option_map code_of_key (option_and_then base_key (entry_at p es)))

silent_of : (s : Option ℕ) → is_none (option_map code_of_key s) ≡ is_none s
silent_of (Some k) = refl
silent_of None = refl

-- where no entry is the Fn key's there is no such place
none_in : (es : List Entry) → length (filter is_fn es) ≤ 0 → place_in es ≡ None
none_in [] h = refl
none_in (e ∷ es) h = by (is_fn e) h (none_in es)
  where
    by : (b : Bool) → length (cond b (e ∷ filter is_fn es) (filter is_fn es)) ≤ 0 → (length (filter is_fn es) ≤ 0 → place_in es ≡ None)
        → option_map (λ (x : Entry). x.place) (cond b (Some e) (find is_fn es)) ≡ None
    by true g more = absurd (omega (arith, g))
    by false g more = more g

-- and it isn't at a place that no entry has
elsewhere : (q : ℕ) (es : List Entry) → AllByRecursion (λ y. nat_eq q y ≡ false) (places_of es) → is_place (place_in es) q ≡ false
elsewhere q [] h = refl
elsewhere q (e ∷ es) h = by (is_fn e) (elsewhere q es h.1)
  where
    by : (b : Bool) → is_place (place_in es) q ≡ false
        → is_place (option_map (λ (x : Entry). x.place) (cond b (Some e) (find is_fn es))) q ≡ false
    by true more = eqb-swap e.place q ∙ h.0
    by false more = more

-- of the places that entries have, the Fn key's is the one without a code
silent_in : (es : List Entry) (p : ℕ) → IsDistinct nat_eq (places_of es) → length (filter is_fn es) ≤ 1 → IsSome (entry_at p es)
    → is_silent es p ≡ is_place (place_in es) p
unfolding IsDistinct
silent_in [] p own one has = absurd cc
silent_in (e ∷ es) p own one has = at (e.place == p) refl (is_fn e) refl one has (silent_in es p own.1)
  where
    here : (b : Bool) → (e.place == p) ≡ true → is_fn e ≡ b
        → is_none (option_map code_of_key (base_key e)) ≡ is_place (option_map (λ (x : Entry). x.place) (cond b (Some e) (find is_fn es))) p
    here true same f = silent_of e.sends ∙ f ∙ sym same
    here false same f =
        let q : e.place ≡ p = eqb-true e.place p same in
        silent_of e.sends ∙ f ∙ sym (ap (λ n. is_place (place_in es) n) (sym q) ∙ elsewhere e.place es own.0)

    there : (b : Bool) → (e.place == p) ≡ false → length (cond b (e ∷ filter is_fn es) (filter is_fn es)) ≤ 1
        → (length (filter is_fn es) ≤ 1 → is_silent es p ≡ is_place (place_in es) p)
        → is_silent es p ≡ is_place (option_map (λ (x : Entry). x.place) (cond b (Some e) (find is_fn es))) p
    there true other few more =
        more (omega (arith, few)) ∙ ap (λ o. is_place o p) (none_in es (omega (arith, few))) ∙ sym other
    there false other few more = more few

    at : (a : Bool) → (e.place == p) ≡ a → (b : Bool) → is_fn e ≡ b → length (cond b (e ∷ filter is_fn es) (filter is_fn es)) ≤ 1
        → IsSome (cond a (Some e) (entry_at p es))
        → (length (filter is_fn es) ≤ 1 → IsSome (entry_at p es) → is_silent es p ≡ is_place (place_in es) p)
        → is_none (option_map code_of_key (option_and_then base_key (cond a (Some e) (entry_at p es))))
        ≡ is_place (option_map (λ (x : Entry). x.place) (cond b (Some e) (find is_fn es))) p
    at true same b f few has' more = here b same f
    at false other b f few has' more = there b other few (λ l. more l has')

-- an entry has a code in both layers or in none
same_in : (es : List Entry) (p : ℕ) → All IsEntry es
    → is_none (option_map code_of_key (option_and_then fn_key (entry_at p es))) ≡ is_silent es p
same_in [] p each = refl
same_in (e ∷ es) p each = at (e.place == p) (same_in es p (λ k d l. each (suc k) d (omega (arith, l))))
  where
    at : (a : Bool) → is_none (option_map code_of_key (option_and_then fn_key (entry_at p es))) ≡ is_silent es p
        → is_none (option_map code_of_key (option_and_then fn_key (cond a (Some e) (entry_at p es))))
        ≡ is_none (option_map code_of_key (option_and_then base_key (cond a (Some e) (entry_at p es))))
    at true more =
        let own : IsEntry e = each 0 e (omega arith) in
        silent_of e.fn_sends ∙ own.both ∙ sym (silent_of e.sends)
    at false more = more

-- the Fn key's place is the one place of a layout that has no code
pub is_silent_at_fn : (layout : KeyLayout) → IsKeyLayout layout → IsSilentAtFn layout
unfolding code_at fn_code_at fn_place
is_silent_at_fn layout is = record {
  base = λ p has. silent_in layout.entries p is.entries.own_places is.entries.one_fn has;
  under_fn = λ p. same_in layout.entries p is.entries.each;
}

-- a place with a code is one of the layout's
pub has_entry : (layout : KeyLayout) (place : ℕ) → IsSome (code_at place layout) → HasEntry layout place
unfolding code_at
has_entry layout place has = by (entry_at place layout.entries) has
  where
    by : (o : Option Entry) → IsSome (option_map code_of_key (option_and_then base_key o)) → IsSome o
    by (Some e) h = refl
    by None h = h
