-- Keys of the sample layout: each is at the place of its number.
use Rattle.std.proofs.Common.{◌≡◌, ◌≤◌, ◌<◌, ℕ, zero, suc, ◌+◌, Bool, true, false, ◌==◌, List, Some, None, map, refl, ap, arith}
use Rattle.std.specs.Prelude.{cond, find, option_map}
use Rattle.std.specs.List.{range_with_len}
use Rattle.std.specs.declared.option.Option.{Option}
use Rattle.std.proofs.lemmas.Bool.Decides.{nat_tests}
use Rattle.layout_reader.proofs.Laws.{key_range}
use Rattle.layout_reader.specs.declared.entry.Entry.{Entry}
use Rattle.layout_reader.specs.Layouts.{place_of, sample_entry, us84}
use Rattle.pc_tables.specs.Keys.{key_with_name}
use Rattle.kbd48_c.specs.Names.{place_named, place_of_key}

-- among the entries of so many keys from one on, that of a key
entry_found : (n from key : ℕ) → from ≤ key → key < from + n
    → find (λ (entry : Entry). entry.key == key) (map sample_entry (range_with_len from n)) ≡ Some (sample_entry key)
entry_found zero from key least most = absurd (omega (arith, least, most))
entry_found (suc n) from key least most =
    by (from == key) refl (λ later. entry_found n (from + 1) key later (omega (arith, most)))
  where
    by : (b : Bool) → (from == key) ≡ b
        → (from + 1 ≤ key
        → find (λ (entry : Entry). entry.key == key) (map sample_entry (range_with_len (from + 1) n)) ≡ Some (sample_entry key))
        → cond b (Some (sample_entry from)) (find (λ (entry : Entry). entry.key == key) (map sample_entry (range_with_len (from + 1) n)))
        ≡ Some (sample_entry key)
    by true e more = let same : from ≡ key = grind (arith, nat_tests, e) in ap (λ k. Some (sample_entry k)) same
    by false e more = more (grind (arith, nat_tests, e, least))

place_found : (key : ℕ) → key < 84 → place_of key us84 ≡ Some key
unfolding us84 place_of
place_found key most = ap (option_map (λ (entry : Entry). entry.place)) (entry_found 84 0 key (omega arith) (omega (arith, most)))

-- a name's place in the sample layout is the number of its key
pub sample_places : (name : List ℕ) → place_named name us84 ≡ key_with_name name
sample_places name = by (key_with_name name) refl
  where
    by : (o : Option ℕ) → key_with_name name ≡ o → place_of_key o us84 ≡ o
    by None e = refl
    by (Some key) e = place_found key (key_range name key e)
