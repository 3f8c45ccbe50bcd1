-- What the program keeps: names in a map, and values in a text.
use Rattle.std.proofs.Common.{◌≡◌, ℕ, Bool, true, false, cond, List, [], ◌∷◌, map, Some, None}
use Rattle.std.proofs.Common.{is_some, unwrap_or, Option, refl, ap, sym, ◌∙◌}
use Rattle.std.specs.Option.{option_or, option_map, option_and_then, option_copied}
use Rattle.std.specs.Borrow.{Bor}
use Rattle.std.specs.Str.{bytes_eq}
use Rattle.std.specs.Map.{lookup}
use Rattle.std.proofs.lemmas.Slice.Eq.{bytes_eq-Decides}
use Rattle.indexmap.specs.IndexMap.{insert_entry}
use Rattle.mcs48_asm.specs.Tokens.{tokens_of}
use Rattle.mcs48_asm.specs.Values.{Value, Number, value_of}
use Rattle.mcs48_asm.specs.Statements.{Data, values_of}
use Rattle.mcs48_asm.specs.Capped.{value_capped, statement_capped}
use Rattle.mcs48_asm.specs.Kept.{kept_value, kept_part}

-- a name in the map has the value that is kept for it
pub lookup-kept : (entries : List (Bor (List ℕ) × ℕ)) (name : List ℕ)
    → lookup (λ (key : Bor (List ℕ)). bytes_eq name key.now) entries ≡ kept_value entries name
lookup-kept [] name = refl
lookup-kept (entry ∷ entries) name = ap (cond (bytes_eq name entry.0.now) (Some entry.1)) (lookup-kept entries name)

absent_test : (b : Bool) (x : ℕ) (o : Option ℕ) → cond b (Some x) o ≡ None → (b ≡ false) × (o ≡ None)
absent_test true x o h = absurd (cc)
absent_test false x o h = (refl, h)

or_cond : (t : Bool) (x : ℕ) (o p z : Option ℕ) → p ≡ option_or o z → cond t (Some x) p ≡ option_or (cond t (Some x) o) z
or_cond true x o p z h = refl
or_cond false x o p z h = h

-- a new name goes last
pub kept_value-insert : (entries : List (Bor (List ℕ) × ℕ)) (key : Bor (List ℕ)) (value : ℕ) (other : List ℕ)
    → kept_value entries key.now ≡ None
    → kept_value (insert_entry (λ (a : Bor (List ℕ)) (b : Bor (List ℕ)). bytes_eq a.now b.now) entries key value)
    other ≡ option_or (kept_value entries other) (cond (bytes_eq other key.now) (Some value) None)
kept_value-insert [] key value other h = refl
kept_value-insert (entry ∷ entries) key value other h =
    let absent = absent_test (bytes_eq key.now entry.0.now) entry.1 (kept_value entries key.now) h in
    rw absent.0 (or_cond (bytes_eq other entry.0.now) entry.1 (kept_value entries other) _ _
    (kept_value-insert entries key value other absent.1))

or_some : (o z : Option ℕ) → is_some o ≡ true → o ≡ option_or o z
or_some (Some x) z h = refl
or_some None z h = absurd (cc)

or_none : (o : Option ℕ) → o ≡ option_or o None
or_none (Some x) = refl
or_none None = refl

-- to add a value for a name that has one changes no name's value
pub present : (entries : List (Bor (List ℕ) × ℕ)) (name other : List ℕ) (value : ℕ) (b : Bool)
    → (b ≡ true → other ≡ name) → is_some (kept_value entries name) ≡ true
    → kept_value entries other ≡ option_or (kept_value entries other) (cond b (Some value) None)
present entries name other value true same h =
    or_some (kept_value entries other) (Some value) (ap (λ q. is_some (kept_value entries q)) (same refl) ∙ h)
present entries name other value false same h = or_none (kept_value entries other)

-- texts that compare alike are one
pub same_bytes : (xs ys : List ℕ) → bytes_eq xs ys ≡ true → xs ≡ ys
same_bytes xs ys h = (bytes_eq-Decides xs ys).0 h

-- what a look-up says of the names kept
pub none_kept : (found : Option (Bor ℕ)) (entries : List (Bor (List ℕ) × ℕ)) (name : List ℕ)
    → option_copied found ≡ kept_value entries name → is_some found ≡ false → kept_value entries name ≡ None
none_kept None entries name h k = sym h
none_kept (Some x) entries name h k = absurd (cc)

-- if the map finds a name, a value is kept for it
pub some_kept : (found : Option (Bor ℕ)) (entries : List (Bor (List ℕ) × ℕ)) (name : List ℕ)
    → option_copied found ≡ kept_value entries name → is_some found ≡ true → is_some (kept_value entries name) ≡ true
some_kept None entries name h k = absurd (cc)
some_kept (Some x) entries name h k = sym (ap is_some h)

-- the parts of a text that all write values give those values
abbrev part_of : List ℕ → Value
part_of text = unwrap_or (value_of (tokens_of text)) (Number 0)

values_of-parts : (parts : List (List ℕ)) → is_some (values_of (map tokens_of parts)) ≡ true
    → values_of (map tokens_of parts) ≡ Some (map part_of parts)
values_of-parts [] h = refl
values_of-parts (part ∷ parts) h =
    more (value_of (tokens_of part)) (values_of (map tokens_of parts)) (map part_of parts) h (values_of-parts parts)
  where
    more : (o : Option Value) (os : Option (List Value)) (vs : List Value)
        → is_some (option_and_then (λ v. option_map (λ vs. v ∷ vs) os) o) ≡ true → (is_some os ≡ true → os ≡ Some vs)
        → option_and_then (λ v. option_map (λ vs. v ∷ vs) os) o ≡ Some (unwrap_or o (Number 0) ∷ vs)
    more None os vs h k = absurd (cc)
    more (Some v) None vs h k = absurd (cc)
    more (Some v) (Some ws) vs h k = ap (λ os. option_map (λ vs. v ∷ vs) os) (k refl)

kept_parts : (parts : List (List ℕ)) → map kept_part parts ≡ map value_capped (map part_of parts)
kept_parts [] = refl
kept_parts (part ∷ parts) = ap (λ more. kept_part part ∷ more) (kept_parts parts)

-- if all parts of a DB line write values, the kept values are the line's data
pub data-kept : (parts : List (List ℕ)) → is_some (values_of (map tokens_of parts)) ≡ true
    → Some (Data (map kept_part parts)) ≡ option_map statement_capped (option_map Data (values_of (map tokens_of parts)))
data-kept parts h =
    ap (λ values. Some (Data values)) (kept_parts parts)
    ∙ sym (ap (λ values. option_map statement_capped (option_map Data values)) (values_of-parts parts h))

-- if a part of a DB line writes no value, the line has no data
pub data-none : (values : Option (List Value)) → is_some values ≡ false → None ≡ option_map statement_capped (option_map Data values)
data-none None h = refl
data-none (Some x) h = absurd (cc)
