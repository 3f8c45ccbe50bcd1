-- One line more.
use Rattle.std.proofs.Common.{◌≡◌, ℕ, ◌-◌, ◌||◌, Bool, true, false, cond, List, [], ◌∷◌, ◌++◌}
use Rattle.std.proofs.Common.{Some, Option, refl, ap, ◌∙◌, slice_index, append-nil}
use Rattle.std.specs.List.{find}
use Rattle.std.specs.Option.{option_or, option_map}
use Rattle.std.specs.Str.{bytes_eq}
use Rattle.std.proofs.lemmas.Bool.{or_parts}
use Rattle.std.proofs.lemmas.Grind.{flat_map-append}
use Rattle.mcs48_asm.specs.Names.{Definition, Meanings, defined, definitions, value_named, bytes_of}
use Rattle.mcs48_asm.specs.Places.{Placed, covers, is_filled}
use Rattle.mcs48_asm.specs.Assembly.{byte_at}

or_cond : (t : Bool) (x : ℕ) (o z p : Option ℕ) → p ≡ option_or o z → cond t (Some x) p ≡ option_or (cond t (Some x) o) z
or_cond true x o z p h = refl
or_cond false x o z p h = h

value_named-append : (xs ys : List Definition) (name : List ℕ)
    → value_named (xs ++ ys) name ≡ option_or (value_named xs name) (value_named ys name)
value_named-append [] ys name = refl
value_named-append (x ∷ xs) ys name = first (bytes_eq name x.name) xs ys name x (value_named-append xs ys name)
  where
    first : (t : Bool) (xs ys : List Definition) (name : List ℕ) (x : Definition)
        → value_named (xs ++ ys) name ≡ option_or (value_named xs name) (value_named ys name)
        → option_map (λ d. d.value) (cond t (Some x) (find (λ d. bytes_eq name d.name) (xs ++ ys)))
        ≡ option_or (option_map (λ d. d.value) (cond t (Some x) (find (λ d. bytes_eq name d.name) xs))) (value_named ys name)
    first true xs ys name x h = refl
    first false xs ys name x h = h

definitions-push : (xs : List Placed) (at : Placed) → definitions (xs ++ at ∷ []) ≡ definitions xs ++ defined at
definitions-push xs at = flat_map-append defined xs (at ∷ []) ∙ ap (λ ds. definitions xs ++ ds) (append-nil (defined at))

-- the names that the lines define with one line more
pub names-push : (xs : List Placed) (at : Placed) (name : List ℕ)
    → value_named (definitions (xs ++ at ∷ [])) name ≡ option_or (value_named (definitions xs) name) (value_named (defined at) name)
names-push xs at name = ap (λ ds. value_named ds name) (definitions-push xs at) ∙ value_named-append (definitions xs) (defined at) name

or_assoc : (a b c : Bool) → (a || (b || c)) ≡ ((a || b) || c)
or_assoc true b c = refl
or_assoc false b c = refl

or_false : (b : Bool) → (b || false) ≡ b
or_false true = refl
or_false false = refl

-- the places that the lines fill with one line more
pub is_filled-push : (xs : List Placed) (at : Placed) (place : ℕ)
    → is_filled (xs ++ at ∷ []) place ≡ (is_filled xs place || covers at place)
is_filled-push [] at place = or_false (covers at place)
is_filled-push (x ∷ xs) at place = ap (λ b. covers x place || b) (is_filled-push xs at place)
    ∙ or_assoc (covers x place) (is_filled xs place) (covers at place)

-- the byte at a place with one line more: a place that is filled keeps its byte
pub byte_at-kept : (names : Meanings) (xs : List Placed) (at : Placed) (place : ℕ) → covers at place ≡ false
    → byte_at names (xs ++ at ∷ []) place ≡ byte_at names xs place
byte_at-kept names [] at place h = rw h refl
byte_at-kept names (x ∷ xs) at place h =
    ap (cond (covers x place) (slice_index (bytes_of names x.line.statement) (place - x.start))) (byte_at-kept names xs at place h)

-- and a place that is not filled takes the byte of the line
pub byte_at-new : (names : Meanings) (xs : List Placed) (at : Placed) (place : ℕ) → is_filled xs place ≡ false → covers at place ≡ true
    → byte_at names (xs ++ at ∷ []) place ≡ slice_index (bytes_of names at.line.statement) (place - at.start)
byte_at-new names [] at place f h = rw h refl
byte_at-new names (x ∷ xs) at place f h =
    let none = or_parts (covers x place) (is_filled xs place) f in
    rw none.0 (byte_at-new names xs at place none.1 h)
