-- What a key sends, and the layout as a tick sees it.
use Rattle.std.specs.Prelude.{◌≡◌, ℕ, Bool, true, false, List, [], ◌∷◌, Option, IsSome, unwrap_or}
use Rattle.layout_reader.specs.Layouts.{KeyLayout, code_at, fn_code_at, is_make_only, is_fn_place}

-- a key that goes down sends its code; one that goes up sends F0 and its code
abbrev pub make : ℕ → List ℕ
make code = code ∷ []

abbrev pub release : ℕ → List ℕ
release code = 0xf0 ∷ code ∷ []

-- one byte, or two of which the first is F0
abbrev pub IsCode : List ℕ → Type 0
IsCode (code ∷ []) = Unit {0}
IsCode (first ∷ code ∷ []) = first ≡ 0xf0
IsCode bytes = ⊥

-- the code of each place by layer, where true is the second layer, that under Fn; whether the key there sends no break;
-- whether it is the Fn key, which sends nothing; and the rate byte at power-on
pub record Keys : Type 0 where
  pub code : Bool → ℕ → ℕ
  pub make_only : ℕ → Bool
  pub is_fn : ℕ → Bool
  pub rate : ℕ

abbrev pub code_in : KeyLayout → Bool → ℕ → Option ℕ
code_in layout false place = code_at place layout
code_in layout true place = fn_code_at place layout

-- a place of the layout has its key's codes; a place without a code has 00, which is never sent
abbrev pub keys_of : KeyLayout → Keys
keys_of layout = record {
  code = λ on_fn place. unwrap_or (code_in layout on_fn place) 0;
  make_only = λ place. is_make_only place layout;
  is_fn = is_fn_place layout;
  rate = layout.rate;
}

-- a key that sends something is at the place
abbrev pub HasCode : KeyLayout → ℕ → Type 0
HasCode layout place = IsSome (code_at place layout)
