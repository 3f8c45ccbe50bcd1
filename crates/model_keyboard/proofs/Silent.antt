-- A place of the layout that isn't the Fn key's has a code in both layers.
use Rattle.std.proofs.Common.{◌≡◌, ℕ, Bool, true, false, not, ◌∙◌, ap, refl}
use Rattle.std.specs.Prelude.{Option, IsSome, is_some, is_none}
use Rattle.layout_reader.specs.Layouts.{KeyLayout, code_at, is_fn_place, HasEntry, IsSilentAtFn}
use Rattle.layout_reader.proofs.FnKey as entries
use Rattle.model_keyboard.specs.Codes.{HasCode}

some_unless : (b : Bool) → not b ≡ false → b ≡ true
some_unless true h = refl
some_unless false h = absurd cc

-- each place of a layout that isn't the Fn key's has a code in both layers
pub has_code : (layout : KeyLayout) (place : ℕ) → IsSilentAtFn layout → HasEntry layout place → is_fn_place layout place ≡ false
    → HasCode layout place
has_code layout place h has other = some_unless (is_some (code_at place layout)) (h.base place has ∙ other)

-- a place with a code is one of the layout's
pub has_entry : (layout : KeyLayout) (place : ℕ) → HasCode layout place → HasEntry layout place
has_entry layout place has = entries.has_entry layout place has

-- what is none where the code is none is there where the code is
pub some_with : (o : Option ℕ) (layout : KeyLayout) (place : ℕ) → is_none o ≡ is_none (code_at place layout)
    → HasCode layout place → IsSome o
some_with o layout place same has = some_unless (is_some o) (same ∙ ap not has)
