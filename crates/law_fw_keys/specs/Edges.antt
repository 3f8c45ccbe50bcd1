-- The edges of a tick as bytes of columns: what changed, and what is down.
use Rattle.std.specs.Prelude.{◌≡◌, ◌<◌, ℕ, zero, suc, ◌+◌, ◌*◌, ◌/◌, ◌%◌, ◌==◌, Bool, true, false, if◌then◌else◌}
use Rattle.std.specs.Prelude.{List, [], ◌∷◌, ◌++◌, slice_index}
use Rattle.bits.specs.Bits.{bit}
use Rattle.fw_kernel.specs.Tables.{codes_at, rate_at, fn_codes_at, make_only_at}
use Rattle.model_keyboard.specs.Codes.{Keys}

-- the layout in an image: the codes by layer; a byte a column of the keys that send no break; the Fn key is where there
-- is no code
abbrev pub image_code : List ℕ → Bool → ℕ → ℕ
image_code bytes false place = slice_index bytes (codes_at + place)
image_code bytes true place = slice_index bytes (fn_codes_at + place)

abbrev pub image_keys : List ℕ → Keys
image_keys bytes = record {
  code = image_code bytes;
  make_only = λ place. bit (place % 8) (slice_index bytes (make_only_at + place / 8));
  is_fn = λ place. image_code bytes false place == 0;
  rate = slice_index bytes rate_at;
}

-- an image whose places without a code have none in either layer
abbrev pub IsSilentAlike : List ℕ → Type 0
IsSilentAlike bytes =
    (place : ℕ) → place < 96 → (image_code bytes true place == 0) ≡ (image_code bytes false place == 0)

-- the edges that they are, with their places and whether the key went down, in order: of n rows from row r on
abbrev pub row_edges : ℕ → ℕ → ℕ → ℕ → ℕ → List (ℕ × Bool)
row_edges place r zero changed down = []
row_edges place r (suc n) changed down =
    if bit r changed then (place + r, bit r down) ∷ row_edges place (suc r) n changed down
    else row_edges place (suc r) n changed down

-- of n columns from column c on, and of all twelve
abbrev pub column_edges : ℕ → ℕ → (ℕ → ℕ) → (ℕ → ℕ) → List (ℕ × Bool)
column_edges c zero changed down = []
column_edges c (suc n) changed down =
    row_edges (8 * c) 0 8 (changed c) (down c) ++ column_edges (suc c) n changed down

abbrev pub tick_edges : (ℕ → ℕ) → (ℕ → ℕ) → List (ℕ × Bool)
tick_edges changed down = column_edges 0 12 changed down
