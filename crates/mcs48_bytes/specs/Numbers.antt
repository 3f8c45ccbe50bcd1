-- Numbers and truth values as bytes: of more than one byte the lowest comes first.
use Rattle.std.specs.Prelude.{ℕ, ◌+◌, Bool, ◌==◌, if◌then◌else◌, List, [], ◌∷◌, slice_index, Some, None}
use Rattle.std.specs.declared.option.Option.{Option}
use Rattle.std.specs.Int.{w16, w64, from_le_bytes}

-- the number of 2 or 8 bytes from a place on, and whether the byte there is 1
abbrev pub word_at : ℕ → List ℕ → ℕ
word_at i s = from_le_bytes w16 (slice_index s i ∷ slice_index s (i + 1) ∷ [])

abbrev pub number_at : ℕ → List ℕ → ℕ
number_at i s = from_le_bytes w64 (slice_index s i ∷ slice_index s (i + 1) ∷ slice_index s (i + 2) ∷ slice_index s (i + 3)
    ∷ slice_index s (i + 4) ∷ slice_index s (i + 5) ∷ slice_index s (i + 6) ∷ slice_index s (i + 7) ∷ [])

abbrev pub truth_at : ℕ → List ℕ → Bool
truth_at i s = slice_index s i == 1

-- two bytes that say whether there is a byte, and which
abbrev pub byte_or_0 : Option ℕ → ℕ
byte_or_0 (Some byte) = byte
byte_or_0 None = 0

abbrev pub maybe_at : ℕ → List ℕ → Option ℕ
maybe_at i s = if truth_at i s then Some (slice_index s (i + 1)) else None
