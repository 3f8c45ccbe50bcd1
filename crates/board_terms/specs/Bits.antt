-- The eight bits of a byte, and bytes by their bits.
use Rattle.std.specs.Prelude.{ℕ, ◌+◌, ◌*◌, Bool, false, not, List, [], ◌∷◌, if◌then◌else◌}
use Rattle.bits.specs.Bits.{bit}

-- the eight bits of a byte, the lowest first
abbrev pub data_bits : ℕ → List Bool
data_bits b = bit 0 b ∷ bit 1 b ∷ bit 2 b ∷ bit 3 b ∷ bit 4 b ∷ bit 5 b ∷ bit 6 b ∷ bit 7 b ∷ []

-- the number that bits are, the lowest first
abbrev pub value : List Bool → ℕ
value [] = 0
value (bit ∷ bits) = if bit then 1 + 2 * value bits else 2 * value bits

-- whether an odd number of the bits are ones
abbrev pub is_odd : List Bool → Bool
is_odd [] = false
is_odd (bit ∷ bits) = if bit then not (is_odd bits) else is_odd bits
