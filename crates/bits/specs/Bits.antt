-- Bits of a byte. One that is looked at alone is given by its number; those of a register of flags by their values: 01,
-- 02, 04 .. 80. The bit comes first, then the byte.
use Rattle.std.specs.Prelude.{ℕ, ◌-◌, ◌/◌, ◌%◌, ◌^◌, Bool, ◌==◌, if◌then◌else◌, bit_and, bit_or, bit_xor}

-- bit k of a number; bit 0 is the lowest
abbrev pub bit : ℕ → ℕ → Bool
bit k byte = byte / 2 ^ k % 2 == 1

-- whether the byte has the bit
abbrev pub has_bit : ℕ → ℕ → Bool
has_bit bit byte = bit_and byte bit == bit

-- the byte with the bit set
abbrev pub with_bit : ℕ → ℕ → ℕ
with_bit bit byte = bit_or byte bit

-- the byte with the bit cleared
abbrev pub without_bit : ℕ → ℕ → ℕ
without_bit bit byte = bit_and byte (0xff - bit)

-- the byte with the bit flipped
abbrev pub flipped_bit : ℕ → ℕ → ℕ
flipped_bit bit byte = bit_xor byte bit

-- the bit's value if it is set, else 0
abbrev pub bit_value : ℕ → Bool → ℕ
bit_value bit on = if on then bit else 0
