-- Which bytes begin no instruction.
use Rattle.std.proofs.Common.{◌≡◌, ℕ, ◌<◌, is_none, refl}
use Rattle.mcs48_isa.specs.Table.{row_of, is_empty_byte}
use Rattle.bits.proofs.Every.{at_each, same, same_is}

-- a byte begins no instruction exactly if it is one of the illegal opcodes
pub empty-row : (b n : ℕ) → b < 256 → is_none (row_of b n) ≡ is_empty_byte b
empty-row b n h = same_is (is_none (row_of b n)) (is_empty_byte b)
    (at_each (λ b. same (is_none (row_of b n)) (is_empty_byte b)) 256 refl b h)
