-- The run of the opcode table that one arm reads: MOV A,Rr.
use Rattle.std.proofs.Common.{◌≡◌, ℕ, ◌<◌, ◌≤◌, refl, bit_and}
use Rattle.mcs48_isa.specs.declared.operation.Op.TheVariants.{Moves}
use Rattle.mcs48_isa.specs.declared.operation.MoveOp.TheVariants.{MovAR}
use Rattle.mcs48_isa.specs.Table.{row_of, one}
use Rattle.mcs48_isa.proofs.Cases.{from_each}

-- the bytes from F8 to FF (hexadecimal) are MOV A,Rr
pub mov_ar : (n b : ℕ) → 248 ≤ b → b < 256 → row_of b n ≡ one (Moves (MovAR (bit_and b 7))) 1 n
mov_ar n = from_each (λ b. row_of b n ≡ one (Moves (MovAR (bit_and b 7))) 1 n) 248 8
    (refl, (refl, (refl, (refl, (refl, (refl, (refl, (refl, tt))))))))
