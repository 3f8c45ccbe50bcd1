-- The bytes that a line of a listing writes: one or two, at places below 2,048.
use Rattle.std.proofs.Common.{◌≡◌, ℕ, ◌+◌, ◌<◌, ◌≤◌, Bool, true, false, cond, List, [], ◌∷◌, length, slice_index}
use Rattle.std.proofs.Common.{nat_le, Some, None, Option, IfSome, refl, arith, lit<, length-take, All, ⊎_elim}
use Rattle.std.proofs.lemmas.Bool.{leb-true, cases_lt}
use Rattle.std.proofs.lemmas.List.{get_or_past}
use Rattle.mcs48_isa.specs.declared.operation.Decoded.{Decoded}
use Rattle.mcs48_isa.specs.Table.{row_of}
use Rattle.mcs48_isa.specs.Listing.{that_fits, instruction_at, size_of}
use Rattle.mcs48_isa.proofs.Sound.{IsFew, IsSound, each_row}
use Rattle.mcs48_asm.proofs.Readings.{bytes_at}

-- one byte or two, at places below 2,048
pub record IsSized (memory : List ℕ) (place : ℕ) : Type 0 where
  pub some : 0 < size_of (instruction_at memory place)
  pub within : place + size_of (instruction_at memory place) ≤ 2048
  pub length_is : length (bytes_at memory place) ≡ size_of (instruction_at memory place)

-- a size of one or two that ends at place 2,048 at most
abbrev IsRoom : ℕ → ℕ → Type 0
IsRoom place size = (0 < size) × (size ≤ 2) × (place + size ≤ 2048)

-- an instruction that fits, and else one byte
fitting : (t : Bool) (d : Decoded) (place : ℕ) → nat_le (place + d.len) 2048 ≡ t → IsFew d.len → place < 2048
    → IsRoom place (size_of (cond t (Some d) None))
fitting true d place test few below = let within : place + d.len ≤ 2048 = leb-true (place + d.len) 2048 test in omega arith
fitting false d place test few below = omega arith

-- and so what is at a place
that_fits-room : (row : Option Decoded) (place : ℕ) → IfSome row (λ d. IsFew d.len) → place < 2048
    → IsRoom place (size_of (that_fits place row))
that_fits-room None place few below = omega arith
that_fits-room (Some d) place few below = fitting (nat_le (place + d.len) 2048) d place refl few below

-- a memory of bytes has a byte at each place
pub byte_below : (memory : List ℕ) → All (λ byte. byte < 256) memory → (k : ℕ) → slice_index memory k < 256
byte_below memory bytes k =
    ⊎_elim
    (λ (within : k < length memory). bytes k 0 within)
    (λ (past : length memory ≤ k). rw (get_or_past memory k 0 past) (lit< tt))
    (cases_lt k (length memory))

-- what is at a place of such a memory is one byte or two
pub sized : (memory : List ℕ) → ((k : ℕ) → slice_index memory k < 256) → (place : ℕ) → place < 2048 → IsSized memory place
sized memory bytes place below =
    let first : ℕ = slice_index memory place in
    let second : ℕ = slice_index memory (place + 1) in
    let few = each_row (λ d. IsFew d.len) first second (λ (d : Decoded) (s : IsSound first second d). s.2)
    (bytes place) (bytes (place + 1)) in
    let room = that_fits-room (row_of first second) place few below in
    record {
      some = room.0;
      within = room.2;
      length_is = omega (arith, room.1, length-take (size_of (instruction_at memory place)) (first ∷ second ∷ []));
    }
