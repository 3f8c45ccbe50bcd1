-- The listing of a program memory, assembled, is that memory.
use Rattle.std.proofs.Common.{◌≡◌, ℕ, ◌+◌, ◌<◌, ◌≤◌, Bool, true, false, cond, List, [], ◌∷◌, length, take}
use Rattle.std.proofs.Common.{slice_index, nat_le, Some, None, Ok, Option, IfSome, refl, All}
use Rattle.std.proofs.lemmas.Bool.{leb-true}
use Rattle.mcs48_isa.specs.declared.operation.Decoded.{Decoded}
use Rattle.mcs48_isa.specs.Table.{row_of}
use Rattle.mcs48_isa.specs.Text.{text_of}
use Rattle.mcs48_isa.specs.Listing.{that_fits, statement_of, size_of, listing_of}
use Rattle.mcs48_asm.specs.Assembly.{assembly_of}
use Rattle.mcs48_asm.proofs.Readings.{IsRead, text_at, bytes_at}
use Rattle.mcs48_asm.proofs.ByteAlone.{byte_alone}
use Rattle.mcs48_asm.proofs.EntryBytes.{row_reads}
use Rattle.mcs48_asm.proofs.Sizes.{byte_below, sized}
use Rattle.mcs48_asm.proofs.Listed.{listing-assembles}

-- an instruction that fits is read, and else DB and the byte
fitting-reads : (fits : Bool) (d : Decoded) (b n place : ℕ) → nat_le (place + d.len) 2048 ≡ fits → b < 256
    → (place + d.len ≤ 2048 → IsRead (text_of d.op place) place (take d.len (b ∷ n ∷ [])))
    → IsRead (statement_of (cond fits (Some d) None) b place) place (take (size_of (cond fits (Some d) None)) (b ∷ n ∷ []))
fitting-reads true d b n place is below reads = reads (leb-true (place + d.len) 2048 is)
fitting-reads false d b n place is below reads = byte_alone place b below

row_at-reads : (row : Option Decoded) (b n place : ℕ) → b < 256
    → IfSome row (λ d. place + d.len ≤ 2048 → IsRead (text_of d.op place) place (take d.len (b ∷ n ∷ [])))
    → IsRead (statement_of (that_fits place row) b place) place (take (size_of (that_fits place row)) (b ∷ n ∷ []))
row_at-reads None b n place below reads = byte_alone place b below
row_at-reads (Some d) b n place below reads = fitting-reads (nat_le (place + d.len) 2048) d b n place refl below reads

-- the text of each place is read as its bytes
reads_at : (memory : List ℕ) → ((k : ℕ) → slice_index memory k < 256) → (place : ℕ)
    → IsRead (text_at memory place) place (bytes_at memory place)
reads_at memory bytes place =
    let b : ℕ = slice_index memory place in
    let n : ℕ = slice_index memory (place + 1) in
    row_at-reads (row_of b n) b n place (bytes place) (row_reads b (bytes place) place n (bytes (place + 1)))

-- the listing of each program memory assembles to that memory
pub round_trip : (memory : List ℕ) → length memory ≡ 2048 → All (λ byte. byte < 256) memory → assembly_of (listing_of memory) ≡ Ok memory
round_trip memory long all =
    let bytes = byte_below memory all in
    listing-assembles memory long (λ place below. reads_at memory bytes place) (sized memory bytes)
