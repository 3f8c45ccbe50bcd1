-- The bytes of the controller's link.
use Rattle.std.specs.Prelude.{ℕ, ◌==◌, Bool, false, nat_lt, if◌then◌else◌, is_some, List, [], ◌∷◌, ◌++◌, take, length}
use Rattle.std.specs.Prelude.{slice_index, slice_index_or, Some, None}
use Rattle.std.specs.declared.option.Option.{Option}
use Rattle.std.specs.Int.{w64, to_le_bytes, from_bool}
use Rattle.ctl_link.specs.declared.link.Link.{Link}
use Rattle.ctl_link.specs.declared.link.Link.TheVariants.{Free, Hold, Ask, Request, Busy}
use Rattle.ctl_wire.specs.declared.wire.Wire.{Wire}
use Rattle.ctl_wire.specs.declared.wire.Wire.TheVariants.{Recv, Send}
use Rattle.mcs48_bytes.specs.Numbers.{byte_or_0, maybe_at, number_at, truth_at}

-- the link's 23 bytes: its kind (0 free, 1 held, 2 it pulls the clock with a byte, 3 it requests, 4 a byte comes, 5 one
-- goes), since when (8 bytes), its byte, how many bits or edges of a frame have been, the bit that noise turns round in
-- the frame (2 bytes), and the bits that have come
abbrev pub link_row : ℕ → ℕ → ℕ → ℕ → Option ℕ → List Bool → List ℕ
link_row kind since byte count flip bits =
    kind ∷ to_le_bytes w64 since
    ++ byte ∷ count ∷ from_bool (is_some flip) ∷ byte_or_0 flip
    ∷ from_bool (slice_index_or bits 0 false) ∷ from_bool (slice_index_or bits 1 false)
    ∷ from_bool (slice_index_or bits 2 false) ∷ from_bool (slice_index_or bits 3 false)
    ∷ from_bool (slice_index_or bits 4 false) ∷ from_bool (slice_index_or bits 5 false)
    ∷ from_bool (slice_index_or bits 6 false) ∷ from_bool (slice_index_or bits 7 false)
    ∷ from_bool (slice_index_or bits 8 false) ∷ from_bool (slice_index_or bits 9 false) ∷ []

abbrev pub link_kind : Link Wire → ℕ
link_kind Free = 0
link_kind (Hold since) = 1
link_kind (Ask byte since) = 2
link_kind (Request byte) = 3
link_kind (Busy (Recv flip bits)) = 4
link_kind (Busy (Send byte edges)) = 5

abbrev pub link_since : Link Wire → ℕ
link_since Free = 0
link_since (Hold since) = since
link_since (Ask byte since) = since
link_since (Request byte) = 0
link_since (Busy wire) = 0

abbrev pub link_byte : Link Wire → ℕ
link_byte Free = 0
link_byte (Hold since) = 0
link_byte (Ask byte since) = byte
link_byte (Request byte) = byte
link_byte (Busy (Recv flip bits)) = 0
link_byte (Busy (Send byte edges)) = byte

abbrev pub link_count : Link Wire → ℕ
link_count Free = 0
link_count (Hold since) = 0
link_count (Ask byte since) = 0
link_count (Request byte) = 0
link_count (Busy (Recv flip bits)) = length bits
link_count (Busy (Send byte edges)) = edges

abbrev pub link_flip : Link Wire → Option ℕ
link_flip Free = None
link_flip (Hold since) = None
link_flip (Ask byte since) = None
link_flip (Request byte) = None
link_flip (Busy (Recv flip bits)) = flip
link_flip (Busy (Send byte edges)) = None

abbrev pub link_bits : Link Wire → List Bool
link_bits Free = []
link_bits (Hold since) = []
link_bits (Ask byte since) = []
link_bits (Request byte) = []
link_bits (Busy (Recv flip bits)) = bits
link_bits (Busy (Send byte edges)) = []

abbrev pub link_bytes : Link Wire → List ℕ
link_bytes l = link_row (link_kind l) (link_since l) (link_byte l) (link_count l) (link_flip l) (link_bits l)

-- the ten places for bits
abbrev pub bits_at : List ℕ → List Bool
bits_at s =
    truth_at 13 s ∷ truth_at 14 s ∷ truth_at 15 s ∷ truth_at 16 s ∷ truth_at 17 s ∷ truth_at 18 s ∷ truth_at 19 s
    ∷ truth_at 20 s ∷ truth_at 21 s ∷ truth_at 22 s ∷ []

abbrev pub link_by : List ℕ → Link Wire
link_by s =
    if slice_index s 0 == 0 then Free
    else if slice_index s 0 == 1 then Hold (number_at 1 s)
    else if slice_index s 0 == 2 then Ask (slice_index s 9) (number_at 1 s)
    else if slice_index s 0 == 3 then Request (slice_index s 9)
    else if slice_index s 0 == 4 then Busy (Recv (maybe_at 11 s) (take (slice_index s 10) (bits_at s)))
    else Busy (Send (slice_index s 9) (slice_index s 10))

-- none if more than ten bits or edges have been
abbrev pub link_in : List ℕ → Option (Link Wire)
link_in s = if nat_lt 10 (slice_index s 10) then None else Some (link_by s)
