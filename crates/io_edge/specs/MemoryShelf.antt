-- What a shelf in memory holds.
use Rattle.std.specs.Prelude.{ℕ, List, map, string_bytes}
use Rattle.std.specs.declared.alloc.Global.{Global}
use Rattle.std.specs.declared.vec.Vec.{Vec}
use Rattle.std.specs.declared.string.String.{String}
use Rattle.io_edge.specs.Shelf.{File, Shelved}

-- what the shelf shows, and its count of faults
pub record HeldFiles : Type 0 where
  pub in_memory : Shelved
  pub faults : ℕ

-- a file for each name and its bytes, in order
abbrev pub files_of : List (String Global × Vec ℕ Global) → List File
files_of pairs = map (λ pair. record { name = string_bytes pair.0; bytes = pair.1.items }) pairs
