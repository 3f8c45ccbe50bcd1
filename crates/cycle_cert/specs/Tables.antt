-- How the program keeps the certified places: in the order of their lines, and by place.
use Rattle.std.specs.Prelude.{◌≡◌, ℕ, ◌<◌, List, length, Option, Some, None, slice_index_or, All}
use Rattle.cycle_cert.specs.declared.bound.Bound.{Bound}
use Rattle.cycle_cert.specs.declared.certificate.Entry.{Entry}
use Rattle.cycle_cert.specs.Certificates.{bound_in}

-- a certified place is below 2,048
abbrev pub IsWithin : Entry → Type 0
IsWithin entry = entry.place < 2048

-- each of the 2,048 places has the bound that the entries give it, no entry has another place, and the registers are
-- numbered 0 to 7
pub record IsTable (entries : List Entry) (bounds : List (Option Bound)) : Type 0 where
  pub within : All IsWithin entries
  pub long : length bounds ≡ 2048
  pub same : (place : ℕ) → place < 2048 → slice_index_or bounds place None ≡ bound_in entries place
  pub low : (place : ℕ) (bound : Bound) → bound_in entries place ≡ Some bound → bound.register < 8
