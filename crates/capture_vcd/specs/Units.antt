-- The unit of time: 1 ns, 10 ns, 100 ns, 1 µs or 10 µs.
use Rattle.std.specs.Prelude.{ℕ, List, codes, Option, Some, None, if◌then◌else◌}
use Rattle.std.specs.Str.{bytes_eq}
use Rattle.capture_vcd.specs.declared.unit.Count.{Count}
use Rattle.capture_vcd.specs.declared.unit.Count.TheVariants.{One, Ten, Hundred}
use Rattle.capture_vcd.specs.declared.unit.Unit.{Unit}
use Rattle.capture_vcd.specs.declared.unit.Unit.TheVariants.{Ns, TenNs, HundredNs, Us, TenUs}

-- a unit in nanoseconds
abbrev pub nanoseconds : Unit → ℕ
nanoseconds Ns = 1
nanoseconds TenNs = 10
nanoseconds HundredNs = 100
nanoseconds Us = 1000
nanoseconds TenUs = 10000

-- the count that a token writes, if its measure is a token of its own
abbrev pub count_of : List ℕ → Option Count
count_of text =
    if bytes_eq text (codes "1") then Some One
    else (if bytes_eq text (codes "10") then Some Ten
    else (if bytes_eq text (codes "100") then Some Hundred else None))

-- the unit that a token writes with its count
abbrev pub unit_of : List ℕ → Option Unit
unit_of text =
    if bytes_eq text (codes "1ns") then Some Ns
    else (if bytes_eq text (codes "10ns") then Some TenNs
    else (if bytes_eq text (codes "100ns") then Some HundredNs
    else (if bytes_eq text (codes "1us") then Some Us
    else (if bytes_eq text (codes "10us") then Some TenUs else None))))

-- the unit of a count of nanoseconds, or of microseconds
abbrev pub of_ns : Count → Option Unit
of_ns One = Some Ns
of_ns Ten = Some TenNs
of_ns Hundred = Some HundredNs

abbrev pub of_us : Count → Option Unit
of_us One = Some Us
of_us Ten = Some TenUs
of_us Hundred = None

-- the unit of a count and its measure
abbrev pub unit_with : Count → List ℕ → Option Unit
unit_with count text =
    if bytes_eq text (codes "ns") then of_ns count else (if bytes_eq text (codes "us") then of_us count else None)
