-- Certificates that follow one another.
use Rattle.std.specs.Prelude.{◌≡◌, ℕ, ◌+◌, ◌%◌, List, Some}
use Rattle.mcs48_core.specs.declared.levels.Pins.{Pins}
use Rattle.mcs48_core.specs.Cpu.{Cpu}
use Rattle.mcs48_core.specs.Registers.{register}
use Rattle.mcs48_ranges.specs.Sizes.{IsFine}
use Rattle.cycle_cert.specs.declared.bound.Bound.{Bound}
use Rattle.cycle_cert.specs.Bounds.{cycles_at, most_cycles}
use Rattle.cycle_cert.specs.Runs.{ArePins, IsPlain, ComesTo}
use Rattle.cycle_cert.specs.Certificates.{Certificate, bound_in, Keeps}

-- if the target of one certificate is a certified place of another, of the same program, a run from a place of the
-- first reaches the target of the second, within the bound and the greatest value of the second one
abbrev pub FollowLaw : Type 0
FollowLaw =
    (bytes : List ℕ) (first second : Certificate) → Keeps bytes first → Keeps bytes second
    → (m : Cpu) (pins : ℕ → Pins) (bound next : Bound)
    → IsFine m → IsPlain m → ((i : ℕ) → ArePins (pins i)) → bound_in first.entries (m.pc % 2048) ≡ Some bound
    → bound_in second.entries first.target ≡ Some next
    → ComesTo bytes pins m second.target (cycles_at bound (register bound.register m) + most_cycles next)
