-- Certificates: the places with their bounds, and when a certified place is right.
use Rattle.std.specs.Prelude.{◌≡◌, ℕ, ◌%◌, Bool, true, ◌==◌, if◌then◌else◌, List, [], ◌∷◌, Option, Some, None, is_some}
use Rattle.std.specs.List.{list_all}
use Rattle.mcs48_isa.specs.declared.operation.Decoded.{Decoded}
use Rattle.mcs48_core.specs.declared.levels.Pins.{Pins}
use Rattle.mcs48_core.specs.Cpu.{Cpu}
use Rattle.mcs48_core.specs.Registers.{register}
use Rattle.mcs48_core.specs.Step.{row_at}
use Rattle.first_fault.specs.FirstFault.{Fault}
use Rattle.cycle_cert.specs.declared.bound.Bound.{Bound}
use Rattle.cycle_cert.specs.declared.certificate.Entry.{Entry}
use Rattle.cycle_cert.specs.declared.falling.Passage.{Passage}
use Rattle.cycle_cert.specs.declared.fault.Rule.{Rule}
use Rattle.cycle_cert.specs.declared.fault.Rule.TheVariants.{Row, Follower, Fall}
use Rattle.cycle_cert.specs.declared.rows.Way.{Way}
use Rattle.cycle_cert.specs.Bounds.{cycles_at, nothing_left}
use Rattle.cycle_cert.specs.Rows.{is_certifiable, ways}
use Rattle.cycle_cert.specs.Falling.{falls}
use Rattle.mcs48_ranges.specs.Sizes.{IsFine}
use Rattle.cycle_cert.specs.Runs.{IsPlain, ArePins, ComesTo}

-- the target, and the certified places in the order of their lines
pub record Certificate : Type 0 where
  pub target : ℕ
  pub entries : List Entry

-- the bound of a place, if it is certified
abbrev pub bound_in : List Entry → ℕ → Option Bound
bound_in [] place = None
bound_in (entry ∷ more) place = if entry.place == place then Some entry.bound else bound_in more place

-- the bound of a path that comes to a place: nothing is left at the target
abbrev pub bound_at : Certificate → ℕ → Option Bound
bound_at cert place = if place == cert.target then Some nothing_left else bound_in cert.entries place

-- a row's way out with the bounds at its ends
abbrev pub passage : Decoded → Bound → Way → Bound → Passage
passage row before out after =
    record { op = row.op; cycles = row.cycles; when = out.when; before = before; after = after }

-- the place that a way leads to is certified, or the target
abbrev pub is_known : Certificate → Way → Bool
is_known cert out = is_some (bound_at cert out.to)

-- the bound falls on a way, if it leads to a place that is known
abbrev pub way_falls : Certificate → Decoded → Bound → Way → Bool
way_falls cert row before out =
    elim (bound_at cert out.to) [ None ↦ true | Some after ↦ falls (passage row before out after) ]

-- the first rule that a certified place breaks by its ways out
abbrev pub ways_fault : Certificate → Decoded → Bound → List Way → Option Rule
ways_fault cert row before outs =
    if list_all (is_known cert) outs
    then (if list_all (way_falls cert row before) outs then None else Some Fall)
    else Some Follower

-- the first rule that a certified place breaks: its byte begins no row that may be certified, or by its ways out
abbrev pub row_fault : Certificate → Option Decoded → ℕ → Bound → Option Rule
row_fault cert None place before = Some Row
row_fault cert (Some row) place before =
    if is_certifiable row.op then ways_fault cert row before (ways row.op row.len place) else Some Row

-- the first rule that a certified place of this program breaks
abbrev pub place_fault : List ℕ → Certificate → ℕ → Bound → Option Rule
place_fault bytes cert place before = row_fault cert (row_at bytes place) place before

-- the first of these places that breaks a rule
abbrev pub first_fault : List ℕ → Certificate → List Entry → Option (Fault Rule)
first_fault bytes cert [] = None
first_fault bytes cert (entry ∷ more) =
    elim (place_fault bytes cert entry.place entry.bound) [
      | Some rule ↦ Some (record { item = entry.line; rule = rule })
      | None ↦ first_fault bytes cert more
    ]

-- each certified place keeps its bound: from any state with bank 0 and the interrupts off, with any pins at each step
abbrev pub Keeps : List ℕ → Certificate → Type 0
Keeps bytes cert = (m : Cpu) (pins : ℕ → Pins) (bound : Bound)
    → IsFine m → IsPlain m → ((i : ℕ) → ArePins (pins i)) → bound_in cert.entries (m.pc % 2048) ≡ Some bound
    → ComesTo bytes pins m cert.target (cycles_at bound (register bound.register m))
