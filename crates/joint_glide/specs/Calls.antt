-- A stretch: steps of the processor alone.
use Rattle.std.specs.Prelude.{◌≡◌, ◌≤◌, ◌<◌, ℕ, zero, suc, ◌+◌, false, [], Some}
use Rattle.mcs48_core.specs.Step.{stepped}
use Rattle.mcs48_core.specs.declared.levels.Pins.{Pins}
use Rattle.joint_run.specs.Due.{beside}
use Rattle.joint_run.specs.Joint.{pins_by}
use Rattle.joint_run.specs.declared.due.Due.{Due}
use Rattle.joint_run.specs.declared.machine.Machine.{Machine}
use Rattle.joint_glide.specs.Uneventful.{is_at, AreUneventful}
use Rattle.joint_glide.specs.Still.{IsStillTo}

-- the levels that the processor reads, with no edge made
abbrev pub pins_now : Machine → Pins
pins_now m = pins_by m.matrix m.mcu.p1 m.mcu.p2 (beside m.outside 0 [])

-- a call of the processor, of so many cycles, that leaves port 2 as it is; all else but the counts stays
pub record IsCall (old new : Machine) : Type 0 where
  pub cycles : ℕ
  pub some : 0 < cycles
  pub few : cycles < 3
  pub step : stepped old.image.bytes (pins_now old) old.mcu ≡ Some (record { cpu = new.mcu; cycles = cycles })
  pub latch : new.mcu.p2 ≡ old.mcu.p2
  pub parts : new ≡ record old { mcu = new.mcu; cycle = old.cycle + cycles; steps = old.steps + 1 }

-- so many of them, none of which leads to the tick's place
abbrev pub AreCalls : ℕ → ℕ → Machine → Machine → Type 0
AreCalls tick_pc zero old new = new ≡ old
AreCalls tick_pc (suc k) old new =
    (between : Machine) × AreCalls tick_pc k old between × IsCall between new × (is_at tick_pc new ≡ false)

-- in cycles in which nothing changes outside, calls of the processor are joint steps
abbrev pub StretchLaw : Type 0
StretchLaw =
    (due : Due) (tick_pc k to : ℕ) (old new : Machine) → IsStillTo due old to → AreCalls tick_pc k old new → new.cycle ≤ to
    → AreUneventful due tick_pc k old new
