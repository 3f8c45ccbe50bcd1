-- Whether a run is over at the state that a machine is at.
use Rattle.std.proofs.Common.{◌≡◌, ℕ, ◌+◌, Bool, true, false, ◌&&◌, [], refl, ap, sym, ◌∙◌}
use Rattle.std.specs.Prelude.{nat_le}
use Rattle.joint_feed.specs.Stories.{Story, starts_tick}
use Rattle.joint_run.specs.Joint.{Beside, joint_start}
use Rattle.joint_run.specs.Run.{World}
use Rattle.joint_run.specs.declared.machine.Machine.{Machine}
use Rattle.run_loop.specs.declared.ending.Ending.{Ending}
use Rattle.run_loop.specs.declared.ending.Ending.TheVariants.{TickStart, Stamp}
use Rattle.run_loop.specs.Answers.{DecidesHalt, DecidesOver, MeetsNoTick}
use Rattle.run_loop.specs.Running.{is_over}

-- a run that ends at a stamp is over exactly if its cycle has reached the stamp
pub reached_at : (s : Story) (w : World Beside) (stop cycle : ℕ) (answer : Bool)
    → answer ≡ nat_le (4096 + stop) cycle → s.stop ≡ stop → w.cycle ≡ cycle
    → answer ≡ is_over Stamp s w
reached_at s w stop cycle answer is at_stop at_cycle =
    is ∙ ap (λ (n : ℕ). nat_le (4096 + n) cycle) (sym at_stop) ∙ ap (nat_le (4096 + s.stop)) (sym at_cycle)

-- at a tick start a run that ends at one is over exactly if its cycle has reached the stamp
pub over_at_tick : (s : Story) (w : World Beside) (stop cycle : ℕ) (tick answer : Bool) → tick ≡ starts_tick s w → tick ≡ true
    → answer ≡ nat_le (4096 + stop) cycle → s.stop ≡ stop → w.cycle ≡ cycle → answer ≡ is_over TickStart s w
over_at_tick s w stop cycle tick answer decides on is at_stop at_cycle =
    reached_at s w stop cycle answer is at_stop at_cycle
    ∙ ap (λ b. b && nat_le (4096 + s.stop) w.cycle) (sym on ∙ decides)

-- steps don't halt where the run isn't over and no tick start is to be noted
pub no_halt : (e : Ending) (m : Machine) (stop : ℕ) (answer : Bool)
    → DecidesHalt e m stop answer → DecidesOver e m stop false → MeetsNoTick e m → answer ≡ false
no_halt TickStart m stop answer decides before_end tick =
    let w : World Beside = record joint_start { cpu = m.mcu; cycle = m.cycle } in
    decides [] [] w refl ∙ sym (tick [] [] w refl)
no_halt Stamp m stop answer decides before_end tick =
    let s : Story = record { bytes = []; edges = []; events = []; stop = stop; held = m.mcu } in
    let w : World Beside = record joint_start { cpu = m.mcu; cycle = m.cycle } in
    decides ∙ sym (before_end s w refl refl refl)

-- a run that ends at a tick start isn't over between two
pub open_off_tick : (s : Story) (w : World Beside) (tick : Bool) → tick ≡ starts_tick s w → tick ≡ false → false ≡ is_over TickStart s w
open_off_tick s w tick decides off = ap (λ b. b && nat_le (4096 + s.stop) w.cycle) (sym off ∙ decides)
