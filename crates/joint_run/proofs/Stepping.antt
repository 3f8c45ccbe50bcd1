-- The step of the machine by the step of its processor and the cycles that pass.
use Rattle.std.proofs.Common.{◌≡◌, ℕ, ◌+◌, [], Some, None, Ok, ap, ◌∙◌, subst}
use Rattle.std.specs.declared.option.Option.{Option}
use Rattle.mcs48_core.specs.Cpu.{Cpu}
use Rattle.mcs48_core.specs.declared.levels.Pins.{Pins}
use Rattle.mcs48_core.specs.Step.{Stepped, stepped, IsStep}
use Rattle.joint_run.specs.declared.due.Due.{Due}
use Rattle.joint_run.specs.declared.due.Seen.{Seen}
use Rattle.joint_run.specs.declared.machine.Machine.{Machine}
use Rattle.joint_run.specs.Run.{World, after_step}
use Rattle.joint_run.specs.Joint.{Beside, pins_by}
use Rattle.joint_run.specs.Due.{beside, passed, keys_in_step, due_board, world_of, due_step, machine_after, IsSeen, IsJointStep}

module _ (due : Due) (m : Machine) where
  -- the state after so many cycles, with this processor
  abbrev pub came : ℕ → Cpu → World Beside
  came cycles cpu = record { cpu = cpu; board = passed cycles m.cycle cpu.p2 due.host.items m.outside; cycle = m.cycle + cycles }

  by_row : (seen : Seen) (new : Machine) (cpu : Cpu)
      → new ≡ machine_after due m (came seen.cycles cpu) → IsSeen due m (came seen.cycles cpu) seen
      → (o : Option Stepped) → IsStep m.image.bytes m.mcu o (Ok seen.cycles) cpu
      → IsJointStep due m (after_step (due_board due m) (world_of m) o) (Ok seen) new
  by_row seen new cpu e s None h = absurd (cc h.0)
  by_row seen new cpu e s (Some n) h =
      let k : seen.cycles ≡ n.cycles = cc h.0 in
      let a : new ≡ machine_after due m (came n.cycles n.cpu) =
      e ∙ ap (λ k. machine_after due m (came k cpu)) k ∙ ap (λ c. machine_after due m (came n.cycles c)) h.1 in
      let b : IsSeen due m (came n.cycles cpu) seen = subst (λ k. IsSeen due m (came k cpu) seen) k s in
      (a, subst (λ c. IsSeen due m (came n.cycles c) seen) h.1 b)

  -- the processor's step and the cycles that pass are the joint step
  pub by_step : (seen : Seen) (new : Machine) (cpu : Cpu) (given : Pins)
      → given ≡ pins_by (keys_in_step due m) m.mcu.p1 m.mcu.p2 (beside m.outside 0 [])
      → IsStep m.image.bytes m.mcu (stepped m.image.bytes given m.mcu) (Ok seen.cycles) cpu
      → new ≡ machine_after due m (came seen.cycles cpu) → IsSeen due m (came seen.cycles cpu) seen
      → IsJointStep due m (due_step due m) (Ok seen) new
  by_step seen new cpu given g h e s =
      by_row seen new cpu e s (stepped m.image.bytes (pins_by (keys_in_step due m) m.mcu.p1 m.mcu.p2 (beside m.outside 0 [])) m.mcu)
      (subst (λ p. IsStep m.image.bytes m.mcu (stepped m.image.bytes p m.mcu) (Ok seen.cycles) cpu) g h)
