-- Quiet steps, and the step after them.
use Rattle.std.proofs.Common.{◌≡◌, ◌≤◌, ◌<◌, ℕ, zero, suc, ◌+◌, true, false, not, ◌&&◌}
use Rattle.std.proofs.Common.{None, Some, Ok, Err, refl, ap, ◌∙◌, arith}
use Rattle.std.proofs.lemmas.Bool.Decides.{nat_tests}
use Rattle.std.specs.Prelude.{◌==◌, ◌||◌}
use Rattle.std.specs.declared.option.Option.{Option}
use Rattle.joint_glide.specs.Uneventful.{AreUneventful, HasGone}
use Rattle.joint_run.specs.Due.{due_step, IsJointStep}
use Rattle.joint_run.specs.Joint.{Beside}
use Rattle.joint_run.specs.Run.{World}
use Rattle.joint_run.specs.declared.due.Due.{Due}
use Rattle.joint_run.specs.declared.machine.Machine.{Machine}
use Rattle.mcs48_core.specs.declared.stepping.Stuck.{Stuck}
use Rattle.live_board.proofs.Stepping.{counted}
use Rattle.live_board.proofs.Timed.{few_cycles}
use Rattle.live_board.specs.Rising.{rose}
use Rattle.live_board.specs.declared.irq.Irq.{Irq}
use Rattle.live_board.specs.declared.parts.Parts.{Parts as Keyboard}

-- a line that stays as it is doesn't rise
same_number : (n : ℕ) → (n == n) ≡ true
same_number n = grind (arith, nat_tests)

-- the interrupt line doesn't rise if it stays as it is
pub steady : (i : Irq) → rose i i ≡ false
steady i =
    ap (λ b. i.up && (not i.up || not b)) (same_number i.filled)
    ∙ (elim i.up as (λ b. (b && (not b || false)) ≡ false) [ true ↦ refl | false ↦ refl ])

-- what quiet steps keep, and how many they are
pub record AreCounted (n : ℕ) (old new : Machine) : Type 0 where
  pub outside : new.outside ≡ old.outside
  pub latch : new.mcu.p2 ≡ old.mcu.p2
  pub steps : new.steps ≡ old.steps + n
  pub cycles : old.cycle + n ≤ new.cycle

-- quiet steps leave the PC's side and port 2, and each takes a cycle or more
pub counted_quietly : (due : Due) (tick n : ℕ) (old new : Machine) → AreUneventful due tick n old new → AreCounted n old new
counted_quietly due tick zero old new h =
    let steps = ap (λ (m : Machine). m.steps) h in
    let cycle = ap (λ (m : Machine). m.cycle) h in
    record {
      outside = ap (λ (m : Machine). m.outside) h;
      latch = ap (λ (m : Machine). m.mcu.p2) h;
      steps = omega (arith, steps);
      cycles = omega (arith, cycle);
    }
counted_quietly due tick (suc n) old new h =
    let a = counted_quietly due tick n old h.0 h.1 in
    let q = h.2 in
    let before = a.steps in
    let passed = a.cycles in
    let some = q.some in
    let steps = ap (λ (m : Machine). m.steps) q.parts in
    let cycle = ap (λ (m : Machine). m.cycle) q.parts in
    record {
      outside = ap (λ (m : Machine). m.outside) q.parts ∙ a.outside;
      latch = q.latch ∙ a.latch;
      steps = omega (arith, before, steps);
      cycles = omega (arith, passed, cycle, some);
    }

-- how far a keyboard has gone on, by at most so many cycles of quiet steps and the step after them
pub record HasGoneFar (k new : Keyboard) (most : ℕ) : Type 0 where
  pub later : k.joint.cycle < new.joint.cycle
  pub more : k.joint.steps < new.joint.steps
  pub few : new.joint.steps ≤ suc (k.joint.steps + most)

-- it is later, and more steps were made, but no more than the cycles and one
pub gone_far : (k new : Keyboard) (most : ℕ) → HasGone k.due 2048 most k.joint (Ok new.seen) new.joint → HasGoneFar k new most
gone_far k new most g =
    let quiet = counted_quietly k.due 2048 g.count k.joint g.last g.quiet in
    let steps = quiet.steps in
    let cycles = quiet.cycles in
    let within = g.within in
    let last = counted k.due g.last new.joint new.seen g.step in
    let one = last.1 in
    let cycle = last.0 in
    let some = (few_cycles k.due g.last new.joint new.seen g.step).0 in
    record {
      later = omega (arith, cycles, cycle, some);
      more = omega (arith, steps, one);
      few = omega (arith, steps, cycles, within, one);
    }

-- a step that isn't made leaves the machine
pub stuck_same : (due : Due) (old new : Machine) (stuck : Stuck) (o : Option (World Beside)) → IsJointStep due old o (Err stuck) new → new ≡ old
stuck_same due old new stuck None h = h.1
stuck_same due old new stuck (Some w) h = absurd h

-- how far it has gone on if the processor is stuck after the quiet steps
pub record HasStuckNear (k new : Keyboard) (most : ℕ) : Type 0 where
  pub later : k.joint.cycle ≤ new.joint.cycle
  pub soon : new.joint.cycle ≤ k.joint.cycle + most
  pub more : k.joint.steps ≤ new.joint.steps
  pub few : new.joint.steps ≤ k.joint.steps + most

-- it is no earlier, and no more steps were made than the cycles
pub stuck_near : (k new : Keyboard) (most : ℕ) (stuck : Stuck) → HasGone k.due 2048 most k.joint (Err stuck) new.joint
    → HasStuckNear k new most
stuck_near k new most stuck g =
    let quiet = counted_quietly k.due 2048 g.count k.joint g.last g.quiet in
    let steps = quiet.steps in
    let cycles = quiet.cycles in
    let within = g.within in
    let is = stuck_same k.due g.last new.joint stuck (due_step k.due g.last) g.step in
    let step = ap (λ (m : Machine). m.steps) is in
    let cycle = ap (λ (m : Machine). m.cycle) is in
    record {
      later = omega (arith, cycles, cycle);
      soon = omega (arith, within, cycle);
      more = omega (arith, steps, step);
      few = omega (arith, steps, cycles, within, step);
    }
