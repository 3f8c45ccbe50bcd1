-- Quiet steps, one after another.
use Rattle.std.proofs.Common.{◌≡◌, ◌≤◌, ◌<◌, ℕ, suc, zero, ◌+◌, ◌*◌, ◌%◌, ◌==◌, [], false, Some}
use Rattle.std.proofs.Common.{Ok, Err, refl, ap, sym, ◌∙◌, subst, arith, add-one}
use Rattle.std.specs.Prelude.{slice_get}
use Rattle.std.specs.declared.option.Option.{Option}
use Rattle.mcs48_core.specs.Cpu.{Cpu}
use Rattle.mcs48_core.specs.Leap.{spun}
use Rattle.mcs48_core.specs.Step.{Stepped, stepped, IsStep}
use Rattle.mcs48_core.specs.declared.stepping.Stuck.{Stuck}
use Rattle.joint_run.specs.Cycle.{outside_wires}
use Rattle.joint_run.specs.Due.{ended, made_first, due_step, machine_after, IsSeen, IsJointStep}
use Rattle.joint_run.specs.Edgeless.{without_edges}
use Rattle.joint_run.specs.declared.due.Due.{Due}
use Rattle.joint_run.specs.declared.due.Seen.{Seen}
use Rattle.joint_run.specs.declared.machine.Machine.{Machine}
use Rattle.joint_run.specs.declared.outside.Outside.{Outside}
use Rattle.joint_run.proofs.OneStep.{step_of_run}
use Rattle.joint_glide.specs.Calls.{pins_now, AreCalls}
use Rattle.joint_glide.specs.Uneventful.{seen_uneventfully, AreUneventful, HasGone, IsUneventful}
use Rattle.joint_glide.specs.Still.{IsStill, IsStillTo}
use Rattle.joint_glide.proofs.Steps.{ended_so, is_quiet, quiet_step, stuck_so}

-- the machine after so many steps of so many cycles together, with this processor
abbrev pub stood : Machine → Cpu → ℕ → ℕ → Machine
stood m cpu steps passed = record m { mcu = cpu; cycle = m.cycle + passed; steps = m.steps + steps }

same_stood : (m : Machine) (cpu : Cpu) (cycle cycle' steps steps' : ℕ) → cycle ≡ cycle' → steps ≡ steps'
    → record m { mcu = cpu; cycle = cycle; steps = steps } ≡ record m { mcu = cpu; cycle = cycle'; steps = steps' }
same_stood m cpu cycle cycle' steps steps' a b =
    ap (λ c. record m { mcu = cpu; cycle = c; steps = steps }) a ∙ ap (λ s. record m { mcu = cpu; cycle = cycle'; steps = s }) b

module _ (due : Due) (tick_pc : ℕ) (old : Machine) (to : ℕ) (still : IsStillTo due old to) where
  -- before the first step a stretch of quiet steps is empty
  pub none_yet : AreUneventful due tick_pc 0 old (stood old old.mcu 0 0)
  none_yet = same_stood old old.mcu (old.cycle + 0) old.cycle (old.steps + 0) old.steps (omega arith) (omega arith)

  module _ (cpu : Cpu) (steps passed : ℕ) (latch : cpu.p2 ≡ old.mcu.p2) where
    abbrev here : Machine
    here = stood old cpu steps passed

    none_made : old.cycle + passed < to → made_first here.cycle due.edges.items ≡ []
    none_made room = still.edges (old.cycle + passed) (omega arith) room

    still_here : (cycles : ℕ) → old.cycle + passed + cycles ≤ to → (c : ℕ) → here.cycle ≤ c → c < here.cycle + cycles
        → IsStill c cpu.p2 (slice_get due.host.items 0) old.outside
    still_here cycles room c l u =
        subst (λ p. IsStill c p (slice_get due.host.items 0) old.outside) (sym latch)
        (still.still c (omega (arith, l)) (omega (arith, u, room)))

    -- the machine after one step more
    on_one : (next : Cpu) (cycles : ℕ)
        → record here { mcu = next; cycle = here.cycle + cycles; steps = here.steps + 1 } ≡ stood old next (steps + 1) (passed + cycles)
    on_one next cycles =
        same_stood old next (old.cycle + passed + cycles) (old.cycle + (passed + cycles)) (old.steps + steps + 1)
        (old.steps + (steps + 1)) (omega arith) (omega arith)

    module _ (cycles : ℕ) (next : Cpu) (some : 0 < cycles) (few : cycles < 3) (kept : next.p2 ≡ cpu.p2)
        (room : old.cycle + passed + cycles ≤ to)
        (h : IsStep old.image.bytes cpu (stepped old.image.bytes (pins_now here) cpu) (Ok cycles) next) where
      before_end : old.cycle + passed < to
      before_end = omega (arith, some, room)

      -- the step is quiet
      pub one_quiet : IsUneventful due here (stood old next (steps + 1) (passed + cycles))
      one_quiet =
          subst (λ (n : Machine). IsUneventful due here n) (on_one next cycles)
          (is_quiet due here (none_made before_end) cycles next some few kept (still_here cycles room) h)

      -- a step after quiet ones is a joint step from the machine that they left
      pub one_reported : IsJointStep due here (due_step due here) (Ok (seen_uneventfully cycles (outside_wires cpu.p2 old.outside)))
          (stood old next (steps + 1) (passed + cycles))
      one_reported =
          subst (λ (n : Machine). IsJointStep due here (due_step due here) (Ok (seen_uneventfully cycles (outside_wires cpu.p2 old.outside))) n)
          (on_one next cycles)
          (quiet_step due here (none_made before_end) cycles next some few kept (still_here cycles room) h)

      -- with one quiet step more that leads to no tick start the steps are quiet
      pub one_more : AreUneventful due tick_pc steps old here
          → (next.pc % 2048 == tick_pc) ≡ false → AreUneventful due tick_pc (steps + 1) old (stood old next (steps + 1) (passed + cycles))
      one_more quiet off =
          subst (λ (k : ℕ). AreUneventful due tick_pc k old (stood old next (steps + 1) (passed + cycles)))
          (sym (add-one steps)) (here, quiet, one_quiet, off)

    -- the last step writes port 2
    pub ends_written : (cycles : ℕ) (next : Cpu) (seen : Seen) (new : Machine) → old.cycle + passed < to
        → IsStep old.image.bytes cpu (stepped old.image.bytes (pins_now here) cpu) (Ok cycles) next → seen.cycles ≡ cycles
        → new ≡ machine_after (without_edges due) (stood old next steps passed) (ended cycles due (stood old next steps passed))
        → IsSeen (without_edges due) (stood old next steps passed) (ended cycles due (stood old next steps passed)) seen
        → IsJointStep due here (due_step due here) (Ok seen) new
    ends_written cycles next seen new room h count e s = ended_so due here (none_made room) cycles next seen new h count e s

    -- if the processor is stuck after quiet steps, the joint step is stuck
    pub ends_stuck : (stuck : Stuck) (next : Cpu) → old.cycle + passed < to
        → IsStep old.image.bytes cpu (stepped old.image.bytes (pins_now here) cpu) (Err stuck) next
        → IsJointStep due here (due_step due here) (Err stuck) (stood old next steps passed)
    ends_stuck stuck next room h = stuck_so due here (none_made room) stuck next h

  renumbered : (cpu : Cpu) (steps steps' passed passed' : ℕ)
      → steps ≡ steps' → passed ≡ passed' → AreUneventful due tick_pc steps old (stood old cpu steps passed)
      → AreUneventful due tick_pc steps' old (stood old cpu steps' passed')
  renumbered cpu steps steps' passed passed' a b quiet =
      subst (λ (n : ℕ). AreUneventful due tick_pc steps' old (stood old cpu steps' n)) b
      (subst (λ (n : ℕ). AreUneventful due tick_pc n old (stood old cpu n passed)) a quiet)

  -- jumps to where the processor is
  pub jumped : (cpu : Cpu) (steps passed count : ℕ) → cpu.p2 ≡ old.mcu.p2 → spun 0 cpu ≡ cpu → (cpu.pc % 2048 == tick_pc) ≡ false
      → ((j : ℕ) → j < count
      → stepped old.image.bytes (pins_now (stood old cpu steps passed)) (spun j cpu)
      ≡ Some (record { cpu = spun (j + 1) cpu; cycles = 2 }))
      → old.cycle + passed + 2 * count ≤ to → AreUneventful due tick_pc steps old (stood old cpu steps passed)
      → AreUneventful due tick_pc (steps + count) old (stood old (spun count cpu) (steps + count) (passed + 2 * count))
  jumped cpu steps passed zero latch start off each room quiet =
      subst (λ (k : ℕ). AreUneventful due tick_pc k old (stood old (spun 0 cpu) (steps + 0) (passed + 2 * 0))) (omega arith)
      (subst (λ (n : Machine). AreUneventful due tick_pc steps old n)
      (ap (λ c. stood old c steps passed) (sym start)
      ∙ same_stood old (spun 0 cpu) (old.cycle + passed) (old.cycle + (passed + 2 * 0)) (old.steps + steps)
      (old.steps + (steps + 0)) (omega arith) (omega arith)) quiet)
  jumped cpu steps passed (suc count) latch start off each room quiet =
      let before = jumped cpu steps passed count latch start off (λ j below. each j (omega (arith, below))) (omega (arith, room)) quiet in
      let made : stepped old.image.bytes (pins_now (stood old cpu steps passed)) (spun count cpu)
      ≡ Some (record { cpu = spun (count + 1) cpu; cycles = 2 }) = each count (omega arith) in
      let is : IsStep old.image.bytes (spun count cpu) (stepped old.image.bytes (pins_now (stood old cpu steps passed)) (spun count cpu))
      (Ok 2) (spun (count + 1) cpu) =
      subst (λ (o : Option Stepped). IsStep old.image.bytes (spun count cpu) o (Ok 2) (spun (count + 1) cpu)) (sym made) (refl, refl) in
      let more : AreUneventful due tick_pc (steps + count + 1) old (stood old (spun (count + 1) cpu) (steps + count + 1) (passed + 2 * count + 2)) =
      one_more (spun count cpu) (steps + count) (passed + 2 * count) latch 2 (spun (count + 1) cpu) (omega arith)
      (omega arith) refl (omega (arith, room)) is before off in
      subst (λ (k : ℕ). AreUneventful due tick_pc (steps + k) old (stood old (spun k cpu) (steps + k) (passed + 2 * k))) (add-one count)
      (renumbered (spun (count + 1) cpu) (steps + count + 1) (steps + (count + 1)) (passed + 2 * count + 2)
      (passed + 2 * (count + 1)) (omega arith) (omega arith) more)

  -- the stretch, and its last step
  pub gone : (steps room : ℕ) (last new : Machine) (seen : Seen) → AreUneventful due tick_pc steps old last → last.cycle ≤ old.cycle + room
      → IsJointStep due last (due_step due last) (Ok seen) new → 0 < seen.cycles → seen.cycles < 3 → HasGone due tick_pc room old (Ok seen) new
  gone steps room last new seen quiet within is some few = record {
    count = steps;
    last = last;
    quiet = quiet;
    within = within;
    step = is;
    run = step_of_run due last (Ok seen) new is (some, few);
  }

  -- quiet steps and then a stuck one are a stretch that ends stuck
  pub gone_stuck : (steps room : ℕ) (last new : Machine) (stuck : Stuck) → AreUneventful due tick_pc steps old last → last.cycle ≤ old.cycle + room
      → IsJointStep due last (due_step due last) (Err stuck) new → HasGone due tick_pc room old (Err stuck) new
  gone_stuck steps room last new stuck quiet within is = record {
    count = steps;
    last = last;
    quiet = quiet;
    within = within;
    step = is;
    run = step_of_run due last (Err stuck) new is tt;
  }

-- calls keep all but the processor and the counts
pub record IsKept (old new : Machine) : Type 0 where
  pub parts : new ≡ record old { mcu = new.mcu; cycle = new.cycle; steps = new.steps }
  pub latch : new.mcu.p2 ≡ old.mcu.p2
  pub later : old.cycle ≤ new.cycle

kept : (tick_pc k : ℕ) (old new : Machine) → AreCalls tick_pc k old new → IsKept old new
kept tick_pc zero old new h =
    subst (λ (n : Machine). IsKept old n) (sym h) (record { parts = refl; latch = refl; later = omega arith })
kept tick_pc (suc k) old new h =
    let between = h.0 in
    let a = kept tick_pc k old between h.1 in
    let c = h.2 in
    let at = ap (λ (n : Machine). n.cycle) c.parts in
    let since = a.later in
    record {
      parts = c.parts
          ∙ ap (λ (n : Machine). record n { mcu = new.mcu; cycle = between.cycle + c.cycles; steps = between.steps + 1 }) a.parts
          ∙ ap (λ n. record old { mcu = new.mcu; cycle = n; steps = between.steps + 1 }) (sym at)
          ∙ ap (λ n. record old { mcu = new.mcu; cycle = new.cycle; steps = n }) (sym (ap (λ (n : Machine). n.steps) c.parts));
      latch = c.latch ∙ a.latch;
      later = omega (arith, at, since);
    }

-- in still cycles they are quiet joint steps
pub calls_are_quiet : (due : Due) (tick_pc k to : ℕ) (old new : Machine)
    → IsStillTo due old to → AreCalls tick_pc k old new → new.cycle ≤ to → AreUneventful due tick_pc k old new
calls_are_quiet due tick_pc zero to old new still h room = h
calls_are_quiet due tick_pc (suc k) to old new still h room =
    let between = h.0 in
    let c = h.2 in
    let a = kept tick_pc k old between h.1 in
    let at : new.cycle ≡ between.cycle + c.cycles = ap (λ (n : Machine). n.cycle) c.parts in
    let since = a.later in
    let some = c.some in
    let outside : between.outside ≡ old.outside = ap (λ (n : Machine). n.outside) a.parts in
    let still_now : (y : ℕ)
    → between.cycle ≤ y → y < between.cycle + c.cycles → IsStill y between.mcu.p2 (slice_get due.host.items 0) between.outside =
    λ y l u.
    subst (λ p. IsStill y p (slice_get due.host.items 0) between.outside) (sym a.latch)
    (subst (λ (o : Outside). IsStill y old.mcu.p2 (slice_get due.host.items 0) o) (sym outside)
    (still.still y (omega (arith, l, since)) (omega (arith, u, at, room)))) in
    let is : IsStep between.image.bytes between.mcu (stepped between.image.bytes (pins_now between) between.mcu) (Ok c.cycles) new.mcu =
    subst (λ (o : Option Stepped). IsStep between.image.bytes between.mcu o (Ok c.cycles) new.mcu) (sym c.step) (refl, refl) in
    let quiet : IsUneventful due between new =
    subst (λ (n : Machine). IsUneventful due between n) (sym c.parts)
    (is_quiet due between (still.edges between.cycle since (omega (arith, some, at, room)))
    c.cycles new.mcu c.some c.few c.latch still_now is) in
    (between, calls_are_quiet due tick_pc k to old between still h.1 (omega (arith, at, room)), quiet, h.3)
