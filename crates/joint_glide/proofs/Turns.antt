-- A turn of the loop over quiet steps, by what its calls ensure.
use Rattle.std.proofs.Common.{◌≡◌, ◌≤◌, ◌<◌, ◌%◌, ◌==◌, ℕ, ◌+◌, ◌*◌, false, Some, Ok, Err, ap, sym, ◌∙◌, subst, arith}
use Rattle.std.specs.declared.result.Result.{Result}
use Rattle.board_terms.specs.declared.lines.Lines.{Lines}
use Rattle.mcs48_core.specs.Cpu.{Cpu}
use Rattle.mcs48_core.specs.Leap.{spun}
use Rattle.mcs48_core.specs.Step.{stepped, IsStep}
use Rattle.mcs48_core.specs.declared.stepping.Stuck.{Stuck}
use Rattle.joint_run.specs.Cycle.{outside_wires}
use Rattle.joint_run.specs.Due.{due_step, ended, machine_after, IsJointStep, IsSeen}
use Rattle.joint_run.specs.Edgeless.{without_edges}
use Rattle.joint_run.specs.declared.due.Due.{Due}
use Rattle.joint_run.specs.declared.due.Seen.{Seen}
use Rattle.joint_run.specs.declared.machine.Machine.{Machine}
use Rattle.joint_glide.specs.Calls.{pins_now}
use Rattle.joint_glide.specs.Uneventful.{seen_uneventfully, AreUneventful, HasGone}
use Rattle.joint_glide.specs.Still.{IsStillTo}
use Rattle.joint_glide.proofs.Stretches.{stood, ends_stuck, ends_written, gone, gone_stuck, jumped, one_more, one_reported}

-- all parts but the processor stay
pub parts_on : (old j x : Machine) → j ≡ record old { mcu = j.mcu } → x ≡ record j { mcu = x.mcu } → x ≡ record old { mcu = x.mcu }
parts_on old j x parts only = only ∙ ap (λ (m : Machine). record m { mcu = x.mcu }) parts

-- a machine of which the processor alone was changed twice differs from the first in its processor alone
pub parts_leapt : (old x end : Machine) (cpu : Cpu)
    → x ≡ record old { mcu = x.mcu } → end ≡ record x { mcu = cpu } → end ≡ record old { mcu = end.mcu }
parts_leapt old x end cpu parts e =
    e ∙ ap (λ (m : Machine). record m { mcu = cpu }) parts ∙ ap (λ (c : Cpu). record old { mcu = c }) (sym (ap (λ (m : Machine). m.mcu) e))

-- the loop is at a machine that differs from the first in its processor alone, and counts beside it
module _ (due : Due) (tick_pc : ℕ) (old j : Machine) (room steps passed : ℕ) (still : IsStillTo due old (old.cycle + room))
    (parts : j ≡ record old { mcu = j.mcu }) (latch : j.mcu.p2 ≡ old.mcu.p2)
    (quiet : AreUneventful due tick_pc steps old (stood old j.mcu steps passed))
    (test : passed + 1 < room) where
  abbrev here : Machine
  here = stood old j.mcu steps passed

  within : here.cycle ≤ old.cycle + room
  within = omega (arith, test)

  before_end : old.cycle + passed < old.cycle + room
  before_end = omega (arith, test)

  -- the processor's call
  called : (result : Result ℕ Stuck) (next : Cpu) → IsStep j.image.bytes j.mcu (stepped j.image.bytes (pins_now j) j.mcu) result next
      → IsStep old.image.bytes j.mcu (stepped old.image.bytes (pins_now here) j.mcu) result next
  called result next h = subst (λ (x : Machine). IsStep x.image.bytes j.mcu (stepped x.image.bytes (pins_now x) j.mcu) result next) parts h

  -- what was counted beside it is counted in it
  module _ (x new : Machine) (only : x ≡ record j { mcu = x.mcu }) where
    counted : (n c : ℕ) → new ≡ record x { cycle = x.cycle + c; steps = x.steps + n } → new ≡ stood old x.mcu n c
    counted n c e =
        e ∙ ap (λ (m : Machine). record m { mcu = x.mcu; cycle = m.cycle + c; steps = m.steps + n }) only
        ∙ ap (λ (m : Machine). record m { mcu = x.mcu; cycle = m.cycle + c; steps = m.steps + n }) parts

    -- a turn whose step is stuck ends the stretch as stuck
    pub turn_stuck : (stuck : Stuck) → IsStep j.image.bytes j.mcu (stepped j.image.bytes (pins_now j) j.mcu) (Err stuck) x.mcu
        → new ≡ record x { cycle = x.cycle + passed; steps = x.steps + steps } → HasGone due tick_pc room old (Err stuck) new
    turn_stuck stuck h e =
        gone_stuck due tick_pc old (old.cycle + room) still steps room here new stuck quiet within
        (subst (λ (n : Machine). IsJointStep due here (due_step due here) (Err stuck) n) (sym (counted steps passed e))
        (ends_stuck due tick_pc old (old.cycle + room) still j.mcu steps passed latch stuck x.mcu before_end (called (Err stuck) x.mcu h)))

    module _ (cycles : ℕ) (some : 0 < cycles) (few : cycles < 3)
        (h : IsStep j.image.bytes j.mcu (stepped j.image.bytes (pins_now j) j.mcu) (Ok cycles) x.mcu) where
      -- a turn whose step puts port 2 ends the stretch with that step, outside included
      pub turn_written : (end : Machine) (seen : Seen) → new ≡ record x { cycle = x.cycle + passed; steps = x.steps + steps }
          → end ≡ machine_after (without_edges due) new (ended cycles due new)
          → IsSeen (without_edges due) new (ended cycles due new) seen → seen.cycles ≡ cycles
          → HasGone due tick_pc room old (Ok seen) end × ((0 < seen.cycles) × (seen.cycles < 3))
      turn_written end seen e ends says_so count =
          let at : new ≡ stood old x.mcu steps passed = counted steps passed e in
          let is : IsJointStep due here (due_step due here) (Ok seen) end =
          ends_written due tick_pc old (old.cycle + room) still j.mcu steps passed latch cycles x.mcu seen
          end before_end (called (Ok cycles) x.mcu h) count
          (ends ∙ ap (λ (m : Machine). machine_after (without_edges due) m (ended cycles due m)) at)
          (subst (λ (m : Machine). IsSeen (without_edges due) m (ended cycles due m) seen) at says_so) in
          let more : 0 < seen.cycles = omega (arith, some, count) in
          let less : seen.cycles < 3 = omega (arith, few, count) in
          (gone due tick_pc old (old.cycle + room) still steps room here end seen quiet within is more less, (more, less))

      module _ (kept : x.mcu.p2 ≡ j.mcu.p2) where
        in_room : old.cycle + passed + cycles ≤ old.cycle + room
        in_room = omega (arith, few, test)

        -- a turn may end the stretch with its step in still cycles
        pub turn_reported : (line : Lines) (seen : Seen) → line ≡ outside_wires old.mcu.p2 old.outside
            → new ≡ record x { cycle = x.cycle + (passed + cycles); steps = x.steps + (steps + 1) } → seen ≡ seen_uneventfully cycles line
            → HasGone due tick_pc room old (Ok seen) new × ((0 < seen.cycles) × (seen.cycles < 3))
        turn_reported line seen wires e says_so =
            let same : seen_uneventfully cycles (outside_wires j.mcu.p2 old.outside) ≡ seen =
            ap (λ p. seen_uneventfully cycles (outside_wires p old.outside)) latch ∙ ap (seen_uneventfully cycles) (sym wires) ∙ sym says_so in
            let is : IsJointStep due here (due_step due here) (Ok seen) new =
            subst (λ (s : Seen). IsJointStep due here (due_step due here) (Ok s) new) same
            (subst (λ (n : Machine).
            IsJointStep due here (due_step due here) (Ok (seen_uneventfully cycles (outside_wires j.mcu.p2 old.outside))) n)
            (sym (counted (steps + 1) (passed + cycles) e))
            (one_reported due tick_pc old (old.cycle + room) still j.mcu steps passed latch cycles x.mcu some
            few kept in_room (called (Ok cycles) x.mcu h))) in
            let count : seen.cycles ≡ cycles = ap (λ (s : Seen). s.cycles) says_so in
            let more : 0 < seen.cycles = omega (arith, some, count) in
            let less : seen.cycles < 3 = omega (arith, few, count) in
            (gone due tick_pc old (old.cycle + room) still steps room here new seen quiet within is more less, (more, less))

        -- a turn whose step is still and leads to no tick start goes on
        pub turn_on : (x.mcu.pc % 2048 == tick_pc) ≡ false → AreUneventful due tick_pc (steps + 1) old (stood old x.mcu (steps + 1) (passed + cycles))
        turn_on off =
            one_more due tick_pc old (old.cycle + room) still j.mcu steps passed latch cycles x.mcu some few
            kept in_room (called (Ok cycles) x.mcu h) quiet off

        -- and jumps to where the processor is then
        pub turn_leapt : (end : Machine) (jumps : ℕ) → (x.mcu.pc % 2048 == tick_pc) ≡ false → spun 0 x.mcu ≡ x.mcu
            → ((k : ℕ) → k < jumps
            → stepped x.image.bytes (pins_now x) (spun k x.mcu) ≡ Some (record { cpu = spun (k + 1) x.mcu; cycles = 2 }))
            → end ≡ record x { mcu = spun jumps x.mcu } → passed + cycles + 2 * jumps ≤ room
            → AreUneventful due tick_pc (steps + 1 + jumps) old (stood old end.mcu (steps + 1 + jumps) (passed + cycles + 2 * jumps))
        turn_leapt end jumps off start each e low =
            let all : x ≡ record old { mcu = x.mcu } = parts_on old j x parts only in
            let more : (k : ℕ) → k < jumps
            → stepped old.image.bytes (pins_now (stood old x.mcu (steps + 1) (passed + cycles))) (spun k x.mcu)
            ≡ Some (record { cpu = spun (k + 1) x.mcu; cycles = 2 }) =
            λ k below. subst
            (λ (m : Machine). stepped m.image.bytes (pins_now m) (spun k x.mcu)
            ≡ Some (record { cpu = spun (k + 1) x.mcu; cycles = 2 })) all (each k below) in
            let at : end.mcu ≡ spun jumps x.mcu = ap (λ (m : Machine). m.mcu) e in
            subst (λ (c : Cpu). AreUneventful due tick_pc (steps + 1 + jumps) old (stood old c (steps + 1 + jumps) (passed + cycles + 2 * jumps)))
            (sym at)
            (jumped due tick_pc old (old.cycle + room) still x.mcu (steps + 1) (passed + cycles) jumps (kept ∙ latch)
            start off more (omega (arith, low)) (turn_on off))
