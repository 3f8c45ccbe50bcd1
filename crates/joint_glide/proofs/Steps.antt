-- A step of the processor alone, in cycles in which nothing changes outside it, is a joint step.
use Rattle.std.proofs.Common.{◌≡◌, ◌≤◌, ◌<◌, ℕ, suc, zero, ◌+◌, List, [], ◌∷◌, ◌++◌, length}
use Rattle.std.proofs.Common.{Some, None, Ok, Err, refl, ap, sym, ◌∙◌, subst, arith}
use Rattle.std.specs.Prelude.{if◌then◌else◌, slice_get}
use Rattle.std.specs.declared.option.Option.{Option}
use Rattle.board_terms.specs.declared.event.HostEvent.{HostEvent}
use Rattle.board_terms.specs.declared.lines.Lines.{Lines}
use Rattle.board_terms.specs.Matrix.{turned_by}
use Rattle.mcs48_core.specs.Cpu.{Cpu}
use Rattle.mcs48_core.specs.Step.{Stepped, stepped, IsStep}
use Rattle.mcs48_core.specs.declared.stepping.Stuck.{Stuck}
use Rattle.ctl_wire.specs.Wires.{wires}
use Rattle.joint_run.specs.Run.{after_step}
use Rattle.joint_run.specs.Joint.{Beside, joint_cycle, latch_of, pins_by}
use Rattle.joint_run.specs.Cycle.{Passed, outside_wires}
use Rattle.joint_run.specs.Due.{beside, ended, outside_of, passed, made_first, keys_in_step, due_board}
use Rattle.joint_run.specs.Due.{world_of, due_step, machine_after, IsSeen, IsJointStep}
use Rattle.joint_run.specs.Edgeless.{without_edges}
use Rattle.joint_run.specs.declared.due.Due.{Due}
use Rattle.joint_run.specs.declared.due.Seen.{Seen}
use Rattle.joint_run.specs.declared.machine.Machine.{Machine}
use Rattle.joint_run.specs.declared.outside.Outside.{Outside}
use Rattle.joint_run.proofs.OneStep.{step_of_run}
use Rattle.joint_run.proofs.Passing.{cycle_is}
use Rattle.joint_run.proofs.Stepping.{by_step, came}
use Rattle.joint_glide.specs.Calls.{pins_now}
use Rattle.joint_glide.specs.Uneventful.{seen_uneventfully, IsUneventful}
use Rattle.joint_glide.specs.Still.{IsStill}

-- still cycles pass
module _ (events : List HostEvent) (p2 : ℕ) (o : Outside) where
  one_passes : (now : ℕ) → IsStill now p2 (slice_get events 0) o → joint_cycle events p2 now (beside o 0 []) ≡ beside o 0 []
  one_passes now h =
      cycle_is events p2 now o 0 [] ∙ ap (λ (c : Passed). beside c.outside (if c.done then 0 + 1 else 0) ([] ++ c.items)) h

  -- in still cycles nothing is done, said or changed outside the processor
  pub still_passes : (cycles now : ℕ)
      → 0 < cycles → cycles < 3 → ((c : ℕ) → now ≤ c → c < now + cycles → IsStill c p2 (slice_get events 0) o)
      → passed cycles now p2 events o ≡ beside o 0 []
  still_passes zero now some few h = absurd (omega (arith, some))
  still_passes (suc zero) now some few h = one_passes now (h now (omega arith) (omega arith))
  still_passes (suc (suc zero)) now some few h =
      ap (λ (s : Beside). joint_cycle events p2 (now + 1) s) (one_passes now (h now (omega arith) (omega arith)))
      ∙ one_passes (now + 1) (h (now + 1) (omega arith) (omega arith))
  still_passes (suc (suc (suc n))) now some few h = absurd (omega (arith, few))

-- no edge is made
module _ (due : Due) (m : Machine) (none : made_first m.cycle due.edges.items ≡ []) where
  -- if no edge is due, the keys are as they were
  pub same_keys : keys_in_step due m ≡ m.matrix
  same_keys = ap (λ es. turned_by es m.matrix) none

  same_pins : pins_now m ≡ pins_by (keys_in_step due m) m.mcu.p1 m.mcu.p2 (beside m.outside 0 [])
  same_pins = ap (λ k. pins_by k m.mcu.p1 m.mcu.p2 (beside m.outside 0 [])) (sym same_keys)

  -- the cycles of a step, whose part the processor has made, have passed
  pub ended_so : (cycles : ℕ) (cpu : Cpu) (seen : Seen) (new : Machine)
      → IsStep m.image.bytes m.mcu (stepped m.image.bytes (pins_now m) m.mcu) (Ok cycles) cpu → seen.cycles ≡ cycles
      → new ≡ machine_after (without_edges due) (record m { mcu = cpu }) (ended cycles due (record m { mcu = cpu }))
      → IsSeen (without_edges due) (record m { mcu = cpu }) (ended cycles due (record m { mcu = cpu })) seen
      → IsJointStep due m (due_step due m) (Ok seen) new
  ended_so cycles cpu seen new h count e s =
      let at : new ≡ machine_after due m (came due m cycles cpu) =
      e ∙ ap (λ k. record (machine_after due m (came due m cycles cpu)) { matrix = k }) (sym same_keys) in
      let with_seen : IsSeen due m (came due m cycles cpu) seen = record {
        cycles = s.cycles;
        edges = s.edges ∙ sym (ap length none);
        host = s.host;
        items = s.items;
        lines = s.lines;
      } in
      by_step due m seen new cpu (pins_now m) same_pins
      (subst (λ k. IsStep m.image.bytes m.mcu (stepped m.image.bytes (pins_now m) m.mcu) (Ok k) cpu) (sym count) h)
      (subst (λ k. new ≡ machine_after due m (came due m k cpu)) (sym count) at)
      (subst (λ k. IsSeen due m (came due m k cpu) seen) (sym count) with_seen)

  -- the processor is stuck
  stuck_by : (stuck : Stuck) (cpu : Cpu) (o : Option Stepped) → IsStep m.image.bytes m.mcu o (Err stuck) cpu
      → IsJointStep due m (after_step (due_board due m) (world_of m) o) (Err stuck) (record m { mcu = cpu })
  stuck_by stuck cpu None h = (cc h.0, ap (λ c. record m { mcu = c }) h.1)
  stuck_by stuck cpu (Some n) h = absurd (cc h.0)

  -- if no edge is due and the processor is stuck, the joint step is stuck, and nothing else changes
  pub stuck_so : (stuck : Stuck) (cpu : Cpu) → IsStep m.image.bytes m.mcu (stepped m.image.bytes (pins_now m) m.mcu) (Err stuck) cpu
      → IsJointStep due m (due_step due m) (Err stuck) (record m { mcu = cpu })
  stuck_so stuck cpu h =
      stuck_by stuck cpu (stepped m.image.bytes (pins_by (keys_in_step due m) m.mcu.p1 m.mcu.p2 (beside m.outside 0 [])) m.mcu)
      (subst (λ p. IsStep m.image.bytes m.mcu (stepped m.image.bytes p m.mcu) (Err stuck) cpu) same_pins h)

  -- nothing changes outside
  module _ (cycles : ℕ) (cpu : Cpu) (some : 0 < cycles) (few : cycles < 3) (latch : cpu.p2 ≡ m.mcu.p2)
      (still : (c : ℕ) → m.cycle ≤ c → c < m.cycle + cycles → IsStill c m.mcu.p2 (slice_get due.host.items 0) m.outside)
      (h : IsStep m.image.bytes m.mcu (stepped m.image.bytes (pins_now m) m.mcu) (Ok cycles) cpu) where
    -- the machine after the step
    abbrev pub quietly_on : Machine
    quietly_on = record m { mcu = cpu; cycle = m.cycle + cycles; steps = m.steps + 1 }

    abbrev line : Lines
    line = outside_wires m.mcu.p2 m.outside

    all_pass : passed cycles m.cycle cpu.p2 due.host.items m.outside ≡ beside m.outside 0 []
    all_pass =
        ap (λ p. passed cycles m.cycle p due.host.items m.outside) latch
        ∙ still_passes due.host.items m.mcu.p2 m.outside cycles m.cycle some few still

    first_passes : passed 1 m.cycle cpu.p2 due.host.items m.outside ≡ beside m.outside 0 []
    first_passes =
        ap (λ p. passed 1 m.cycle p due.host.items m.outside) latch
        ∙ still_passes due.host.items m.mcu.p2 m.outside 1 m.cycle (omega arith) (omega arith) (λ c l u. still c l (omega (arith, u, some)))

    lines_of : (s : Beside) → s ≡ beside m.outside 0 [] → line ≡ wires (latch_of cpu.p2) s.pc
    lines_of s e =
        ap (λ p. wires (latch_of p) (beside m.outside 0 []).pc) (sym latch) ∙ ap (λ (t : Beside). wires (latch_of cpu.p2) t.pc) (sym e)

    -- a step of the processor in still cycles is the joint step, and says nothing
    pub quiet_step : IsJointStep due m (due_step due m) (Ok (seen_uneventfully cycles line)) quietly_on
    quiet_step =
        by_step due m (seen_uneventfully cycles line) quietly_on cpu (pins_now m) same_pins h
        (ap (λ k. record quietly_on { matrix = k }) (sym same_keys)
        ∙ ap (λ (s : Beside). record quietly_on { matrix = keys_in_step due m; outside = outside_of s }) (sym all_pass))
        (record {
          cycles = refl;
          edges = sym (ap length none);
          host = ap (λ (s : Beside). s.pc.side.done) (sym all_pass);
          items = ap (λ (s : Beside). s.pc.side.log) (sym all_pass);
          lines = ap (λ l. l ∷ line ∷ []) (lines_of (passed 1 m.cycle cpu.p2 due.host.items m.outside) first_passes)
              ∙ ap (λ l. wires (latch_of cpu.p2) (passed 1 m.cycle cpu.p2 due.host.items m.outside).pc ∷ l ∷ [])
              (lines_of (passed cycles m.cycle cpu.p2 due.host.items m.outside) all_pass);
        })

    -- a step of the processor in still cycles is a quiet step
    pub is_quiet : IsUneventful due m quietly_on
    is_quiet = record {
      seen = seen_uneventfully cycles line;
      step = quiet_step;
      run = step_of_run due m (Ok (seen_uneventfully cycles line)) quietly_on quiet_step (some, few);
      some = some;
      few = few;
      edges = refl;
      host = refl;
      items = refl;
      latch = latch;
      parts = refl;
    }
