-- Quiet steps of a run's machine.
use Rattle.std.proofs.Common.{◌≡◌, ◌≤◌, ◌%◌, ◌&&◌, ◌==◌, ℕ, zero, suc, ◌+◌, false, not, refl, ap, sym, subst, ◌∙◌, arith}
use Rattle.board_terms.specs.Edges.{AreInOrder}
use Rattle.run_probes.specs.Probes.{sight_of}
use Rattle.fw_kernel.specs.declared.labels.TheConstants.{TICK}
use Rattle.fw_ticks.specs.JointRun.{DecidesTick}
use Rattle.joint_feed.proofs.Going.{on_again, on_moved}
use Rattle.joint_feed.specs.Course.{IsOnCourse}
use Rattle.joint_feed.specs.Stories.{Story}
use Rattle.joint_feed.specs.declared.course.Course.{Course}
use Rattle.joint_glide.specs.Uneventful.{is_at, AreUneventful, IsUneventful}
use Rattle.joint_run.specs.Cycle.{outside_wires}
use Rattle.joint_run.specs.Joint.{joint_board}
use Rattle.joint_run.specs.Run.{seen}
use Rattle.joint_run.specs.declared.due.Due.{Due}
use Rattle.joint_run.specs.declared.machine.Machine.{Machine}
use Rattle.joint_run.specs.declared.outside.Outside.{Outside}
use Rattle.key_file.specs.Accepted.{IsThin}
use Rattle.mcs48_core.specs.Cpu.{Cpu}
use Rattle.mcs48_core.specs.Step.{takes_external, takes_timer}

-- the course with the machine elsewhere
abbrev pub moved : Course → Machine → Course
moved c m = record c { joint = m }

-- each takes a cycle at least, and is counted
pub quiet_counts : (due : Due) (tick_pc k : ℕ) (old new : Machine)
    → AreUneventful due tick_pc k old new → (old.cycle + k ≤ new.cycle) × (new.steps ≡ old.steps + k)
quiet_counts due tick_pc zero old new h =
    let cycle = ap (λ (m : Machine). m.cycle) h in
    let steps = ap (λ (m : Machine). m.steps) h in
    (omega (arith, cycle), omega (arith, steps))
quiet_counts due tick_pc (suc k) old new h =
    let q = h.2 in
    let before = quiet_counts due tick_pc k old h.0 h.1 in
    let cycle = ap (λ (m : Machine). m.cycle) q.parts in
    let steps = ap (λ (m : Machine). m.steps) q.parts in
    let some = q.some in
    let a = before.0 in
    let b = before.1 in
    (omega (arith, a, cycle, some), omega (arith, b, steps))

-- a quiet step changes no wire
pub same_wires : (due : Due) (m n : Machine) → IsUneventful due m n → (sight_of n).lines ≡ (sight_of m).lines
same_wires due m n q =
    let outside : n.outside ≡ m.outside = ap (λ (x : Machine). x.outside) q.parts in
    ap (λ p. outside_wires p n.outside) q.latch ∙ ap (λ (o : Outside). outside_wires m.mcu.p2 o) outside

-- where the counter is elsewhere no tick starts
pub off_tick : (m : Machine) → is_at TICK m ≡ false → DecidesTick m false
off_tick m off edges events w same =
    let at : (w.cpu.pc % 2048 == TICK) ≡ false = ap (λ (c : Cpu). c.pc % 2048 == TICK) same ∙ off in
    sym (ap (λ b. b && not (takes_external (seen (joint_board edges events) w) w.cpu) && not (takes_timer w.cpu)) at)

module _ (s : Story) (thin : IsThin s.edges) (order : AreInOrder s.edges) where
  -- the course goes on over a quiet step
  pub on_one : (c : Course) (new : Machine) → IsUneventful c.ahead.due c.joint new → IsOnCourse s c → IsOnCourse s (moved c new)
  on_one c new q h =
      let edges = q.edges in
      let host = q.host in
      on_moved s (record c { joint = new; seen = q.seen }) new c.seen c.fill refl
      (on_again s c new q.seen h thin order q.step q.run c.fill c.ahead q.some q.few h.fed (omega (arith, edges)) (omega (arith, host)))

  -- quiet steps leave the machine in its run
  pub on_quiet : (c : Course) (tick_pc k : ℕ) (last : Machine)
      → AreUneventful c.ahead.due tick_pc k c.joint last → IsOnCourse s c → IsOnCourse s (moved c last)
  on_quiet c tick_pc zero last e h = subst (λ (m : Machine). IsOnCourse s (moved c m)) (sym e) h
  on_quiet c tick_pc (suc k) last e h = on_one (moved c e.0) last e.2 (on_quiet c tick_pc k e.0 e.1 h)
