-- A run on the board says the beginning of a layout's run.
use Rattle.std.proofs.Common.{◌≡◌, ◌≤◌, ◌<◌, ℕ, zero, suc, ◌+◌, ◌-◌, Bool, true, false, List, ◌++◌}
use Rattle.std.proofs.Common.{ltb, Some, refl, ap, sym, subst, ◌∙◌, arith}
use Rattle.std.proofs.lemmas.Bool.Decides.{nat_tests}
use Rattle.run_loop.specs.declared.ending.End.{End}
use Rattle.run_loop.specs.declared.ending.End.TheVariants.{Reached, Stuck}
use Rattle.law_runs_agree.specs.Boards.{SaysRun}
use Rattle.run_program.specs.BoardOutcomes.{IsOutcome, Outcome}
use Rattle.run_loop.specs.declared.ending.Ending.TheVariants.{Stamp}
use Rattle.fw_ticks.specs.JointRun.{KeepsTimeFrom}
use Rattle.host_turn.specs.declared.stamped.Stamped.{Stamped}
use Rattle.joint_feed.proofs.Going.{same_state}
use Rattle.joint_feed.specs.Stories.{Story, state_at}
use Rattle.joint_run.specs.Joint.{Beside, joint_start_of}
use Rattle.joint_run.specs.Run.{World}
use Rattle.subsystem.proofs.Timekeeping.{reaches_end}
use Rattle.run_loop.specs.Running.{AreIn, EndsAt, GoesOnTo, is_over}
use Rattle.subsystem.specs.LayoutOutcomes.{lines_of}
use Rattle.subsystem.specs.LayoutOutcomes as layout
use Rattle.std.proofs.lemmas.List.{append_assoc}
use Rattle.run_wires.proofs.TraceIsSaid.{later_changes}
use Rattle.run_wires.specs.Text.{header}
use Rattle.run_wires.specs.Trace.{changes_to}
use Rattle.run_loop.proofs.Steps.{on_at, said_between, step_later}

module _ (s : Story) (t : KeepsTimeFrom (joint_start_of s.held) s.bytes s.edges s.events) where
  -- it is never stuck
  ends_over : (k : ℕ) (w : World Beside) (end : End) → EndsAt Stamp s k w end → end ≡ Reached
  ends_over k w Reached h = refl
  ends_over k w (Stuck place) h =
      let on = t.goes_on (suc k) in
      let there : state_at s (suc k) ≡ Some on.0 = on.1 in
      let none = h.none in
      absurd (cc (none, there))

  -- it ends at the end stamp or a cycle later
  soon : (k : ℕ) (v : World Beside) → GoesOnTo Stamp s k → state_at s k ≡ Some v → 4096 ≤ v.cycle → v.cycle < 4096 + s.stop + 2
  soon zero v on there l =
      let first : 0 ≡ v.cycle = ap (λ (u : World Beside). u.cycle) (same_state there) in
      absurd (omega (arith, first, l))
  soon (suc k) v on there l =
      let few = (step_later s k on.1 v on.2 there).1 in
      let open_still = on.3 in
      let below : on.1.cycle < 4096 + s.stop = grind (arith, nat_tests, open_still) in
      omega (arith, few, below)

  -- a layout's run doesn't end before it
  not_shorter : (board : Outcome) (run : layout.Outcome) → IsOutcome s board → layout.IsOutcome s run → board.steps ≤ run.steps
  not_shorter board run p q =
      elim (ltb run.steps board.steps) as (λ b. ltb run.steps board.steps ≡ b → board.steps ≤ run.steps) [
        | true ↦ λ f.
            let at = on_at s Stamp board.steps run.steps p.goes_on (grind (arith, nat_tests, f)) in
            let same : q.world ≡ at.0 = same_state (sym q.reached ∙ at.1) in
            let reaches = reaches_end s t run q in
            let over : is_over Stamp s q.world ≡ true = grind (arith, nat_tests, reaches) in
            let open_still : is_over Stamp s q.world ≡ false = ap (is_over Stamp s) same ∙ at.2 in
            absurd (cc (open_still, over))
        | false ↦ λ f. grind (arith, nat_tests, f)
      ] refl

  -- the run on the board says what the layout's run says, or its beginning
  pub says_so : (board : Outcome) (run : layout.Outcome) → IsOutcome s board → layout.IsOutcome s run → SaysRun s board run
  says_so board run p q =
      let over = ends_over board.steps p.world board.end p.ends in
      let at_end : is_over Stamp s p.world ≡ true = subst (EndsAt Stamp s board.steps p.world) over p.ends in
      let reaches : 4096 + s.stop ≤ p.world.cycle = grind (arith, nat_tests, at_end) in
      let cycles = p.cycles in
      let steps = not_shorter board run p q in
      let up : run.steps - board.steps + board.steps ≡ run.steps = omega (arith, steps) in
      let more = (said_between s board.steps (run.steps - board.steps) p.world q.world p.reached (ap (state_at s) up ∙ q.reached)).1 in
      let all : board.steps + 0 ≡ board.steps = omega arith in
      let first = (said_between s 0 board.steps (joint_start_of s.held) p.world refl (ap (state_at s) all ∙ p.reached)).1 in
      let later = λ (seen : Bool). later_changes seen s board.steps run.steps steps in
      let near : p.world.cycle < 4096 + s.stop + 2 = soon board.steps p.world p.goes_on p.reached (omega (arith, reaches)) in
      record {
        over = over;
        reaches = omega (arith, reaches, cycles);
        soon = omega (arith, near, cycles);
        steps = steps;
        before = subst (λ (n : ℕ). AreIn 0 n board.log) (sym cycles)
            (subst (λ (l : List Stamped). AreIn 0 p.world.cycle l) (sym (p.log ∙ first.afterwards)) first.each);
        rest = more.more;
        after = subst (λ (n : ℕ). AreIn n run.cycles more.more) (sym cycles)
            (subst (λ (n : ℕ). AreIn p.world.cycle n more.more) (sym q.cycles) more.each);
        log = q.log ∙ ap (lines_of run.starts) (more.afterwards ∙ ap (λ v. v ++ more.more) (sym p.log));
        changes = λ seen. (later seen).0;
        trace = λ seen.
            ap (λ v. header seen ++ v) (later seen).1 ∙ sym (append_assoc (header seen) (changes_to seen s board.steps) (later seen).0);
      }
