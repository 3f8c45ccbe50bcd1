-- What is run has one run on the board.
use Rattle.std.proofs.Common.{◌≡◌, ℕ, List, refl, ap, sym, subst, ◌∙◌, arith}
use Rattle.run_loop.specs.declared.ending.End.{End}
use Rattle.run_loop.specs.declared.ending.End.TheVariants.{Reached, Stuck}
use Rattle.run_program.specs.BoardOutcomes.{IsOutcome, Outcome}
use Rattle.run_loop.specs.declared.ending.Ending.TheVariants.{Stamp}
use Rattle.run_loop.specs.Running.{EndsAt}
use Rattle.host_turn.specs.declared.stamped.Stamped.{Stamped}
use Rattle.joint_feed.proofs.Going.{same_state}
use Rattle.joint_feed.specs.Stories.{Story, state_at}
use Rattle.joint_run.specs.Joint.{Beside, log_of}
use Rattle.joint_run.specs.Run.{World}
use Rattle.mcs48_core.specs.Cpu.{Cpu}
use Rattle.run_loop.proofs.Ended.{none_after}
use Rattle.run_program.proofs.Ends.{outcome_ends}

module _ (s : Story) where
  same_steps : (a b : Outcome) → IsOutcome s a → IsOutcome s b → a.steps ≡ b.steps
  same_steps a b p q =
      let first = none_after Stamp s a.steps a.end (outcome_ends s a p) b.steps q.world q.goes_on q.reached in
      let second = none_after Stamp s b.steps b.end (outcome_ends s b q) a.steps p.world p.goes_on p.reached in
      omega (arith, first, second)

  same_end : (k : ℕ) (w : World Beside) (d e : End) → EndsAt Stamp s k w d → EndsAt Stamp s k w e → d ≡ e
  same_end k w Reached Reached h g = refl
  same_end k w Reached (Stuck place) h g = let on = g.before_end in absurd (cc (h, on))
  same_end k w (Stuck place) Reached h g = let on = h.before_end in absurd (cc (g, on))
  same_end k w (Stuck place) (Stuck other) h g = ap (λ p. Stuck p) (h.at ∙ sym g.at)

same_parts : (a b : Outcome) → a.log ≡ b.log → a.end ≡ b.end → a.mcu ≡ b.mcu → a.steps ≡ b.steps → a.cycles ≡ b.cycles → a ≡ b
same_parts a b log end mcu steps cycles =
    let whole : List Stamped → End → Cpu → ℕ → ℕ → Outcome = λ l e m n c. record { log = l; end = e; mcu = m; steps = n; cycles = c } in
    ap (λ (v : List Stamped). whole v a.end a.mcu a.steps a.cycles) log
    ∙ ap (λ (v : End). whole b.log v a.mcu a.steps a.cycles) end
    ∙ ap (λ (v : Cpu). whole b.log b.end v a.steps a.cycles) mcu
    ∙ ap (λ (v : ℕ). whole b.log b.end b.mcu v a.cycles) steps
    ∙ ap (λ (v : ℕ). whole b.log b.end b.mcu b.steps v) cycles

-- a program has one run on the board under a history
pub boards_alike : (s : Story) (a b : Outcome) → IsOutcome s a → IsOutcome s b → a ≡ b
boards_alike s a b p q =
    let steps = same_steps s a b p q in
    let world : p.world ≡ q.world = same_state (sym p.reached ∙ ap (state_at s) steps ∙ q.reached) in
    let there : EndsAt Stamp s b.steps q.world a.end =
    subst (λ (v : World Beside). EndsAt Stamp s b.steps v a.end) world (subst (λ (k : ℕ). EndsAt Stamp s k p.world a.end) steps p.ends) in
    same_parts a b
    (p.log ∙ ap (λ (w : World Beside). log_of w.board) world ∙ sym q.log)
    (same_end s b.steps q.world a.end b.end there q.ends)
    (p.processor ∙ ap (λ (w : World Beside). w.cpu) world ∙ sym q.processor)
    steps
    (p.cycles ∙ ap (λ (w : World Beside). w.cycle) world ∙ sym q.cycles)
