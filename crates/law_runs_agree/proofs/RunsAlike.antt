-- What is run has one run.
use Rattle.std.proofs.Common.{◌≡◌, ◌≤◌, ◌<◌, ℕ, suc, ◌+◌, ◌-◌, List, [], ◌∷◌, ◌++◌}
use Rattle.std.proofs.Common.{length, refl, ap, sym, ◌∙◌, arith, length-append}
use Rattle.std.proofs.lemmas.List.{get_or_append_left}
use Rattle.board_terms.specs.Cadence.{listed}
use Rattle.joint_feed.proofs.Going.{same_state}
use Rattle.joint_feed.specs.Stories.{Story, state_at}
use Rattle.joint_run.specs.Joint.{Beside, log_of}
use Rattle.joint_run.specs.Run.{World}
use Rattle.law_runs_agree.specs.Alike.{AreAlike}
use Rattle.subsystem.specs.LayoutOutcomes.{IsOutcome, lines_of, Outcome}
use Rattle.run_loop.specs.Starts.{start_stamp, starts_among}
use Rattle.run_loop.proofs.Texts.{later}
use Rattle.subsystem.proofs.Timekeeping.{run_last, run_starts}

-- later states put their starts after those before
pub starts_stay : (s : Story) (k n : ℕ) → k ≤ n → (rest : List ℕ) × (starts_among s n ≡ starts_among s k ++ rest)
starts_stay s k n l = later (starts_among s) (λ j. start_stamp s (state_at s j)) n (λ j m. refl) k l

-- a run goes on at each state at which another run of the same ends
none_shorter : (s : Story) (a b : Outcome) → IsOutcome s a → IsOutcome s b → a.steps < b.steps → ⊥
none_shorter s a b p q l =
    let xs = starts_among s b.steps in
    let stay = starts_stay s (suc a.steps) b.steps (omega (arith, l)) in
    let all : xs ≡ a.starts ++ stay.0 = stay.1 ∙ ap (λ v. v ++ stay.0) (sym p.starts) in
    let long : length xs ≡ length a.starts + length stay.0 = ap length all ∙ length-append a.starts stay.0 in
    let long_a = run_last s a p in
    let long_b = run_last s b q in
    let n : ℕ = length a.starts - 1 in
    let same : listed b.starts n ≡ listed a.starts n =
    ap (λ (v : List ℕ). listed v n) (run_starts s b q)
    ∙ get_or_append_left xs ((q.world.cycle - 4096) ∷ []) 0 n (omega (arith, long, long_a))
    ∙ ap (λ (v : List ℕ). listed v n) all ∙ get_or_append_left a.starts stay.0 0 n (omega (arith, long_a)) in
    let reaches = p.last.reaches in
    let before = q.last.before n (omega (arith, long, long_a, long_b)) in
    absurd (omega (arith, same, reaches, before))

same_steps : (s : Story) (a b : Outcome) → IsOutcome s a → IsOutcome s b → a.steps ≡ b.steps
same_steps s a b p q =
    let first = none_shorter s a b p q in
    let second = none_shorter s b a q p in
    grind (arith, first, second)

-- a story has one run
pub runs_alike : (s : Story) (a b : Outcome) → IsOutcome s a → IsOutcome s b → AreAlike a b
runs_alike s a b p q =
    let steps = same_steps s a b p q in
    let world : p.world ≡ q.world = same_state (sym p.reached ∙ ap (state_at s) steps ∙ q.reached) in
    let starts : a.starts ≡ b.starts = p.starts ∙ ap (λ (k : ℕ). starts_among s (suc k)) steps ∙ sym q.starts in
    record {
      log = p.log ∙ ap (λ (v : List ℕ). lines_of v (log_of p.world.board)) starts
          ∙ ap (λ (w : World Beside). lines_of b.starts (log_of w.board)) world ∙ sym q.log;
      starts = starts;
      end = p.processor ∙ ap (λ (w : World Beside). w.cpu) world ∙ sym q.processor;
      steps = steps;
      cycles = p.cycles ∙ ap (λ (w : World Beside). w.cycle) world ∙ sym q.cycles;
    }
