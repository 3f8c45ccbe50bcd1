-- A session over a program that keeps its time ends where its run does.
use Rattle.std.proofs.Common.{◌≡◌, ◌≤◌, ◌<◌, ℕ, zero, suc, ◌+◌, ◌-◌, Bool, true, false, ◌&&◌, List, [], ◌∷◌}
use Rattle.std.proofs.Common.{◌++◌, length, ltb, Some, None, is_none, refl, ap, ◌∙◌, arith}
use Rattle.std.specs.Prelude.{if◌then◌else◌, nat_le, ◌||◌}
use Rattle.std.proofs.lemmas.Bool.Decides.{nat_tests}
use Rattle.std.proofs.lemmas.List.{append_assoc, get_or_append_left, length-append}
use Rattle.std.proofs.Math.Seq.{get_or-append_seam}
use Rattle.std.specs.declared.option.Option.{Option}
use Rattle.board_terms.specs.Cadence.{listed}
use Rattle.run_probes.specs.Probes.{Watch}
use Rattle.debugger.specs.Sessions.{Debug, Debuggee, next_from, next_state, of_layout, session_is_over, stepped_to, walk}
use Rattle.fw_ticks.specs.JointRun.{KeepsTimeFrom}
use Rattle.joint_feed.specs.Stories.{Story, state_at, starts_tick}
use Rattle.joint_run.specs.Joint.{Beside, joint_start_of}
use Rattle.joint_run.specs.Run.{World}
use Rattle.run_loop.specs.Starts.{start_stamp, starts_among}
use Rattle.subsystem.specs.LayoutOutcomes.{IsOutcome, Outcome}
use Rattle.run_loop.specs.declared.ending.Ending.TheVariants.{TickStart}
use Rattle.run_loop.specs.Running.{GoesOnTo, is_over}
use Rattle.law_runs_agree.specs.Sessions.{EndsAfter}
use Rattle.subsystem.proofs.Timekeeping.{reaches_end, run_last, run_starts}
use Rattle.law_runs_agree.proofs.RunsAlike.{starts_stay}
use Rattle.run_loop.proofs.Timekeeping.{still_near}

module _ (s : Story) (t : KeepsTimeFrom (joint_start_of s.held) s.bytes s.edges s.events) (run : Outcome) (h : IsOutcome s run) where
  -- a tick that starts before the last state starts before the end stamp
  early_start : (k : ℕ) → k < run.steps → (w : World Beside) → state_at s k ≡ Some w → starts_tick s w ≡ true → w.cycle < 4096 + s.stop
  early_start k below w there on =
      let xs = starts_among s k in
      let early = t.none_early k w there on in
      let put : starts_among s (suc k) ≡ xs ++ (w.cycle - 4096) ∷ [] =
      ap (λ (o : Option (World Beside)). xs ++ start_stamp s o) there ∙ ap (λ b. xs ++ (if b then (w.cycle - 4096) ∷ [] else [])) on in
      let stay = starts_stay s (suc k) run.steps (omega (arith, below)) in
      let all : starts_among s run.steps ≡ xs ++ (w.cycle - 4096) ∷ stay.0 =
      stay.1 ∙ ap (λ v. v ++ stay.0) put ∙ append_assoc xs ((w.cycle - 4096) ∷ []) stay.0 in
      let long : length (starts_among s run.steps) ≡ length xs + suc (length stay.0) =
      ap length all ∙ length-append xs ((w.cycle - 4096) ∷ stay.0) in
      let last = run_last s run h in
      let at : listed run.starts (length xs) ≡ w.cycle - 4096 =
      ap (λ (v : List ℕ). listed v (length xs)) (run_starts s run h)
      ∙ get_or_append_left (starts_among s run.steps) ((h.world.cycle - 4096) ∷ []) 0 (length xs) (omega (arith, long))
      ∙ ap (λ (v : List ℕ). listed v (length xs)) all ∙ get_or-append_seam xs (w.cycle - 4096) stay.0 0 in
      let before = h.last.before (length xs) (omega (arith, long, last)) in
      omega (arith, early, at, before)

  not_over : (b : Bool) (cycle : ℕ) → (b ≡ true → cycle < 4096 + s.stop) → (b && nat_le (4096 + s.stop) cycle) ≡ false
  not_over true cycle early = let l = early refl in grind (arith, nat_tests, l)
  not_over false cycle early = refl

  -- so the run goes on at each state before its last
  open_before : (k : ℕ) → k < run.steps → (w : World Beside) → state_at s k ≡ Some w → is_over TickStart s w ≡ false
  open_before k below w there = not_over (starts_tick s w) w.cycle (early_start k below w there)

  goes_to : (k : ℕ) → k ≤ run.steps → GoesOnTo TickStart s k
  goes_to zero l = tt
  goes_to (suc k) l =
      let on = t.goes_on k in
      (goes_to k (omega (arith, l)), on.0, on.1, open_before k (omega (arith, l)) on.0 on.1)

  abbrev d : Debuggee
  d = of_layout s

  -- and the session too, which isn't late there
  open_session : (k : ℕ) → k < run.steps → (w : World Beside) → state_at s k ≡ Some w → session_is_over d w ≡ false
  open_session k below w there =
      let off = open_before k below w there in
      let near = still_near s t k w (goes_to k (omega (arith, below))) there off in
      let soon : nat_le (s.stop + 6152) w.cycle ≡ false = grind (arith, nat_tests, near) in
      ap (λ b. b || nat_le (s.stop + 6152) w.cycle) off ∙ soon

  next_before : (k : ℕ) → k < run.steps → (v : World Beside) × (next_state d k ≡ Some v)
  next_before k below =
      let on = t.goes_on k in
      let next = t.goes_on (suc k) in (
        next.0,
        ap (next_from d k) on.1
            ∙ ap (λ b. if b then None else state_at s (suc k)) (open_session k below on.0 on.1)
            ∙ next.1,
      )

  -- at the last one both are over
  over_at_end : is_over TickStart s h.world ≡ true
  over_at_end =
      let at_end = reaches_end s t run h in
      let reached : nat_le (4096 + s.stop) h.world.cycle ≡ true = grind (arith, nat_tests, at_end) in
      ap (λ b. b && nat_le (4096 + s.stop) h.world.cycle) h.at ∙ reached

  none_at_end : next_state d run.steps ≡ None
  none_at_end =
      ap (next_from d run.steps) h.reached
      ∙ ap (λ b. if b || nat_le (s.stop + 6152) h.world.cycle then None else state_at s (suc run.steps)) over_at_end

  last_step : (k : ℕ) → k ≤ run.steps → next_state d k ≡ None → k ≡ run.steps
  last_step k l none =
      elim (ltb k run.steps) as (λ b. ltb k run.steps ≡ b → k ≡ run.steps) [
        | true ↦ λ f. let on = next_before k (grind (arith, nat_tests, f)) in absurd (cc (none, on.1))
        | false ↦ λ f. grind (arith, nat_tests, f, l)
      ] refl

  one_more : (k : ℕ) → k ≤ run.steps → (w : World Beside) → next_state d k ≡ Some w → suc k ≤ run.steps
  one_more k l w next =
      elim (ltb k run.steps) as (λ b. ltb k run.steps ≡ b → suc k ≤ run.steps) [
        | true ↦ λ f. grind (arith, nat_tests, f)
        | false ↦ λ f.
            let e : k ≡ run.steps = grind (arith, nat_tests, f, l) in
            let none : next_state d k ≡ None = ap (next_state d) e ∙ none_at_end in
            absurd (cc (next, none))
      ] refl

  -- steps that are made one after another lead there
  walked_to : (n k : ℕ) (probes : List Watch)
      → k ≤ run.steps → run.steps ≤ n + k → (walk d n (record { steps = k; probes = probes })).steps ≡ run.steps
  walked_to zero k probes l m = omega (arith, l, m)
  walked_to (suc n) k probes l m =
      elim (next_state d k) as (λ o. next_state d k ≡ o
      → (elim o as (λ x. Debug) [
        | None ↦ record { steps = k; probes = probes }
        | Some w ↦
            walk d n (stepped_to w (record { steps = k; probes = probes }))
      ]).steps ≡ run.steps) [
        | None ↦ λ none. last_step k l none
        | Some w ↦ λ next.
            walked_to n (suc k) (stepped_to w (record { steps = k; probes = probes })).probes (one_more k l w next) (omega (arith, m))
      ] refl

  -- a session isn't over before the run's end
  pub ends_afterwards : EndsAfter d run.steps
  ends_afterwards = record {
    goes_on = λ k below. ap is_none (next_before k below).1;
    ended = ap is_none none_at_end;
    walked = λ n probes far. walked_to n 0 probes (omega arith) (omega (arith, far));
  }
