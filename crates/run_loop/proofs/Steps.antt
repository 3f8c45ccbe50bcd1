-- The states of a run, one after another.
use Rattle.std.proofs.Common.{◌≡◌, ◌≤◌, ◌<◌, ℕ, zero, suc, ◌+◌, Bool, true, false, List, []}
use Rattle.std.proofs.Common.{◌++◌, length, drop, leb, ltb, Some, None, refl, ap, sym, subst, ◌∙◌, arith}
use Rattle.std.proofs.lemmas.Bool.Decides.{nat_tests}
use Rattle.std.proofs.lemmas.List.{append-nil}
use Rattle.std.proofs.Math.Seq.{drop-append_seam}
use Rattle.std.specs.Prelude.{slice_index, ◌%◌}
use Rattle.std.specs.declared.option.Option.{Option}
use Rattle.host_turn.specs.declared.stamped.Stamped.{Stamped}
use Rattle.joint_feed.proofs.Going.{same_state}
use Rattle.joint_feed.specs.Stories.{Story, state_at}
use Rattle.joint_run.specs.Joint.{Beside, joint_board, log_of}
use Rattle.joint_run.specs.Run.{World, after_step, joint_step, seen, step_on}
use Rattle.mcs48_core.specs.Cpu.{Cpu}
use Rattle.mcs48_core.specs.Step.{Stepped, entered, executed, row_at, stepped, takes_external, takes_timer}
use Rattle.mcs48_core.specs.declared.levels.Pins.{Pins}
use Rattle.mcs48_isa.specs.declared.operation.Decoded.{Decoded}
use Rattle.mcs48_ranges.proofs.Rows.{row_timed}
use Rattle.run_loop.specs.declared.ending.Ending.{Ending}
use Rattle.run_loop.specs.Running.{AreIn, GoesOnTo, is_over, log_at, logged, step_says}
use Rattle.run_loop.proofs.Said.{Said, said_then, step_log}

-- a step takes one cycle or two
abbrev IsTimed : Option Stepped → Type 0
IsTimed None = Unit {0}
IsTimed (Some n) = (0 < n.cycles) × (n.cycles ≤ 2)

timed_row : (bytes : List ℕ) (pins : Pins) (m : Cpu) (r : Option Decoded) → row_at bytes m.pc ≡ r → IsTimed (executed r bytes pins m)
timed_row bytes pins m None e = tt
timed_row bytes pins m (Some d) e = row_timed (slice_index bytes (m.pc % 2048)) (slice_index bytes ((m.pc + 1) % 2048)) d e

timed_by : (external timer : Bool) (x y : Stepped) (o : Option Stepped) → x.cycles ≡ 2 → y.cycles ≡ 2 → IsTimed o
    → IsTimed (elim external as (λ b. Option Stepped) [
      | true ↦ Some x
      | false ↦ elim timer as (λ b. Option Stepped) [ true ↦ Some y | false ↦ o ]
    ])
timed_by true timer x y o two also h = (omega (arith, two), omega (arith, two))
timed_by false true x y o two also h = (omega (arith, also), omega (arith, also))
timed_by false false x y o two also h = h

timed : (bytes : List ℕ) (pins : Pins) (m : Cpu) → IsTimed (stepped bytes pins m)
timed bytes pins m =
    timed_by (takes_external pins m) (takes_timer m) (entered 3 pins m) (entered 7 pins (record m { rq = false }))
    (executed (row_at bytes m.pc) bytes pins m)
    refl refl (timed_row bytes pins m (row_at bytes m.pc) refl)

after_later : (s : Story) (w v : World Beside) (n : Option Stepped) → IsTimed n → after_step (joint_board s.edges s.events) w n ≡ Some v
    → (w.cycle < v.cycle) × (v.cycle ≤ w.cycle + 2)
after_later s w v None t h = absurd cc
after_later s w v (Some n) t h =
    let e : w.cycle + n.cycles ≡ v.cycle = ap (λ (u : World Beside). u.cycle) (same_state h) in
    let some = t.0 in
    let few = t.1 in
    (omega (arith, e, some), omega (arith, e, few))

module _ (s : Story) where
  -- the joint step between two states
  pub joined : (k : ℕ) (w v : World Beside)
      → state_at s k ≡ Some w → state_at s (suc k) ≡ Some v → joint_step (joint_board s.edges s.events) s.bytes w ≡ Some v
  joined k w v h g = sym (ap (step_on (joint_board s.edges s.events) s.bytes) h) ∙ g

  -- it takes one cycle or two
  pub step_later : (k : ℕ) (w v : World Beside)
      → state_at s k ≡ Some w → state_at s (suc k) ≡ Some v → (w.cycle < v.cycle) × (v.cycle ≤ w.cycle + 2)
  step_later k w v h g =
      let pins = seen (joint_board s.edges s.events) w in
      after_later s w v (stepped s.bytes pins w.cpu) (timed s.bytes pins w.cpu) (joined k w v h g)

  -- and says what it says in them
  step_said : (k : ℕ) (w v : World Beside)
      → state_at s k ≡ Some w → state_at s (suc k) ≡ Some v → Said w.cycle v.cycle (log_of w.board) (log_of v.board)
  step_said k w v h g = step_log s.edges s.events s.bytes w v (joined k w v h g)

  before_some : (k : ℕ) (v : World Beside) (o : Option (World Beside))
      → state_at s k ≡ o → step_on (joint_board s.edges s.events) s.bytes o ≡ Some v
      → (w : World Beside) × (state_at s k ≡ Some w)
  before_some k v None e h = absurd cc
  before_some k v (Some w) e h = (w, e)

  -- before a state is another
  pub before : (k : ℕ) (v : World Beside) → state_at s (suc k) ≡ Some v → (w : World Beside) × (state_at s k ≡ Some w)
  before k v h = before_some k v (state_at s k) refl h

  -- what it says is after what was said before
  step_adds : (k : ℕ) (w v : World Beside) → state_at s k ≡ Some w → state_at s (suc k) ≡ Some v
      → (more : List Stamped) × AreIn w.cycle v.cycle more × (log_at s (suc k) ≡ log_at s k ++ more)
  step_adds k w v h g =
      let said : Said w.cycle v.cycle (log_of w.board) (log_of v.board) = step_said k w v h g in
      (said.more, said.each, ap logged g ∙ said.afterwards ∙ ap (λ (o : Option (World Beside)). logged o ++ said.more) (sym h))

  -- what a step says is what the log has more after it
  pub says_after : (k : ℕ) (more : List Stamped) → log_at s (suc k) ≡ log_at s k ++ more → step_says s k ≡ more
  says_after k more h = ap (drop (length (log_at s k))) h ∙ drop-append_seam (log_at s k) more

  -- the log after a step is the log before it and what the step says
  pub log_grows : (k : ℕ) (v : World Beside) → state_at s (suc k) ≡ Some v → log_at s (suc k) ≡ log_at s k ++ step_says s k
  log_grows k v g =
      let from = before k v g in
      let adds = step_adds k from.0 v from.1 g in
      adds.2 ∙ ap (λ (l : List Stamped). log_at s k ++ l) (sym (says_after k adds.0 adds.2))

  -- what a step says is of its own cycles
  pub says_in : (k : ℕ) (w v : World Beside) → state_at s k ≡ Some w → state_at s (suc k) ≡ Some v → AreIn w.cycle v.cycle (step_says s k)
  says_in k w v h g =
      let adds = step_adds k w v h g in
      subst (λ (l : List Stamped). AreIn w.cycle v.cycle l) (sym (says_after k adds.0 adds.2)) adds.1

  -- the state after one that is before another
  pub reached_by : (m j : ℕ) (v : World Beside) → state_at s m ≡ Some v → j < m → (w : World Beside) × (state_at s (suc j) ≡ Some w)
  reached_by zero j v h l = absurd (omega (arith, l))
  reached_by (suc m) j v h l =
      elim (ltb j m) as (λ b. ltb j m ≡ b → (w : World Beside) × (state_at s (suc j) ≡ Some w)) [
        | true ↦ λ f. let u = before m v h in reached_by m j u.0 u.1 (grind (arith, nat_tests, f))
        | false ↦ λ f. let e : suc m ≡ suc j = grind (arith, nat_tests, f, l) in (v, ap (state_at s) (sym e) ∙ h)
      ] refl

  -- between two states the cycle doesn't fall, and what is said then is after what was said before
  pub said_between : (k d : ℕ) (w v : World Beside) → state_at s k ≡ Some w → state_at s (d + k) ≡ Some v
      → (w.cycle ≤ v.cycle) × Said w.cycle v.cycle (log_of w.board) (log_of v.board)
  said_between k zero w v h g =
      let z : zero + k ≡ k = omega arith in
      let e : w ≡ v = same_state (sym h ∙ ap (state_at s) (sym z) ∙ g) in
      let c : w.cycle ≡ v.cycle = ap (λ (u : World Beside). u.cycle) e in (
        omega (arith, c),
        record { more = []; afterwards = sym (ap (λ (u : World Beside). log_of u.board) e) ∙ sym (append-nil (log_of w.board)); each = tt },
      )
  said_between k (suc d) w v h g =
      let n : suc d + k ≡ suc (d + k) = omega arith in
      let there : state_at s (suc (d + k)) ≡ Some v = ap (state_at s) (sym n) ∙ g in
      let last = before (d + k) v there in
      let u = last.0 in
      let so_far = said_between k d w u h last.1 in
      let one = step_said (d + k) u v last.1 there in
      let grown = (step_later (d + k) u v last.1 there).0 in
      let far = so_far.0 in (
        omega (arith, grown, far),
        said_then w.cycle u.cycle v.cycle (log_of w.board) (log_of u.board) (log_of v.board) far (omega (arith, grown)) so_far.1 one,
      )

  -- what was said so far was said in earlier cycles
  pub said_by : (k : ℕ) (w : World Beside) → state_at s k ≡ Some w → AreIn 0 w.cycle (log_of w.board)
  said_by zero w h = subst (λ (v : World Beside). AreIn 0 v.cycle (log_of v.board)) (same_state h) tt
  said_by (suc k) w h =
      let on = before k w h in
      let so_far : Said 0 on.0.cycle [] (log_of on.0.board) = record {
        more = log_of on.0.board;
        afterwards = refl;
        each = said_by k on.0 on.1;
      } in
      let grown = (step_later k on.0 w on.1 h).0 in
      let both = said_then 0 on.0.cycle w.cycle [] (log_of on.0.board) (log_of w.board) (omega arith)
      (omega (arith, grown)) so_far (step_said k on.0 w on.1 h) in
      subst (λ (v : List Stamped). AreIn 0 w.cycle v) (sym both.afterwards) both.each

  -- a state before the present one
  pub on_at : (e : Ending) (k j : ℕ) → GoesOnTo e s k → j < k → (w : World Beside) × (state_at s j ≡ Some w) × (is_over e s w ≡ false)
  on_at e zero j h l = absurd (omega (arith, l))
  on_at e (suc k) j h l =
      elim (leb k j) as (λ b. leb k j ≡ b → (w : World Beside) × (state_at s j ≡ Some w) × (is_over e s w ≡ false)) [
        | true ↦ λ f. let i : k ≡ j = grind (arith, nat_tests, f, l) in (h.1, ap (state_at s) (sym i) ∙ h.2, h.3)
        | false ↦ λ f. on_at e k j h.0 (grind (arith, nat_tests, f))
      ] refl
