-- What is said is never taken back.
use Rattle.std.proofs.Common.{◌≡◌, ◌≤◌, ℕ, zero, suc, ◌+◌, List, [], ◌++◌, Some, None, ap, sym, subst, ◌∙◌, arith, append_assoc}
use Rattle.std.proofs.lemmas.List.{append-nil}
use Rattle.std.specs.declared.option.Option.{Option}
use Rattle.board_terms.specs.declared.event.Edge.{Edge}
use Rattle.board_terms.specs.declared.event.HostEvent.{HostEvent}
use Rattle.host_turn.specs.declared.stamped.Stamped.{Stamped}
use Rattle.joint_feed.proofs.Going.{same_state}
use Rattle.joint_feed.specs.Stories.{Story, state_at}
use Rattle.joint_run.proofs.Passing.{cycle_is}
use Rattle.joint_run.specs.Cycle.{outside_cycle}
use Rattle.joint_run.specs.Due.{outside_of}
use Rattle.joint_run.specs.Joint.{Beside, joint_board, joint_cycle, log_of}
use Rattle.joint_run.specs.Run.{World, after_cycles, after_step, seen}
use Rattle.live_board.proofs.Timed.{before, joined, step_later}
use Rattle.mcs48_core.specs.Step.{Stepped, stepped}
use Rattle.std.specs.Prelude.{slice_get}

-- a log with more after it
abbrev pub Goes : List Stamped → List Stamped → Type 0
Goes earlier later = (more : List Stamped) × (later ≡ earlier ++ more)

goes_then : (a b c : List Stamped) → Goes a b → Goes b c → Goes a c
goes_then a b c h k = (h.0 ++ k.0, k.1 ∙ ap (λ v. v ++ k.0) h.1 ∙ append_assoc a h.0 k.0)

cycle_goes : (hs : List HostEvent) (p2 now : ℕ) (s : Beside) → Goes (log_of s) (log_of (joint_cycle hs p2 now s))
cycle_goes hs p2 now s = (
  (outside_cycle now p2 (slice_get hs s.pc.side.done) (outside_of s)).items,
  ap log_of (cycle_is hs p2 now (outside_of s) s.pc.side.done s.pc.side.log),
)

cycles_go : (hs : List HostEvent) (p2 n now : ℕ) (s : Beside) → Goes (log_of s) (log_of (after_cycles n now (joint_cycle hs p2) s))
cycles_go hs p2 zero now s = ([], sym (append-nil (log_of s)))
cycles_go hs p2 (suc n) now s =
    let next = joint_cycle hs p2 now s in
    goes_then (log_of s) (log_of next) (log_of (after_cycles n (now + 1) (joint_cycle hs p2) next))
    (cycle_goes hs p2 now s) (cycles_go hs p2 n (now + 1) next)

after_goes : (es : List Edge) (hs : List HostEvent) (w v : World Beside) (o : Option Stepped)
    → after_step (joint_board es hs) w o ≡ Some v → Goes (log_of w.board) (log_of v.board)
after_goes es hs w v None h = absurd cc
after_goes es hs w v (Some n) h =
    let board = ap (λ (u : World Beside). u.board) (same_state h) in
    subst (λ (b : Beside). Goes (log_of w.board) (log_of b)) board (cycles_go hs n.cpu.p2 n.cycles w.cycle w.board)

module _ (s : Story) where
  step_goes : (k : ℕ) (w v : World Beside) → state_at s k ≡ Some w → state_at s (suc k) ≡ Some v → Goes (log_of w.board) (log_of v.board)
  step_goes k w v h g = after_goes s.edges s.events w v (stepped s.bytes (seen (joint_board s.edges s.events) w) w.cpu) (joined s k w v h g)

  -- from a state on so many steps the log goes on and the cycle doesn't fall
  pub goes_between : (k d : ℕ) (w v : World Beside)
      → state_at s k ≡ Some w → state_at s (d + k) ≡ Some v → (w.cycle ≤ v.cycle) × Goes (log_of w.board) (log_of v.board)
  goes_between k zero w v h g =
      let z : zero + k ≡ k = omega arith in
      let e : w ≡ v = same_state (sym h ∙ ap (state_at s) (sym z) ∙ g) in
      let c = ap (λ (u : World Beside). u.cycle) e in
      (omega (arith, c), ([], ap (λ (u : World Beside). log_of u.board) (sym e) ∙ sym (append-nil (log_of w.board))))
  goes_between k (suc d) w v h g =
      let n : suc d + k ≡ suc (d + k) = omega arith in
      let there : state_at s (suc (d + k)) ≡ Some v = ap (state_at s) (sym n) ∙ g in
      let last = before s (d + k) v there in
      let u : World Beside = last.0 in
      let so_far = goes_between k d w u h last.1 in
      let one = step_goes (d + k) u v last.1 there in
      let later = step_later s (d + k) u v last.1 there in
      let far = so_far.0 in
      (omega (arith, later, far), goes_then (log_of w.board) (log_of u.board) (log_of v.board) so_far.1 one)
