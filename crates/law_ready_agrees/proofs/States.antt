-- From state to state of the run: once INT 09h is masked, a byte in the output buffer stays there, and nothing is read.
use Rattle.std.proofs.Common.{◌≡◌, ◌≤◌, inl, ℕ, suc, zero, ◌+◌, ◌-◌, List, [], Some, None, refl, ap, sym, ◌∙◌, subst, arith}
use Rattle.std.specs.declared.option.Option.{Option}
use Rattle.joint_feed.proofs.Going.{same_state}
use Rattle.joint_feed.specs.Stories.{Story, state_at}
use Rattle.joint_run.specs.Joint.{Beside, joint_board}
use Rattle.joint_run.specs.Run.{World, after_step, seen}
use Rattle.law_live_agrees.specs.Opened.{masked_at}
use Rattle.live_board.proofs.Timed.{before, joined}
use Rattle.live_board.specs.Pasts.{story_of}
use Rattle.mcs48_core.specs.Step.{Stepped, stepped}
use Rattle.law_ready_agrees.proofs.Keeping.{IsKept, Keeps, cycles_keep, cycles_kept, events, keeps_then}

module _ (bytes : List ℕ) (stamp : ℕ) where
  abbrev pub story : Story
  story = story_of (masked_at 0 bytes stamp 0)

  step_kept : (w v : World Beside) (o : Option Stepped) → after_step (joint_board [] (events stamp)) w o ≡ Some v
      → IsKept stamp w.board.pc.side → IsKept stamp v.board.pc.side
  step_kept w v None h k = absurd cc
  step_kept w v (Some n) h k =
      let board = ap (λ (u : World Beside). u.board) (same_state h) in
      subst (λ (b : Beside). IsKept stamp b.pc.side) board (cycles_kept stamp n.cpu.p2 n.cycles w.cycle w.board k)

  step_keeps : (w v : World Beside) (o : Option Stepped) → after_step (joint_board [] (events stamp)) w o ≡ Some v
      → IsKept stamp w.board.pc.side → w.board.pc.side.done ≡ 1 → Keeps stamp w.board.pc.side v.board.pc.side
  step_keeps w v None h k done = absurd cc
  step_keeps w v (Some n) h k done =
      let board = ap (λ (u : World Beside). u.board) (same_state h) in
      subst (λ (b : Beside). Keeps stamp w.board.pc.side b.pc.side) board
      (cycles_keep stamp n.cpu.p2 n.cycles w.cycle w.board k done)

  -- in each state of the run no input waits, and INT 09h is masked once the event is done
  pub kept_at : (k : ℕ) (w : World Beside) → state_at story k ≡ Some w → IsKept stamp w.board.pc.side
  kept_at zero w h =
      subst (λ (u : World Beside). IsKept stamp u.board.pc.side) (same_state h)
      (record { input = refl; command = refl; held = refl; event = inl refl })
  kept_at (suc k) w h =
      let first = before story k w h in
      let v : World Beside = first.0 in
      step_kept v w (stepped bytes (seen (joint_board [] (events stamp)) v) v.cpu) (joined story k v w first.1 h)
      (kept_at k v first.1)

  keeps_from : (k d : ℕ) (w v : World Beside) → state_at story k ≡ Some w → state_at story (d + k) ≡ Some v
      → w.board.pc.side.done ≡ 1 → Keeps stamp w.board.pc.side v.board.pc.side
  keeps_from k zero w v h g done =
      let none : zero + k ≡ k = omega arith in
      let e : w ≡ v = same_state (sym h ∙ ap (state_at story) (sym none) ∙ g) in
      subst (λ (u : World Beside). Keeps stamp w.board.pc.side u.board.pc.side) e
      (record { done = done; reads = refl; stays = λ full. refl })
  keeps_from k (suc d) w v h g done =
      let n : suc d + k ≡ suc (d + k) = omega arith in
      let there : state_at story (suc (d + k)) ≡ Some v = ap (state_at story) (sym n) ∙ g in
      let last = before story (d + k) v there in
      let u : World Beside = last.0 in
      let so_far = keeps_from k d w u h last.1 done in
      keeps_then stamp w.board.pc.side u.board.pc.side v.board.pc.side so_far
      (step_keeps u v (stepped bytes (seen (joint_board [] (events stamp)) u) u.cpu) (joined story (d + k) u v last.1 there)
      (kept_at (d + k) u last.1) so_far.done)

  -- after the mask a byte in the output buffer stays from state to state, and nothing is read
  pub keeps_between : (i j : ℕ) (w v : World Beside) → i ≤ j → state_at story i ≡ Some w → state_at story j ≡ Some v
      → w.board.pc.side.done ≡ 1 → Keeps stamp w.board.pc.side v.board.pc.side
  keeps_between i j w v l h g done =
      let sum : j - i + i ≡ j = omega (arith, l) in
      keeps_from i (j - i) w v h (ap (state_at story) sum ∙ g) done
