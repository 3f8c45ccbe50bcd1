-- The step after which something may have to be reported: the state that it led to, and what it said.
use Rattle.std.proofs.Common.{◌≡◌, ◌^◌, ℕ, suc, Bool, List, ◌++◌, Some, ap, sym, subst, ◌∙◌, arith}
use Rattle.host_turn.specs.declared.stamped.Stamped.{Stamped}
use Rattle.joint_feed.proofs.Going.{here}
use Rattle.joint_feed.specs.Stories.{Story, state_at}
use Rattle.joint_feed.specs.declared.course.Course.{Course}
use Rattle.run_loop.specs.declared.ending.Ending.{Ending}
use Rattle.run_loop.specs.Advance.{IsAtReport}
use Rattle.run_loop.specs.Running.{AreIn, log_at, step_says}
use Rattle.run_loop.proofs.Said.{all_in_less, all_in_more}
use Rattle.run_loop.proofs.Steps.{log_grows, says_after}

module _ (e : Ending) (wires : Bool) (s : Story) (k : ℕ) (c : Course) (b : IsAtReport e wires s k c) where
  -- the last step led to the state that the machine is at
  pub led_to : state_at s (suc b.last) ≡ Some b.run_so_far.on.world
  led_to = subst (λ (n : ℕ). state_at s n ≡ Some b.run_so_far.on.world) b.steps (here s c b.run_so_far.on)

  -- what it says is after what was said before
  pub says_seen : step_says s b.last ≡ c.seen.items.items
  says_seen = says_after s b.last c.seen.items.items (sym (ap (log_at s) b.steps) ∙ b.said)

  -- the last step put what it says after the log
  pub log_grown : log_at s (suc b.last) ≡ log_at s b.last ++ step_says s b.last
  log_grown = log_grows s b.last b.run_so_far.on.world led_to

  -- in cycles that a line has room for
  pub items_near : (given : List Stamped) → given ≡ c.seen.items.items → AreIn 0 (2 ^ 32) given
  items_near given same =
      let near = b.near in
      subst (λ (l : List Stamped). AreIn 0 (2 ^ 32) l) (sym same)
      (all_in_more 0 c.joint.cycle (2 ^ 32) c.seen.items.items (omega (arith, near))
      (all_in_less 0 b.from.cycle c.joint.cycle c.seen.items.items (omega arith) b.items))
