use Rattle.key_planner.proofs.Written.{IsSoFar}
use Rattle.key_planner.proofs.planning.written.Given as goal

-- the bytes so far have keys, and their lines are written
abbrev pub invariant-loop-number : goal.invariant-loop-number
invariant-loop-number l = IsSoFar l.layout l.text l.number l.plan.items
