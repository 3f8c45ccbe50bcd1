use Rattle.std.proofs.Common.{length}
use Rattle.key_file.proofs.Outcomes.{HasCome}
use Rattle.key_file.proofs.checking.check_history.Given as goal

-- the lines so far are taken
abbrev pub invariant-loop-line : goal.invariant-loop-line
invariant-loop-line l = HasCome l.layout l.bytes l.number l.rest l.brief

abbrev pub decreases-loop-line : goal.decreases-loop-line
decreases-loop-line l = length l.rest
