-- The end of a run on the board, as a function.
use Rattle.std.proofs.Common.{◌≡◌, Some, ap}
use Rattle.std.specs.declared.option.Option.{Option}
use Rattle.run_program.specs.BoardOutcomes.{IsOutcome, Outcome}
use Rattle.joint_feed.specs.Stories.{Story}
use Rattle.run_loop.specs.declared.ending.End.{End}
use Rattle.run_program.proofs.Alike.{boards_alike}
use Rattle.run_program.proofs.BrokenOff.{the_run}

same_end : (a b : End) → Some a ≡ Some b → a ≡ b
same_end a b h = cc h

module _ (s : Story) where
  -- the end of a run on the board, if it has one
  pub end_of : Option End
  end_of = Some (the_run s).0.end

  -- a run has that end
  pub end_found : (run : Outcome) → IsOutcome s run → end_of ≡ Some run.end
  unfolding end_of
  end_found run h = ap (λ (r : Outcome). Some r.end) (boards_alike s (the_run s).0 run (the_run s).2 h)

  -- and where the function has an end, a run has it
  pub outcome_of : (end : End) → end_of ≡ Some end → (run : Outcome) × IsOutcome s run × (run.end ≡ end)
  unfolding end_of
  outcome_of end h = ((the_run s).0, (the_run s).2, same_end (the_run s).0.end end h)
