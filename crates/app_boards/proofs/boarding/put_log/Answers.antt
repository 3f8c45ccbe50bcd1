use Rattle.std.proofs.Common.{sym, subst, ◌∙◌}
use Rattle.std.specs.Prelude.{OnErr, OnOk}
use Rattle.run_program.specs.Ending.{ending}
use Rattle.io_edge.specs.Said.{IsBrokenOff, IsSaid}
use Rattle.app_words.specs.declared.words.BoardCommand.TheVariants.{Log}
use Rattle.app_boards.proofs.BoardsAreSaid.{cut, over_after, stuck_after}
use Rattle.app_answers.proofs.EndStates.{same_state}
use Rattle.app_boards.proofs.boarding.put_log.Goals as goal

pub returns-in-Err : goal.returns-in-Err
returns-in-Err g c =
    let x = g.K.Sink.shown c.args.out.now in
    let z = g.K.Sink.shown c.run_to.new.out in
    let part = c.in-Err.ensures.broken in
    record { says = cut (Log c.args.steps) c.args.board _ _ part.run part.is c.in-Err.fault x z c.in-Err.ensures.looked_to_break part.part }

pub returns : goal.returns
returns g c =
    let x = g.K.Sink.shown c.args.out.now in
    let y = g.K.Sink.shown c.run_to.new.out in
    record {
      says = stuck_after (Log c.args.steps) c.args.board _ _ (ending c.args.board c.in-Ok.ended) c.in-Ok.ensures.run c.in-Ok.ensures.looked
          c.in-Stuck.stuck x y (sym c.end.ensures.end ∙ c.in-Stuck.is) c.in-Ok.ensures.said;
    }

pub returns-in-Reached : goal.returns-in-Reached
returns-in-Reached g c =
    let x = g.K.Sink.shown c.args.out.now in
    let y = g.K.Sink.shown c.run_to.new.out in
    let z = g.K.Sink.shown c.put_end.new.out in
    let run = ending c.args.board c.in-Ok.ended in
    let same = same_state c.args.steps c.mcu.result.now run.mcu c.steps.result run.steps c.cycles.result run.cycles
    c.mcu.ensures.processor c.steps.ensures.steps c.cycles.ensures.cycles in
    record {
      says = over_after (Log c.args.steps) c.args.board _ _ run c.in-Ok.ensures.run c.in-Ok.ensures.looked c.put_end.result
          x y z (sym c.end.ensures.end ∙ c.in-Reached.is) c.in-Ok.ensures.said
          (subst (λ t. OnOk c.put_end.result (IsSaid y z t)) same c.put_end.ensures.said)
          (subst (λ t. OnErr c.put_end.result (IsBrokenOff y z t)) same c.put_end.ensures.broken);
    }
