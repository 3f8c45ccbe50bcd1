use Rattle.std.proofs.Common.{Ok, sym, ◌∙◌}
use Rattle.run_program.specs.Ending.{ending}
use Rattle.io_edge.proofs.Pieces.{none_said}
use Rattle.app_words.specs.declared.words.BoardCommand.TheVariants.{Trace}
use Rattle.app_boards.proofs.BoardsAreSaid.{cut, over_after, stuck_after}
use Rattle.app_boards.proofs.boarding.put_trace.Goals as goal

pub returns-in-Err : goal.returns-in-Err
returns-in-Err g c =
    let x = g.K.Sink.shown c.args.out.now in
    let z = g.K.Sink.shown c.trace_to.new.out in
    let part = c.in-Err.ensures.broken in
    record { says = cut (Trace c.args.seen) c.args.board _ _ part.run part.is c.in-Err.fault x z c.in-Err.ensures.looked_to_break part.part }

pub returns : goal.returns
returns g c =
    let x = g.K.Sink.shown c.args.out.now in
    let y = g.K.Sink.shown c.trace_to.new.out in
    record {
      says = stuck_after (Trace c.args.seen) c.args.board _ _ (ending c.args.board c.in-Ok.ended) c.in-Ok.ensures.run c.in-Ok.ensures.looked
          c.in-Stuck.stuck x y (sym c.end.ensures.end ∙ c.in-Stuck.is) c.in-Ok.ensures.said;
    }

pub returns-in-Reached : goal.returns-in-Reached
returns-in-Reached g c =
    let x = g.K.Sink.shown c.args.out.now in
    let y = g.K.Sink.shown c.trace_to.new.out in
    let run = ending c.args.board c.in-Ok.ended in
    record {
      says = over_after (Trace c.args.seen) c.args.board _ _ run c.in-Ok.ensures.run c.in-Ok.ensures.looked (Ok tt)
          x y y (sym c.end.ensures.end ∙ c.in-Reached.is) c.in-Ok.ensures.said (none_said y) tt;
    }
