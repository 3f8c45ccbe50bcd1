use Rattle.std.proofs.Common.{arith}
use Rattle.io_edge.proofs.Puts.{ended_after, ended_failed, offering_ends, offering_fails, offering_first, offering_on}
use Rattle.io_edge.proofs.Taken.{on_err, takes_none, takes_on}
use Rattle.io_edge.proofs.saying.put_all.Goals as goal

pub loop-done-init : goal.loop-done-init
loop-done-init g c = record {
  within = grind (arith);
  steady = grind (arith);
  taken = takes_none _ _;
  offering = offering_first (g.K.Sink.shown c.args.out.now).in_memory c.args.piece.now;
}

pub loop-done-preserved : goal.loop-done-preserved
loop-done-preserved g c = record {
  within = grind (arith, c.in_ok-done.ensures.within);
  steady = grind (arith);
  taken = takes_on _ _ _ _ _ _ _ c.loop-done.invariant.taken c.in_ok-done.ensures.within c.in_ok-done.ensures.took;
  offering = offering_on _ _ _ _ _ _ c.loop-done-test.true c.in_ok-done.ensures.some c.loop-done.invariant.offering
      c.in_ok-done.ensures.answer c.in_ok-done.ensures.after;
}

pub returns-in_err-done-clause-one_failed : goal.returns-in_err-done-clause-one_failed
returns-in_err-done-clause-one_failed g c =
    on_err _ _ (ended_failed _ _ _ _
    (offering_fails _ _ _ _ _ _ c.loop-done-test.true c.loop-done.invariant.offering c.in_err-done.ensures.answer
    c.in_err-done.ensures.after))

pub returns-in_err-done-clause-after : goal.returns-in_err-done-clause-after
returns-in_err-done-clause-after g c =
    ended_after _ _ _ _
    (offering_fails _ _ _ _ _ _ c.loop-done-test.true c.loop-done.invariant.offering c.in_err-done.ensures.answer
    c.in_err-done.ensures.after)

pub returns-clause-none_failed : goal.returns-clause-none_failed
returns-clause-none_failed g c = ended_failed _ _ _ _ (offering_ends _ _ _ _ c.loop-done-test.false c.loop-done.invariant.offering)

pub returns-clause-after : goal.returns-clause-after
returns-clause-after g c = ended_after _ _ _ _ (offering_ends _ _ _ _ c.loop-done-test.false c.loop-done.invariant.offering)
