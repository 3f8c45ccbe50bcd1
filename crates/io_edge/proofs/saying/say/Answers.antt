use Rattle.std.proofs.Common.{◌≡◌, length, subst, arith}
use Rattle.io_edge.specs.Faults.{Rose}
use Rattle.io_edge.specs.Sink.{Takes}
use Rattle.io_edge.proofs.Pieces.{is_broken, is_said}
use Rattle.io_edge.proofs.Puts.{failed_after, failed_said, saying_first, saying_on, whole_after, whole_said}
use Rattle.io_edge.proofs.Taken.{on_err, takes_none, takes_part, takes_piece}
use Rattle.io_edge.proofs.saying.say.Goals as goal

pub loop-start-init : goal.loop-start-init
loop-start-init g c = record {
  within = grind (arith);
  steady = grind (arith);
  taken = takes_none _ _;
  saying = saying_first (g.K.Sink.shown c.args.out.now).in_memory c.args.text.now;
}

pub loop-start-preserved : goal.loop-start-preserved
loop-start-preserved g c = record {
  within = c.line_end-end.ensures.within;
  steady = grind (arith);
  taken = takes_piece _ _ _ _ _ _
      (grind (arith, c.line_end-end.ensures.more)) c.line_end-end.ensures.within c.loop-start.invariant.taken c.in_ok-put_all.ensures.all;
  saying = saying_on _ _ _ _ _ _ c.loop-start-test.true c.line_end-end.ensures.first c.loop-start.invariant.saying
      c.in_ok-put_all.ensures.none_failed c.in_ok-put_all.ensures.after;
}

pub returns-in_err-put_all-clause-broken : goal.returns-in_err-put_all-clause-broken
returns-in_err-put_all-clause-broken g c =
    let before = g.K.Sink.shown c.args.out.now in
    let after = g.K.Sink.shown c.put_all.new.out in
    on_err _ _ (is_broken before after c.args.text.now
    (takes_part _ _ _ _ _ _
    (grind (arith, c.line_end-end.ensures.more)) c.line_end-end.ensures.within c.loop-start.invariant.taken
    c.in_err-put_all.ensures.part)
    (subst (λ n. Rose n after.faults) c.loop-start.invariant.steady c.in_err-put_all.ensures.failed)
    (failed_said _ _ _ _ _ c.loop-start-test.true c.line_end-end.ensures.first c.loop-start.invariant.saying
    c.in_err-put_all.ensures.one_failed)
    (failed_after _ _ _ _ _ _ c.loop-start-test.true c.line_end-end.ensures.first c.loop-start.invariant.saying
    c.in_err-put_all.ensures.one_failed c.in_err-put_all.ensures.after))

pub returns-clause-said : goal.returns-clause-said
returns-clause-said g c =
    let before = g.K.Sink.shown c.args.out.now in
    let after = g.K.Sink.shown c.loop-start.out in
    let within = c.loop-start.invariant.within in
    let past = c.loop-start-test.false in
    let whole : c.loop-start.start ≡ length c.args.text.now = grind (arith, within, past) in
    is_said before after c.args.text.now
    (subst (Takes before.taken after.taken c.args.text.now) whole c.loop-start.invariant.taken) c.loop-start.invariant.steady
    (whole_said _ _ _ _ c.loop-start-test.false c.loop-start.invariant.saying)
    (whole_after _ _ _ _ c.loop-start-test.false c.loop-start.invariant.saying)
