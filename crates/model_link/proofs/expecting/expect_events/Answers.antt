use Rattle.board_terms.specs.Cadence.{listed}
use Rattle.model_link.specs.Machine.{keyboard}
use Rattle.model_link.proofs.Known.{whole_next}
use Rattle.model_link.proofs.expecting.expect_events.Goals as goal

pub loop-n-preserved : goal.loop-n-preserved
loop-n-preserved c = record {
  is = whole_next (keyboard c.args.layout.now) c.args.edges.now c.args.host.now
      (listed c.args.starts.now) c.loop-n.n c.loop-n.together c.next.new.self
      c.loop-n.invariant.is c.in_ok-next.ensures.ticked;
  known = c.in_ok-next.ensures.known;
  switched = c.in_ok-next.ensures.switched;
}
