use Rattle.std.proofs.Common.{arith}
use Rattle.joint_feed.proofs.Counts.{made_few}
use Rattle.joint_feed.proofs.Going.{made}
use Rattle.live_board.proofs.Stepping.{counted}
use Rattle.live_board.proofs.parts.Parts.glide.Goals as goal

pub end_step-requires-clause-made : goal.end_step-requires-clause-made
end_step-requires-clause-made c =
    let k = c.args.self.now in
    let g = c.in_ok-go_on.ensures.gone in
    let m = made k.due g.last c.go_on.new.seen c.go_on.new.joint g.step in
    let some = m.seen_so.edges in
    let few = made_few g.last.cycle k.due.edges.items in
    omega (arith, some, few)

pub end_step-requires-clause-cycles : goal.end_step-requires-clause-cycles
end_step-requires-clause-cycles c =
    let k = c.args.self.now in
    let g = c.in_ok-go_on.ensures.gone in
    let cycles = (counted k.due g.last c.go_on.new.joint c.go_on.new.seen g.step).0 in
    omega (arith, cycles)
