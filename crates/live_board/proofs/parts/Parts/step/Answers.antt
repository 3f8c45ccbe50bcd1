use Rattle.std.proofs.Common.{arith}
use Rattle.joint_feed.proofs.Counts.{made_few}
use Rattle.joint_feed.proofs.Going.{made}
use Rattle.live_board.proofs.Stepping.{counted}
use Rattle.live_board.proofs.parts.Parts.step.Goals as goal

pub end_step-requires-clause-made : goal.end_step-requires-clause-made
end_step-requires-clause-made c =
    let k = c.args.self.now in
    let m = made k.due k.joint c.step_into.new.seen c.step_into.new.self c.in_ok-step_into.ensures.step in
    let some = m.seen_so.edges in
    let few = made_few k.joint.cycle k.due.edges.items in
    omega (arith, some, few)

pub end_step-requires-clause-cycles : goal.end_step-requires-clause-cycles
end_step-requires-clause-cycles c =
    let k = c.args.self.now in
    let cycles = (counted k.due k.joint c.step_into.new.self c.step_into.new.seen c.in_ok-step_into.ensures.step).0 in
    omega (arith, cycles)
