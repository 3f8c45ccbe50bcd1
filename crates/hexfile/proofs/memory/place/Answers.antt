use Rattle.std.proofs.Common.{arith}
use Rattle.hexfile.specs.Record.{said_by}
use Rattle.hexfile.proofs.Places.{filled_more, end_within}
use Rattle.hexfile.proofs.memory.place.Goals as goal

pub loop-offset-preserved : goal.loop-offset-preserved
loop-offset-preserved c =
    let within = end_within (said_by c.args.line.now) (omega arith) c.requires in
    filled_more _ _ _ _ _ c.loop-offset-test.true (omega (arith, within)) c.loop-offset.invariant
