use Rattle.std.proofs.Common.{arith}
use Rattle.key_file.proofs.Outcomes.{come-first, come-next}
use Rattle.key_file.proofs.checking.check_history.Goals as goal

pub loop-line-init : goal.loop-line-init
loop-line-init c = come-first c.args.layout.now c.args.bytes.now _ c.new-brief.ensures

pub loop-line-preserved : goal.loop-line-preserved
loop-line-preserved c =
    let h = c.loop-line.invariant in
    come-next c.args.layout.now c.args.bytes.now c.loop-line.number c.loop-line.rest.now c.in-Some.after.now c.in-Some.line.now
    _ h c.in-Some.ensures.lines _ (omega (arith, c.in-Some.ensures.shorter))
    (c.in_default-take_line.ensures.taken h.before h.kept)
