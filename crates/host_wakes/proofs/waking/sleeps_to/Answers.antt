use Rattle.host_wakes.proofs.Wakes.{sleeps_by}
use Rattle.host_wakes.proofs.waking.sleeps_to.Goals as goal

pub returns-clause-sleeps : goal.returns-clause-sleeps
returns-clause-sleeps g c =
    sleeps_by g.F.Passing.breaks c.args.next c.args.desk.now c.args.end c.args.now c.first_stir.result
    c.first_stir.ensures.is
