use Rattle.ctl_wire.specs.Wire.{is_breakable}
use Rattle.host_wakes.proofs.Wakes.{sleeps_by}
use Rattle.joint_glide.proofs.still.wakes.Goals as goal

pub returns-clause-sleeps : goal.returns-clause-sleeps
returns-clause-sleeps c =
    sleeps_by is_breakable c.args.next c.args.outside.now.desk c.args.end c.args.now c.first_stir.result c.first_stir.ensures.is
