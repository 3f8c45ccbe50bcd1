use Rattle.debugger.proofs.AtNumber.{armed_at}
use Rattle.debugger.proofs.listed.arm_at.Goals as goal

pub returns : goal.returns
returns g c =
    armed_at _ c.args.probes.now.items c.args.probe c.index_mut.result.now _ c.args.a c.args.b
    c.requires c.index_mut.ensures.value c.arm_one.ensures
