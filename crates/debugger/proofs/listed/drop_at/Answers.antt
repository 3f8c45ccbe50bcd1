use Rattle.std.proofs.Common.{ap, ◌∙◌, map}
use Rattle.debugger.proofs.AtNumber.{dropped_at}
use Rattle.debugger.proofs.listed.drop_at.Goals as goal

pub returns : goal.returns
returns g c = ap (map _) c.remove.ensures.items ∙ dropped_at _ c.args.probes.now.items c.args.probe
