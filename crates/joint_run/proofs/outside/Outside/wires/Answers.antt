use Rattle.std.proofs.Common.{ap, sym, ◌∙◌}
use Rattle.joint_run.specs.Joint.{latch_of}
use Rattle.host_turn.specs.Rest.{is_free}
use Rattle.joint_run.proofs.Quiet.{wires_free}
use Rattle.joint_run.proofs.outside.Outside.wires.Goals as goal

pub returns-in-Free : goal.returns-in-Free
returns-in-Free c = c.latch.ensures ∙ sym (wires_free (latch_of c.args.p2) c.args.self.now.desk.port.link (ap is_free c.in-Free.is))
