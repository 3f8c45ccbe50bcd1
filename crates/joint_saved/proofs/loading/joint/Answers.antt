use Rattle.std.proofs.Common.{inl, rules}
use Rattle.joint_saved.proofs.Understood.{no_processor}
use Rattle.joint_saved.proofs.loading.joint.Goals as goal

pub returns-in-None-clause-refused : goal.returns-in-None-clause-refused
returns-in-None-clause-refused c = inl (no_processor c.args.bytes.now (search rules))
