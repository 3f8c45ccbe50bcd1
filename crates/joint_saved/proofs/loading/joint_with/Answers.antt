use Rattle.std.proofs.Common.{inl, rules}
use Rattle.joint_saved.proofs.Understood.{no_link}
use Rattle.joint_saved.proofs.loading.joint_with.Goals as goal

pub returns-in-None-clause-refused : goal.returns-in-None-clause-refused
returns-in-None-clause-refused c = inl (no_link c.args.bytes.now c.args.mcu c.requires.processor (search rules))
