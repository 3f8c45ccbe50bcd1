use Rattle.std.proofs.Common.{rules}
use Rattle.joint_saved.proofs.Columns.{keys_are, rows_are}
use Rattle.joint_saved.proofs.saving.columns.Goals as goal

pub returns-clause-rows : goal.returns-clause-rows
returns-clause-rows c = rows_are c.columns.result c.args.joint.now.matrix (search rules) (search rules) (search rules)

pub returns-clause-read : goal.returns-clause-read
returns-clause-read c = keys_are c.columns.result c.args.joint.now.matrix (search rules) (search rules) (search rules)
