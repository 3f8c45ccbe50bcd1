use Rattle.std.proofs.Common.{rules, ◌∙◌}
use Rattle.joint_saved.proofs.Columns.{keys_are, rows_are}
use Rattle.queue_bytes.proofs.keys.columns.Goals as goal

pub returns-clause-rows : goal.returns-clause-rows
returns-clause-rows c =
    rows_are c.columns.result c.args.queue.now.down (search rules) (search rules) (c.columns.ensures.keys ∙ c.matrix.ensures.keys)

pub returns-clause-read : goal.returns-clause-read
returns-clause-read c =
    keys_are c.columns.result c.args.queue.now.down (search rules) (search rules) (c.columns.ensures.keys ∙ c.matrix.ensures.keys)
