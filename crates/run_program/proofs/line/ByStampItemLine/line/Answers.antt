use Rattle.run_program.proofs.Lines.{line_ends}
use Rattle.run_program.proofs.line.ByStampItemLine.line.Goals as goal

pub returns-then-stamped-lt-STAMP_0-clause-whole : goal.returns-then-stamped-lt-STAMP_0-clause-whole
returns-then-stamped-lt-STAMP_0-clause-whole c = line_ends c.args.stamped

pub returns-clause-whole : goal.returns-clause-whole
returns-clause-whole c = line_ends c.args.stamped
