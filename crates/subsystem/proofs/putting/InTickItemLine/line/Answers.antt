use Rattle.subsystem.specs.Account.{in_tick}
use Rattle.subsystem.proofs.Lines.{line_ends}
use Rattle.subsystem.proofs.putting.InTickItemLine.line.Goals as goal

pub returns-clause-whole : goal.returns-clause-whole
returns-clause-whole c = line_ends (in_tick c.args.self.now.tick c.args.stamped)
