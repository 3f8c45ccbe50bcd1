-- Nothing is after `show`.
use Rattle.std.proofs.Common.{sym}
use Rattle.debugger.proofs.Fields.{field_after}
use Rattle.debugger.proofs.command.command_of.Goals as goal

pub returns-in-Show-clause-command : goal.returns-in-Show-clause-command
returns-in-Show-clause-command c = rw (c.in-Show.is) (sym (field_after 32 c.args.text.now))
