use Rattle.std.proofs.Common.{◌≡◌, ◌++◌, drop}
use Rattle.subsystem.specs.Texts.{log_text}
use Rattle.subsystem.proofs.printing.print_log.Given as goal

abbrev pub invariant-loop-line : goal.invariant-loop-line
invariant-loop-line l = l.text.items ++ log_text (drop l.line-index l.log) ≡ log_text l.log
