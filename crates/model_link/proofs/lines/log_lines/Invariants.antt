use Rattle.std.proofs.Common.{◌≡◌, ◌-◌, length, take}
use Rattle.board_terms.specs.Cadence.{listed}
use Rattle.model_link.specs.Expected.{lines}
use Rattle.model_link.proofs.lines.log_lines.Given as goal

abbrev pub invariant-loop-stamped : goal.invariant-loop-stamped
invariant-loop-stamped l = l.lines.items ≡ lines (listed l.starts) (length l.starts - 1) (take l.stamped-index l.log)
