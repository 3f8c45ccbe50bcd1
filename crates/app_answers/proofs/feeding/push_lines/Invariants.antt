use Rattle.std.proofs.Common.{◌≡◌, ◌++◌, drop}
use Rattle.app_answers.specs.Feeding.{lines_of}
use Rattle.app_answers.proofs.feeding.push_lines.Given as goal

abbrev pub invariant-loop-item : goal.invariant-loop-item
invariant-loop-item l =
    l.text.items ++ lines_of (drop l.item-index l.items) ≡ l.initial.text.items ++ lines_of l.items
