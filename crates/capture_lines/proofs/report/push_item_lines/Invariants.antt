use Rattle.std.proofs.Common.{◌≡◌, ◌++◌, drop}
use Rattle.capture_lines.specs.Receiving.{item_lines}
use Rattle.capture_lines.proofs.report.push_item_lines.Given as goal

abbrev pub invariant-loop-item : goal.invariant-loop-item
invariant-loop-item l =
    l.text.items ++ item_lines l.time (drop l.item-index l.items) ≡ l.initial.text.items ++ item_lines l.time l.items
