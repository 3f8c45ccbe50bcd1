use Rattle.std.proofs.Common.{◌≡◌, ◌+◌, ◌++◌, length, take}
use Rattle.host_turn.proofs.desk.Desk.interrupt.Given as goal

abbrev pub invariant-loop-item : goal.invariant-loop-item
invariant-loop-item g l = record {
  said : l.items.items ≡ l.initial.items.items ++ take l.item-index l.item-items;
  count : length l.items.items ≡ length l.initial.items.items + l.item-index;
}
