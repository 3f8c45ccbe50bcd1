use Rattle.std.proofs.Common.{◌≡◌, ◌+◌, ◌++◌, length, take}
use Rattle.host_turn.specs.Run.{stamped}
use Rattle.joint_run.proofs.outside.Outside.go_on_busily.Given as goal

abbrev pub invariant-loop-item : goal.invariant-loop-item
invariant-loop-item l = record {
  said : l.items.items ≡ l.initial.items.items ++ stamped l.now (take l.item-index l.item-items);
  count : length l.items.items ≡ length l.initial.items.items + l.item-index;
}
