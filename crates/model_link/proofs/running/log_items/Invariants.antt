use Rattle.std.proofs.Common.{◌≡◌, ◌++◌, take}
use Rattle.host_turn.specs.Run.{stamped}
use Rattle.model_link.proofs.running.log_items.Given as goal

abbrev pub invariant-loop-item : goal.invariant-loop-item
invariant-loop-item l = l.log.items ≡ l.fn.log.items ++ stamped l.now (take l.item-index l.items)
