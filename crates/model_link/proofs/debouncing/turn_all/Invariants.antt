use Rattle.std.proofs.Common.{◌≡◌, take}
use Rattle.model_link.specs.Debounce.{turned_all}
use Rattle.model_link.proofs.debouncing.turn_all.Given as goal

abbrev pub invariant-loop-place : goal.invariant-loop-place
invariant-loop-place l = l.keys ≡ turned_all (take l.place-index l.edges) l.fn.keys
