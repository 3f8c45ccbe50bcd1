use Rattle.std.proofs.Common.{◌≡◌, take}
use Rattle.model_link.proofs.debouncing.copied.Given as goal

abbrev pub invariant-loop-place : goal.invariant-loop-place
invariant-loop-place l = l.copy.items ≡ take l.place-index l.edges
