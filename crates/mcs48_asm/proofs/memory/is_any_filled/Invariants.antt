use Rattle.std.proofs.Common.{◌≡◌, ◌-◌, ◌&&◌, false, length, nat_le, nat_lt, slice_index_or}
use Rattle.std.specs.List.{list_any, range_with_len}
use Rattle.mcs48_asm.proofs.memory.is_any_filled.Given as goal

-- what holds of all places is what holds of those that are left
abbrev pub invariant-loop-place : goal.invariant-loop-place
invariant-loop-place l =
    list_any (λ place. nat_le l.start place && nat_lt place l.end && slice_index_or l.filled place false)
    (range_with_len 0 (length l.filled))
    ≡ list_any (λ place. nat_le l.start place && nat_lt place l.end && slice_index_or l.filled place false)
    (range_with_len l.place (length l.filled - l.place))
