use Rattle.std.proofs.Common.{◌≡◌, is_none, length}
use Rattle.std.specs.List.{list_any, slice_split}
use Rattle.mcs48_asm.specs.Names.{meaning}
use Rattle.mcs48_asm.specs.Characters.{is_comma}
use Rattle.mcs48_asm.specs.Kept.{kept_value, kept_part}
use Rattle.mcs48_asm.proofs.faults.has_unknown_part.Given as goal

abbrev pub invariant-loop-part : goal.invariant-loop-part
invariant-loop-part l =
    list_any (λ part. is_none (meaning (kept_value l.names.entries) (kept_part part))) (slice_split is_comma l.text)
    ≡ list_any (λ part. is_none (meaning (kept_value l.names.entries) (kept_part part))) (slice_split is_comma l.rest)

abbrev pub decreases-loop-part : goal.decreases-loop-part
decreases-loop-part l = length l.rest
