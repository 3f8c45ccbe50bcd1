use Rattle.std.proofs.Common.{◌≡◌, ◌%◌, ◌++◌, map, length}
use Rattle.mcs48_asm.specs.Names.{taken}
use Rattle.std.specs.List.{slice_split}
use Rattle.mcs48_asm.specs.Characters.{is_comma}
use Rattle.mcs48_asm.specs.Kept.{kept_value, kept_part}
use Rattle.mcs48_asm.proofs.meaning.data_bytes.Given as goal

-- the bytes so far, and those of the parts that are left
abbrev pub invariant-loop-part : goal.invariant-loop-part
invariant-loop-part l =
    l.bytes.items ++ map (λ part. taken (kept_value l.names.entries) (kept_part part) % 256) (slice_split is_comma l.rest)
    ≡ map (λ part. taken (kept_value l.names.entries) (kept_part part) % 256) (slice_split is_comma l.text)

abbrev pub decreases-loop-part : goal.decreases-loop-part
decreases-loop-part l = length l.rest
