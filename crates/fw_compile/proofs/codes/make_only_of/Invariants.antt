use Rattle.std.proofs.Common.{◌≡◌, length, take, map}
use Rattle.std.specs.List.{range_with_len}
use Rattle.fw_compile.specs.Image.{make_only_byte}
use Rattle.fw_compile.proofs.codes.make_only_of.Given as goal

-- the bytes so far
abbrev pub invariant-loop-column : goal.invariant-loop-column
invariant-loop-column l =
    (length l.bytes ≡ 12) × (take l.column l.bytes ≡ map (make_only_byte l.layout) (range_with_len 0 l.column))
