use Rattle.std.proofs.Common.{◌≡◌, length, take, map}
use Rattle.std.specs.List.{range_with_len}
use Rattle.fw_compile.specs.Image.{code_byte}
use Rattle.fw_compile.proofs.codes.codes_of.Given as goal

-- the bytes so far
abbrev pub invariant-loop-number : goal.invariant-loop-number
invariant-loop-number l =
    (length l.codes ≡ 96) × (take l.number l.codes ≡ map (code_byte l.layout) (range_with_len 0 l.number))
