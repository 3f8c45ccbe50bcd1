use Rattle.std.proofs.Common.{◌≡◌, ◌+◌, ◌≤◌, length}
use Rattle.std.specs.Str.Lines.{lines}
use Rattle.hexfile.specs.Hex.{hex_of, hex_from}
use Rattle.hexfile.proofs.reading.read_hex.Given as goal

-- the text comes to what its other lines come to, with what the lines so far came to before them
abbrev pub invariant-loop-line : goal.invariant-loop-line
invariant-loop-line l =
    (hex_of l.bytes ≡ hex_from l.number l.progress (lines l.rest)) × (l.number + length l.rest ≤ 1 + length l.bytes)

abbrev pub decreases-loop-line : goal.decreases-loop-line
decreases-loop-line l = length l.rest
