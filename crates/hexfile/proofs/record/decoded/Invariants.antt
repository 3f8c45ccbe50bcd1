use Rattle.std.proofs.Common.{◌≡◌, ◌+◌, ◌*◌, ◌++◌, length}
use Rattle.std.specs.Option.{option_map}
use Rattle.hexfile.specs.Record.{bytes_of}
use Rattle.hexfile.proofs.record.decoded.Given as goal

-- the bytes so far, and those of the digits that are left
abbrev pub invariant-loop-rest : goal.invariant-loop-rest
invariant-loop-rest l =
    (bytes_of l.digits ≡ option_map (λ more. l.bytes.items ++ more) (bytes_of l.rest))
    × (2 * length l.bytes.items + length l.rest ≡ length l.digits)

abbrev pub decreases-loop-rest : goal.decreases-loop-rest
decreases-loop-rest l = length l.rest
