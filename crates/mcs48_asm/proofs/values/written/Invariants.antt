use Rattle.std.proofs.Common.{◌≡◌, take}
use Rattle.mcs48_asm.specs.Capped.{capped}
use Rattle.mcs48_asm.specs.Values.{written}
use Rattle.mcs48_asm.proofs.values.written.Given as goal

abbrev pub invariant-loop-digit : goal.invariant-loop-digit
invariant-loop-digit l = l.number ≡ capped (written l.base (take l.digit-index l.digits))
