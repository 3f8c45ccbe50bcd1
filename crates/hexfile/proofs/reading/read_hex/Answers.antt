use Rattle.std.proofs.Common.{refl, arith}
use Rattle.hexfile.specs.Hex.{hex_of}
use Rattle.hexfile.specs.Memory.{empty_memory}
use Rattle.hexfile.proofs.reading.read_hex.Goals as goal

pub loop-line-init : goal.loop-line-init
unfolding hex_of empty_memory
loop-line-init c = (refl, omega arith)
