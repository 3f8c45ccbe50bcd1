use Rattle.std.proofs.Common.{refl, arith, sym}
use Rattle.mcs48_isa.proofs.Rows.{mov_ar}
use Rattle.mcs48_isa.proofs.decoding.read_row.Goals as goal

pub returns-in-2 : goal.returns-in-2
returns-in-2 s c = rw c.in-2.is refl

pub returns-in-248-to-255 : goal.returns-in-248-to-255
returns-in-248-to-255 s c = sym (mov_ar c.args.n c.args.first (grind arith) (grind arith))
