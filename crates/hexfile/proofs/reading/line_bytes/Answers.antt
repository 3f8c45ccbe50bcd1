use Rattle.std.proofs.Common.{sym, arith}
use Rattle.hexfile.proofs.Digits.{record_in-long}
use Rattle.std.proofs.lemmas.Grind.{common_steps}
use Rattle.hexfile.proofs.reading.line_bytes.Goals as goal

-- a line that is too long for its count
pub returns-then-digits : goal.returns-then-digits
returns-then-digits c = sym (record_in-long c.args.line.now (grind (arith, common_steps)))
