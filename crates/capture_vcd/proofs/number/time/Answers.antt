use Rattle.std.proofs.Common.{length, arith}
use Rattle.text_lines.proofs.Digits.{below_more}
use Rattle.capture_vcd.proofs.number.time.Goals as goal

pub returns-clause-below : goal.returns-clause-below
returns-clause-below c = below_more c.digits_in.result (length c.args.text.now) 14 (omega arith) c.digits_in.ensures.below
