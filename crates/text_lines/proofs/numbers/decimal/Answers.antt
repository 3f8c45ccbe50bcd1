use Rattle.std.proofs.Common.{length, arith}
use Rattle.text_lines.proofs.Digits.{below_more}
use Rattle.text_lines.proofs.numbers.decimal.Goals as goal

pub returns-clause-below : goal.returns-clause-below
returns-clause-below c = below_more c.decimal_in.result (length c.args.text.now) c.args.most (omega arith) c.decimal_in.ensures.below
