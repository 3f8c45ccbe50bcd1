use Rattle.std.proofs.Common.{◌/◌, ◌%◌, arith}
use Rattle.model_keyboard.proofs.Periods.{doubled}
use Rattle.model_keyboard.proofs.typematic.period.Goals as goal

pub overflow_cast-result : goal.overflow_cast-result
overflow_cast-result c =
    let d = doubled c.from.result (c.args.rate / 8 % 4) (omega arith) (omega arith) in
    omega (arith, d.0, d.1)
