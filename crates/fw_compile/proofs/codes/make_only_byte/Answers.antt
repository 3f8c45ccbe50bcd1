use Rattle.std.proofs.Common.{◌+◌, ◌*◌, arith}
use Rattle.layout_reader.specs.Layouts.{is_make_only}
use Rattle.fw_compile.proofs.Bits.{one_more}
use Rattle.fw_compile.proofs.codes.make_only_byte.Goals as goal

pub overflow_add-byte : goal.overflow_add-byte
overflow_add-byte c =
    let fits = one_more (λ row. is_make_only (8 * c.args.column + row) c.args.layout.now) c.loop-row.row c.loop-row.byte
    c.loop-row-test.true c.loop-row.invariant in
    omega (arith, fits)
