use Rattle.std.proofs.Common.{◌≡◌, ◌+◌, ◌*◌}
use Rattle.layout_reader.specs.Layouts.{is_make_only}
use Rattle.fw_compile.specs.Image.{with_bits}
use Rattle.fw_compile.proofs.codes.make_only_byte.Given as goal

-- the bits so far
abbrev pub invariant-loop-row : goal.invariant-loop-row
invariant-loop-row l = l.byte ≡ with_bits (λ row. is_make_only (8 * l.column + row) l.layout) l.row
