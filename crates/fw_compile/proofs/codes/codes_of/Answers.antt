use Rattle.std.proofs.Common.{arith}
use Rattle.std.proofs.lemmas.List.{take_more_set}
use Rattle.std.proofs.lemmas.List.FromFn.{map-range_with_len_more}
use Rattle.std.proofs.lemmas.Grind.{common_steps}
use Rattle.fw_compile.specs.Image.{code_byte}
use Rattle.fw_compile.proofs.codes.codes_of.Goals as goal

-- one byte more
pub loop-number-preserved : goal.loop-number-preserved
loop-number-preserved c =
    let number = c.loop-number.number in
    let more = map-range_with_len_more (code_byte c.args.layout.now) 0 number number (omega arith) in
    rw (c.from.ensures, c.code_of.ensures, more)
    (grind (arith, common_steps, c.loop-number.invariant, c.loop-number-test.true, take_more_set))
