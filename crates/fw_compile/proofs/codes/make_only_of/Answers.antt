use Rattle.std.proofs.Common.{◌≡◌, take, map, sym, subst, ◌∙◌, arith}
use Rattle.std.specs.List.{range_with_len}
use Rattle.std.proofs.lemmas.List.{take_more_set, take_all}
use Rattle.std.proofs.lemmas.List.FromFn.{map-range_with_len_more}
use Rattle.std.proofs.lemmas.Grind.{common_steps}
use Rattle.fw_compile.specs.Image.{make_only_byte}
use Rattle.fw_compile.proofs.codes.make_only_of.Goals as goal

-- one byte more
pub loop-column-preserved : goal.loop-column-preserved
loop-column-preserved c =
    let column = c.loop-column.column in
    let more = map-range_with_len_more (make_only_byte c.args.layout.now) 0 column column (omega arith) in
    rw (c.from.ensures, c.make_only_byte.ensures, more)
    (grind (arith, common_steps, c.loop-column.invariant, c.loop-column-test.true, take_more_set))

pub returns : goal.returns
returns c =
    let bytes = c.loop-column.bytes in
    let all : c.loop-column.column ≡ 12 = omega arith in
    sym (take_all 12 bytes (omega (arith, c.loop-column.invariant.0)))
    ∙ subst (λ k. take k bytes ≡ map (make_only_byte c.args.layout.now) (range_with_len 0 k)) all c.loop-column.invariant.1
