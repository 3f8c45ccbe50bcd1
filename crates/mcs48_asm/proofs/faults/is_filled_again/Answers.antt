use Rattle.std.proofs.Common.{◌≡◌, ◌+◌, ◌&&◌, sym, arith, false, nat_le, nat_lt, slice_index_or, ap, ◌∙◌}
use Rattle.std.specs.List.{list_any}
use Rattle.mcs48_asm.specs.Places.{places, count_of}
use Rattle.mcs48_asm.specs.Kept.{statement_seen}
use Rattle.mcs48_asm.proofs.Ranges.{any_places, no_places}
use Rattle.mcs48_asm.proofs.faults.is_filled_again.Goals as goal

pub returns-then-count-gt0 : goal.returns-then-count-gt0
returns-then-count-gt0 c =
    c.is_any_filled.ensures
    ∙ any_places (λ place. nat_le c.args.start place && nat_lt place (c.args.start + c.count_of-count.result)
    && slice_index_or c.args.filled.now place false) _ c.requires
    ∙ ap (λ n. list_any (λ place. nat_le c.args.start place && nat_lt place (c.args.start + n)
    && slice_index_or c.args.filled.now place false) places) c.count_of-count.ensures.number

pub returns-else-count-gt0 : goal.returns-else-count-gt0
returns-else-count-gt0 c =
    let none : c.count_of-count.result ≡ 0 = omega (arith, c.if-count-gt0.false) in
    ap (nat_lt 0) none
    ∙ sym (no_places (λ place. slice_index_or c.args.filled.now place false) c.args.start
    (count_of (statement_seen c.args.line.statement)) (sym c.count_of-count.ensures.number ∙ none))
