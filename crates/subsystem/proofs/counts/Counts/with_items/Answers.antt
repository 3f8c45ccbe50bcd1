use Rattle.std.proofs.Common.{◌<◌, ◌+◌, ◌∷◌, [], length, drop, map, get_or, ap, sym, ◌∙◌, arith}
use Rattle.host_turn.specs.declared.stamped.Stamped.{Stamped}
use Rattle.pc_tables.specs.declared.item.Item.TheVariants.{Port}
use Rattle.subsystem.specs.Account.{in_tick}
use Rattle.subsystem.specs.Counts.{with_lines}
use Rattle.subsystem.proofs.Lines.{lines_left, with_lines-append}
use Rattle.subsystem.proofs.counts.Counts.with_items.Goals as goal

pub loop-stamped-preserved : goal.loop-stamped-preserved
loop-stamped-preserved c =
    let items = c.args.items.now in
    let i = c.loop-stamped.stamped-index in
    let d : Stamped = record { cycle = 0; item = Port 0 } in
    let within : i < length items = omega (arith, c.loop-stamped-test.true, c.loop-stamped.auto.stamped-index-end) in
    let others = map (in_tick c.args.tick) (drop (i + 1) items) in
    ap (λ v. with_lines v others) c.with-counts.ensures
    ∙ with_lines-append c.loop-stamped.counts (in_tick c.args.tick (get_or items i d) ∷ []) others
    ∙ ap (with_lines c.loop-stamped.counts) (sym (lines_left c.args.tick items i d within))
    ∙ c.loop-stamped.invariant
