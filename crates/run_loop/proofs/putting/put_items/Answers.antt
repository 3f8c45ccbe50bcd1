use Rattle.std.proofs.Common.{◌≡◌, ◌<◌, ◌^◌, [], length, drop, ap, arith}
use Rattle.std.specs.Prelude.{flat_map}
use Rattle.std.proofs.lemmas.List.{drop_all}
use Rattle.host_turn.specs.declared.stamped.Stamped.{Stamped}
use Rattle.io_edge.proofs.Taken.{on_err}
use Rattle.pc_tables.specs.declared.item.Item.TheVariants.{Port}
use Rattle.run_loop.proofs.Said.{one_in}
use Rattle.run_loop.proofs.Texts.{all_said, line_cut, line_said, lines_left, none_yet}
use Rattle.run_loop.proofs.putting.put_items.Goals as goal

pub loop-stamped-init : goal.loop-stamped-init
loop-stamped-init g c = none_yet _ _

pub put_line-requires : goal.put_line-requires
put_line-requires g c =
    let items = c.args.items.now in
    let i = c.loop-stamped.stamped-index in
    let within : i < length items = omega (arith, c.loop-stamped-test.true, c.loop-stamped.auto.stamped-index-end) in
    record { near = one_in 0 (2 ^ 32) items i (record { cycle = 0; item = Port 0 }) c.requires.near within }

pub returns-in_err-put_line-clause-broken : goal.returns-in_err-put_line-clause-broken
returns-in_err-put_line-clause-broken g c =
    let items = c.args.items.now in
    let i = c.loop-stamped.stamped-index in
    let d : Stamped = record { cycle = 0; item = Port 0 } in
    let within : i < length items = omega (arith, c.loop-stamped-test.true, c.loop-stamped.auto.stamped-index-end) in
    on_err c.from_residual.result _
    (line_cut _ _ (g.K.Sink.shown c.put_line.new.out) _ _ _ _ c.loop-stamped.invariant
    (lines_left (g.L.ItemLine.line_of c.args.lines.now) items i d within) c.put_line.ensures.whole c.in_err-put_line.ensures.broken)

pub loop-stamped-preserved : goal.loop-stamped-preserved
loop-stamped-preserved g c =
    let items = c.args.items.now in
    let i = c.loop-stamped.stamped-index in
    let d : Stamped = record { cycle = 0; item = Port 0 } in
    let within : i < length items = omega (arith, c.loop-stamped-test.true, c.loop-stamped.auto.stamped-index-end) in
    line_said _ _ (g.K.Sink.shown c.put_line.new.out) _ _ _ _ c.loop-stamped.invariant
    (lines_left (g.L.ItemLine.line_of c.args.lines.now) items i d within) c.put_line.ensures.whole c.in_ok-put_line.ensures.said

pub returns-clause-said : goal.returns-clause-said
returns-clause-said g c =
    let items = c.args.items.now in
    let i = c.loop-stamped.stamped-index in
    let none : drop i items ≡ [] = drop_all i items (omega (arith, c.loop-stamped-test.false, c.loop-stamped.auto.stamped-index-end)) in
    all_said _ _ _ _ c.loop-stamped.invariant (ap (flat_map (g.L.ItemLine.line_of c.args.lines.now)) none)
