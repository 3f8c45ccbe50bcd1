use Rattle.std.proofs.Common.{◌≡◌, ◌≤◌, ◌<◌, ◌+◌, length, ap, ◌∙◌, arith}
use Rattle.run_probes.specs.Probes.{looked, or_met, sight_of}
use Rattle.run_probes.proofs.Hits.{hit_more}
use Rattle.run_probes.proofs.Over.{over_more, over_all_of}
use Rattle.run_probes.proofs.probe.look_all.Goals as goal

pub loop-probe-preserved : goal.loop-probe-preserved
loop-probe-preserved g c =
    let m = sight_of c.args.joint.now in
    let l = c.loop-probe in
    let inv = c.loop-probe.invariant in
    let all : length l.probe-items ≡ length c.args.probes.now.items =
    omega (arith, l.auto.probe-items, c.args.probes.now.ok.0, c.deref_mut-probe-items.ensures.len) in
    let within : l.probe-index < length l.probe-items = omega (arith, c.loop-probe-test.true, l.auto.probe-items) in
    record {
      number = ap (λ n. n + 1) inv.number;
      so_far = over_more _ (looked c.args.step m) c.args.probes.now.items l.probe-items l.probe-index c.probe-item.result
          _ within all inv.so_far c.probe-item.is c.look_one-met.ensures.looked;
      hit = c.or_met-hit.ensures ∙ ap (or_met l.hit c.look_one-met.result) inv.number
          ∙ hit_more _ m (looked c.args.step m) c.args.probes.now.items l.probe-items l.probe-index c.probe-item.result
          c.look_one-met.result l.hit within all inv.so_far c.probe-item.is c.look_one-met.ensures.hit inv.hit;
    }

pub returns-clause-looked : goal.returns-clause-looked
returns-clause-looked g c =
    let l = c.loop-probe in
    let len : c.args.probes.now.len ≡ length l.probe-items =
    omega (arith, l.auto.probe-items, c.args.probes.now.ok.0, c.deref_mut-probe-items.ensures.len) in
    let done : length c.args.probes.now.items ≤ l.probe-index =
    omega (arith, c.loop-probe-test.false, l.auto.probe-items, c.args.probes.now.ok.0, c.deref_mut-probe-items.ensures.len) in
    over_all_of _ (looked c.args.step (sight_of c.args.joint.now)) c.args.probes.now.items l.probe-items
    _ c.args.probes.now.len l.probe-index len done l.invariant.so_far
