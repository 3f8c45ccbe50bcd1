use Rattle.std.proofs.Common.{◌≡◌, ◌<◌, ◌≤◌, ◌+◌, ◌*◌, ◌^◌, ◌++◌, ℕ, List, All, length, rules, map, subst, refl, ap, ◌∙◌, arith}
use Rattle.std.proofs.lemmas.List.{length-append, take_all}
use Rattle.std.proofs.lemmas.List.Elements.{All-more}
use Rattle.edge_queue.specs.Calls.{edge_of}
use Rattle.edge_queue.specs.declared.queue.Pushed.{Pushed}
use Rattle.joint_bytes.specs.Lists.{edges_bytes}
use Rattle.queue_bytes.proofs.Places.{edge_put, rest_put, zeros_left}
use Rattle.queue_bytes.proofs.saving.push_edges.Goals as goal

pub loop-edge-preserved : goal.loop-edge-preserved
loop-edge-preserved c =
    let es : List Pushed = c.args.edges.now in
    let i : ℕ = c.loop-edge.edge-index in
    let test = c.loop-edge-test.true in
    let few = c.requires.few in
    let was : length c.loop-edge.bytes.items ≡ 29 + 10 * i = c.loop-edge.invariant.count in
    let ten : length c.edge_bytes.result ≡ 10 = search rules in
    let grown : length c.append.new.text.items ≡ length c.loop-edge.bytes.items + length c.edge_bytes.result =
    ap (λ (s : List ℕ). length s) c.append.ensures ∙ length-append c.loop-edge.bytes.items c.edge_bytes.result in
    let count : length c.append.new.text.items ≡ 29 + 10 * (i + 1) = omega (arith, was, ten, grown) in
    record {
      count = count;
      stamps = All-more (λ (e : Pushed). e.stamp < 2 ^ 64) es i _ (omega (arith, test)) c.loop-edge.invariant.stamps c.edge_bytes.ensures.stamp;
      so_far = edge_put 160 i es _ c.loop-edge.bytes.items c.append.new.text.items c.edge_bytes.result
          (c.args.bytes.now.items ++ edges_bytes 160 (map edge_of es)) (omega (arith, test)) (omega (arith, test, few))
          c.edge_bytes.ensures.bytes c.append.ensures c.loop-edge.invariant.so_far;
    }

pub returns-clause-bytes : goal.returns-clause-bytes
returns-clause-bytes c =
    let es : List Pushed = c.args.edges.now in
    let i : ℕ = c.loop-edge.edge-index in
    let past = c.loop-edge-test.false in
    let end = c.loop-edge.auto.edge-index-end in
    let all : length es ≡ i = omega (arith, past, end) in
    rest_put 160 i es c.loop-edge.bytes.items c.append-2.new.text.items _
    (c.args.bytes.now.items ++ edges_bytes 160 (map edge_of es)) all (zeros_left 160 i (length es) _ refl all) c.append-2.ensures
    c.loop-edge.invariant.so_far

pub returns-clause-stamps : goal.returns-clause-stamps
returns-clause-stamps c =
    let es : List Pushed = c.args.edges.now in
    let i : ℕ = c.loop-edge.edge-index in
    let past = c.loop-edge-test.false in
    let end = c.loop-edge.auto.edge-index-end in
    let most : length es ≤ i = omega (arith, past, end) in
    subst (λ (s : List Pushed). All (λ e. e.stamp < 2 ^ 64) s) (take_all i es most) c.loop-edge.invariant.stamps
