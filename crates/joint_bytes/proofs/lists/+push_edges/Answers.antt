use Rattle.std.proofs.Common.{◌-◌, drop, take, length, arith}
use Rattle.joint_bytes.proofs.ListRead.{edges_all, edges_more, places_all}
use Rattle.joint_bytes.proofs.Pushed.{more}
use Rattle.joint_bytes.specs.Lists.{edges_bytes}
use Rattle.joint_bytes.proofs.lists.+push_edges.Goals as goal

pub returns-in-len1-up-clause-bytes : goal.returns-in-len1-up-clause-bytes
returns-in-len1-up-clause-bytes t c =
    let some = c.if-places-eq0.false in
    let up = c.in-len1-up.len_at_least in
    let es = c.args.edges.now in
    more c.args.bytes.now.items c.append-in-len1-up.new.text.items c.push_edges-in-len1-up.new.bytes.items c.edge_bytes.result
    (edges_bytes (c.args.places - 1) (take (length es - 1) (drop 1 es))) (edges_bytes c.args.places es)
    c.append-in-len1-up.ensures c.push_edges-in-len1-up.ensures.bytes
    (edges_more c.args.places es c.edge-item.result c.edge_bytes.result (omega (arith, some)) (omega (arith, up)) c.edge-item.is
    c.edge_bytes.ensures.bytes)

pub returns-in-len1-up-clause-read : goal.returns-in-len1-up-clause-read
returns-in-len1-up-clause-read t c =
    let some = c.if-places-eq0.false in
    let up = c.in-len1-up.len_at_least in
    edges_all c.args.places c.args.edges.now c.edge-item.result c.edge_bytes.result (omega (arith, some)) (omega (arith, up))
    c.edge-item.is c.edge_bytes.ensures.bytes c.edge_bytes.ensures.read c.push_edges-in-len1-up.ensures.read

pub returns-in-len1-up-clause-places : goal.returns-in-len1-up-clause-places
returns-in-len1-up-clause-places t c =
    let some = c.if-places-eq0.false in
    let up = c.in-len1-up.len_at_least in
    places_all c.args.places c.args.edges.now c.edge-item.result c.edge_bytes.result (omega (arith, some)) (omega (arith, up))
    c.edge-item.is c.edge_bytes.ensures.bytes c.edge_bytes.ensures.place c.push_edges-in-len1-up.ensures.places
