use Rattle.std.proofs.Common.{◌-◌, ◌∷◌, [], ◌++◌, drop, ap, ◌∙◌, rules, arith}
use Rattle.joint_bytes.proofs.Pushed.{edges_step, later_is, more, places_later}
use Rattle.joint_bytes.specs.Lists.{edges_in, have_places}
use Rattle.joint_bytes.proofs.lists.+take_edges.Goals as goal

pub take_edges-requires : goal.take_edges-requires
take_edges-requires t c =
    let some = c.if-count-eq0.false in
    let places =
    ap (λ s. have_places (c.args.count - 1) s) (later_is 10 c.args.bytes.now)
    ∙ places_later c.args.count c.args.bytes.now (omega (arith, some)) c.requires.places in
    (search rules, (search rules, (search rules, places)))

pub returns : goal.returns
returns t c =
    let some = c.if-count-eq0.false in
    let rest = edges_in (c.args.count - 1) (drop 10 c.args.bytes.now) in
    record {
      edges =
          more c.args.edges.now.items c.push.new.self.items c.take_edges.new.edges.items (c.edge_in.result ∷ []) rest
          (edges_in c.args.count c.args.bytes.now) c.push.ensures.items
          (c.take_edges.ensures.edges
          ∙ ap (λ s. c.push.new.self.items ++ edges_in (c.args.count - 1) s) (later_is 10 c.args.bytes.now))
          (ap (λ x. x ∷ rest) c.edge_in.ensures ∙ edges_step c.args.count c.args.bytes.now (omega (arith, some)));
    }
