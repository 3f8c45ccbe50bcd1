use Rattle.std.proofs.Common.{◌≤◌, ◌-◌, List, [], ◌∷◌, ◌++◌, refl, ap, ◌∙◌, arith}
use Rattle.board_terms.specs.declared.event.Edge.{Edge}
use Rattle.live_board.proofs.Calling.{keyed_on}
use Rattle.live_board.proofs.parts.Parts.key.Goals as goal

pub returns : goal.returns
returns c =
    let k = c.args.self.now in
    let cycle = c.cycle-cycle.ensures.cycle in
    let not_early = c.if-cycle-lt-STAMP_0.false in
    let late : 4096 ≤ k.joint.cycle = omega (arith, cycle, not_early) in
    let long = c.len.ensures.value in
    let room = c.if-len-ge-EDGES.false in
    let e : Edge = record { stamp = k.joint.cycle - 4096; place = c.args.place; down = c.args.down } in
    let items = c.push.ensures.items
    ∙ ap (λ n. k.due.edges.items ++ record { stamp = n - 4096; place = c.args.place; down = c.args.down } ∷ []) cycle in
    record {
      keyed = (late, omega (arith, long, room), λ p s. keyed_on p k _ e late refl refl items refl s);
      log_unchanged = (refl, refl);
      joint = refl;
      waits = ap (λ (l : List Edge). record k { due = record k.due { edges = record { items = l } } }) items;
    }
