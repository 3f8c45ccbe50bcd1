use Rattle.std.proofs.Common.{◌≡◌, ◌<◌, ◌≤◌, ◌^◌, ◌++◌, List, All, length, rules, map, subst, refl, ap, ◌∙◌}
use Rattle.edge_queue.specs.Calls.{edge_of}
use Rattle.edge_queue.specs.Queue.{Queue, queue_of}
use Rattle.edge_queue.specs.declared.queue.Pushed.{Pushed}
use Rattle.joint_bytes.specs.Lists.{edges_bytes}
use Rattle.queue_bytes.specs.Saved.{head_bytes}
use Rattle.queue_bytes.proofs.Loads.{loads}
use Rattle.queue_bytes.proofs.Places.{all_places}
use Rattle.queue_bytes.proofs.saving.save.Goals as goal

pub returns-clause-bytes : goal.returns-clause-bytes
returns-clause-bytes c =
    let q : Queue = queue_of c.args.queue.now in
    c.push_edges.ensures.bytes
    ∙ ap (λ s. s ++ edges_bytes 160 (map edge_of c.waiting.result.now)) c.head-bytes.ensures.bytes
    ∙ ap (λ es. head_bytes q ++ edges_bytes 160 (map edge_of es)) c.waiting.ensures.edges

pub returns-clause-loaded : goal.returns-clause-loaded
returns-clause-loaded c =
    let q : Queue = queue_of c.args.queue.now in
    let waiting = c.waiting.ensures.edges in
    let count : length c.push_edges.new.bytes.items ≡ 1629 = search rules in
    loads c.push_edges.new.bytes.items (edges_bytes 160 (map edge_of q.waiting)) q (returns-clause-bytes c) refl count
    (all_places (map edge_of q.waiting)) (subst (λ (es : List Pushed). length es ≤ 160) waiting c.waiting.ensures.few)
    c.head-bytes.ensures.ready c.head-bytes.ensures.keys
    (subst (λ (es : List Pushed). All (λ e. e.stamp < 2 ^ 64) es) waiting c.push_edges.ensures.stamps)
