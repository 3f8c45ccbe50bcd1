use Rattle.std.proofs.Common.{◌≡◌, false, refl, ◌∙◌, arith}
use Rattle.app_runs.specs.Sampling.{sample_history}
use Rattle.app_runs.proofs.StrokesAreAccepted.{edges_pushed, sample_accepted, takes_pushed}
use Rattle.app_runs.proofs.sampling.sample_history.Goals as goal

pub loop-k-preserved : goal.loop-k-preserved
loop-k-preserved c =
    let inv = c.loop-k.invariant in
    let t = c.stroke_start-stamp.ensures in
    record {
      edges = edges_pushed c.loop-k.k c.stroke_start-stamp.result _ c.stroke_place-place.result c.loop-k.edges.items _ _ inv.edges t
          (omega arith) c.stroke_place-place.ensures c.in_ok-push.ensures.items c.in_ok-push-2.ensures.items;
      host = takes_pushed c.loop-k.k _ c.loop-k.host.items _ inv.host (omega (arith, t)) c.in_ok-push-3.ensures.items;
    }

pub new-requires : goal.new-requires
new-requires c =
    let inv = c.loop-k.invariant in
    let all : c.loop-k.k ≡ c.args.count = omega arith in
    record { accepted = rw (inv.edges, inv.host, c.stroke_start.ensures, all) (sample_accepted c.args.count c.requires.few false).accepted }

pub returns : goal.returns
returns c =
    let inv = c.loop-k.invariant in
    let all : c.loop-k.k ≡ c.args.count = omega arith in
    let same : c.new.result ≡ sample_history c.args.count =
    c.new.ensures.history ∙ rw (inv.edges, inv.host, c.stroke_start.ensures, all) refl in
    record { history = same; accepted = λ debounced. rw same (sample_accepted c.args.count c.requires.few debounced) }
