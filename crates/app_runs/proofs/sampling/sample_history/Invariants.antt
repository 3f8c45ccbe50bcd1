use Rattle.std.proofs.Common.{◌≡◌, map}
use Rattle.std.specs.List.{flat_map, range_with_len}
use Rattle.app_runs.specs.Sampling.{stroke_edges, stroke_take}
use Rattle.app_runs.proofs.sampling.sample_history.Given as goal

abbrev pub invariant-loop-k : goal.invariant-loop-k
invariant-loop-k l = record {
  edges : l.edges.items ≡ flat_map stroke_edges (range_with_len 0 l.k);
  host : l.host.items ≡ map stroke_take (range_with_len 0 l.k);
}
