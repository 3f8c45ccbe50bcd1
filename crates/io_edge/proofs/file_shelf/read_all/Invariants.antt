use Rattle.std.proofs.Common.{◌≤◌, [], vec_len}
use Rattle.io_edge.specs.Reading.{NoneLost}
use Rattle.io_edge.proofs.file_shelf.read_all.Given as goal

abbrev pub invariant-loop-turn : goal.invariant-loop-turn
invariant-loop-turn g l = record {
  size : vec_len l.bytes ≤ l.max;
  read : NoneLost (g.F.Read.remaining l.initial.reader) [] (g.F.Read.remaining l.reader) l.bytes.items;
}
