use Rattle.std.proofs.Common.{◌≡◌, ◌*◌, ◌++◌, drop}
use Rattle.arrayvec.specs.ArrayVec.{array_vec_len}
use Rattle.board_terms.specs.Columns.{keys_in}
use Rattle.queue_bytes.proofs.keys.keys_in.Given as goal

abbrev pub invariant-loop-rows : goal.invariant-loop-rows
invariant-loop-rows l = record {
  count : array_vec_len l.keys ≡ 8 * l.rows-index;
  so_far : l.keys.items ++ keys_in (drop l.rows-index l.columns) ≡ keys_in l.columns;
}
