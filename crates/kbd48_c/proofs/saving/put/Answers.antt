use Rattle.std.proofs.Common.{ℕ, List, ◌++◌, ap, drop, length}
use Rattle.kbd48_c.proofs.saving.put.Goals as goal

pub returns : goal.returns
returns c = ap (λ (s : List ℕ). s ++ drop (length c.args.bytes.now) c.args.buffer.now) c.copy_from_slice.ensures.after
