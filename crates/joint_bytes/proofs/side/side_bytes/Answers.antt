use Rattle.std.proofs.Common.{rules, ◌∷◌, [], slice_index_or}
use Rattle.joint_bytes.proofs.SideRead.{side_as}
use Rattle.joint_bytes.proofs.side.side_bytes.Goals as goal

pub returns-clause-read : goal.returns-clause-read
returns-clause-read c =
    side_as
    (slice_index_or c.to_le_bytes.result 0 0 ∷ slice_index_or c.to_le_bytes.result 1 0 ∷ slice_index_or c.to_le_bytes.result 2 0
    ∷ slice_index_or c.to_le_bytes.result 3 0 ∷ slice_index_or c.to_le_bytes.result 4 0
    ∷ slice_index_or c.to_le_bytes.result 5 0 ∷ slice_index_or c.to_le_bytes.result 6 0
    ∷ slice_index_or c.to_le_bytes.result 7 0 ∷ c.from.result ∷ c.from-2.result ∷ c.byte_or_0.result ∷ c.from-3.result
    ∷ c.args.outside.now.shown ∷ c.from-4.result ∷ c.flags-flags.result.b17 ∷ c.flags-flags.result.b18
    ∷ c.from-5.result ∷ c.from-6.result ∷ c.flags-flags.result.number ∷ [])
    c.args.outside.now (search rules) (search rules)
