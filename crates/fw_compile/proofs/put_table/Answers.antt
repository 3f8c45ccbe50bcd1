use Rattle.std.proofs.Common.{◌≡◌, ◌++◌, ◌≤◌, ◌+◌, ◌-◌, length, take, arith, ap, ◌∙◌}
use Rattle.std.proofs.lemmas.Slice.{take-put_mid, drop-put_mid}
use Rattle.fw_compile.proofs.Tables.{put_is}
use Rattle.fw_compile.proofs.put_table.Goals as goal

-- what was written is the table, and ends where it does
pub returns : goal.returns
returns c =
    let bytes = c.args.bytes.now in
    let table = c.args.table.now in
    let at = c.args.at in
    let put = c.copy_from_slice.new.self in
    let same : put ≡ table = c.copy_from_slice.ensures.after in
    let size : length put ≡ at + length table - at = ap length same ∙ omega arith in
    let end : at + length table ≡ at + length put = omega (arith, size) in
    let within : at ≤ length bytes = omega (arith, c.requires, c.told-bytes) in
    put_is _ bytes table at
    (take-put_mid at (at + length table - at) bytes put (at + length table) end within ∙ ap (λ v. take at bytes ++ v) same)
    (drop-put_mid at (at + length table - at) bytes put (at + length table) (omega arith) within size)
