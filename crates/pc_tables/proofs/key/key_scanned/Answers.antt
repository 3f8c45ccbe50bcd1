use Rattle.std.proofs.Common.{◌≡◌, ◌==◌, ◌<◌, length, true, [], ap, ◌∙◌, sym, arith}
use Rattle.std.proofs.lemmas.Bool.Decides.{nat_tests}
use Rattle.pc_tables.specs.Keys.{Row, row, keys, scan_at}
use Rattle.pc_tables.proofs.First.{position-found, position-none}
use Rattle.pc_tables.proofs.KeyLaws.{key_count}
use Rattle.pc_tables.proofs.key.key_scanned.Goals as goal

pub returns-then-key_row-scan : goal.returns-then-key_row-scan
returns-then-key_row-scan c =
    let scan = c.args.scan in
    let n = c.loop-number.number in
    let within : n < length keys = omega (arith, key_count) in
    let e : c.key_row-in-loop-number.inside.scan
    ≡ scan_at n = ap (λ (r : Row). r.scan) (c.key_row-in-loop-number.view_is ∙ c.key_row.ensures) in
    let here : (scan_at n == scan) ≡ true = grind (arith, nat_tests) in
    sym (position-found (λ (key : Row). key.scan == scan) keys n (row [] 0 0) within c.loop-number.invariant here)

pub returns : goal.returns
returns c =
    let scan = c.args.scan in
    sym (position-none (λ (key : Row). key.scan == scan) keys (row [] 0 0) (λ k l. c.loop-number.invariant k (omega (arith, key_count))))
