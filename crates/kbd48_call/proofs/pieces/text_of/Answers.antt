use Rattle.std.proofs.Common.{rules}
use Rattle.std.specs.Str.{IsUtf8}
use Rattle.kbd48_call.proofs.Judging.{bad_text, good_text}
use Rattle.kbd48_call.proofs.pieces.text_of.Goals as goal

pub returns-in_err-text-clause-bad : goal.returns-in_err-text-clause-bad
returns-in_err-text-clause-bad c =
    let other : ¬ (IsUtf8 c.in_ok-bytes.bytes.now) = search rules in
    let bad = bad_text c.args.bytes.now c.args.piece c.in_ok-bytes.bytes.now c.in_ok-bytes.ensures.piece
    c.in_ok-bytes.ensures.within other in
    search (rules, bad)

pub returns-clause-good : goal.returns-clause-good
returns-clause-good c =
    let utf8 : IsUtf8 c.in_ok-bytes.bytes.now = search rules in
    let good = good_text c.args.bytes.now c.args.piece c.in_ok-bytes.bytes.now c.in_ok-bytes.ensures.piece
    c.in_ok-bytes.ensures.within utf8 in
    search (rules, good)
