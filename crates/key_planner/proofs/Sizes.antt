-- How long a plan is.
use Rattle.std.proofs.Common.{◌≤◌, ℕ, suc, ◌+◌, ◌*◌, List, [], ◌∷◌, ◌++◌, length, codes, arith, length-append}
use Rattle.layout_reader.specs.Layouts.{KeyLayout}
use Rattle.law_typed_log.specs.Typing.{Stroke, Plain, Shifted, stroke_start}
use Rattle.key_lines.proofs.Sizes.{key-size, word-size}
use Rattle.key_lines.specs.Lines.{press_line, release_line, take_line}
use Rattle.key_planner.specs.Plan.{stroke_key_lines, stroke_lines, lines_from, plan_of}
use Rattle.key_planner.proofs.Back.{AreOwn, AllOwn}

stroke-size : (layout : KeyLayout) (start : ℕ) (stroke : Stroke)
    → start ≤ 240000000 → AreOwn layout stroke → length (stroke_lines start stroke) ≤ 128
stroke-size layout start (Plain key) h own =
    let press = key-size start (codes "press") key (omega arith) own.key in
    let release = key-size (start + 10240) (codes "release") key (omega arith) own.key in
    let take = word-size (start + 14336) (codes "take") (omega arith) in
    let keys_sum = length-append (press_line start key) (release_line (start + 10240) key) in
    let sum = length-append (press_line start key ++ release_line (start + 10240) key) (take_line (start + 14336)) in
    omega (arith, press, release, take, keys_sum, sum)
stroke-size layout start (Shifted shift key) h own =
    let a = key-size start (codes "press") shift (omega arith) own.0.key in
    let b = key-size (start + 2048) (codes "press") key (omega arith) own.1.key in
    let c = key-size (start + 8192) (codes "release") key (omega arith) own.1.key in
    let d = key-size (start + 10240) (codes "release") shift (omega arith) own.0.key in
    let take = word-size (start + 14336) (codes "take") (omega arith) in
    let two = length-append (press_line start shift) (press_line (start + 2048) key) in
    let three = length-append (press_line start shift ++ press_line (start + 2048) key) (release_line (start + 8192) key) in
    let four = length-append (press_line start shift ++ press_line (start + 2048) key ++ release_line (start + 8192) key)
    (release_line (start + 10240) shift) in
    let sum = length-append (stroke_key_lines start (Shifted shift key)) (take_line (start + 14336)) in
    omega (arith, a, b, c, d, take, two, three, four, sum)

lines-size : (layout : KeyLayout) (number : ℕ) (strokes : List Stroke)
    → AllOwn layout strokes → number + length strokes ≤ 10000 → length (lines_from number strokes) ≤ 14 + 128 * length strokes
lines-size layout number [] own few = word-size (stroke_start number) (codes "end") (omega arith)
lines-size layout number (stroke ∷ strokes) own few =
    let here = stroke-size layout (stroke_start number) stroke (omega arith) own.0 in
    let more = lines-size layout (suc number) strokes own.1 (omega arith) in
    let sum = length-append (stroke_lines (stroke_start number) stroke) (lines_from (suc number) strokes) in
    omega (arith, here, more, sum)

-- it fits a key file
pub plan-size : (layout : KeyLayout) (strokes : List Stroke)
    → AllOwn layout strokes → length strokes ≤ 10000 → length (plan_of strokes) ≤ 4194304
unfolding plan_of
plan-size layout strokes own few = omega (arith, lines-size layout 0 strokes own (omega arith))
