use Rattle.std.proofs.Common.{◌≤◌, ◌^◌, arith}
use Rattle.text_lines.proofs.Digits.{room}
use Rattle.capture_vcd.proofs.number.digits_in.Goals as goal

pub overflow_mul-number : goal.overflow_mul-number
overflow_mul-number c =
    let power : 10 ^ c.loop-character.character-index ≤ 10000000000000 =
    room 10 c.loop-character.character-index 13 (omega arith) (omega arith) in
    let below = c.loop-character.invariant.1 in
    omega arith

pub overflow_add-number : goal.overflow_add-number
overflow_add-number c =
    let power : 10 ^ c.loop-character.character-index ≤ 10000000000000 =
    room 10 c.loop-character.character-index 13 (omega arith) (omega arith) in
    let below = c.loop-character.invariant.1 in
    let digit = c.in_ok-decimal_digit.ensures.below in
    omega arith
