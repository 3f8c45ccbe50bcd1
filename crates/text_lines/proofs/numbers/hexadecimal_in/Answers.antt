use Rattle.std.proofs.Common.{◌≤◌, ◌^◌, arith}
use Rattle.text_lines.proofs.Digits.{room}
use Rattle.text_lines.proofs.numbers.hexadecimal_in.Goals as goal

pub overflow_mul-number : goal.overflow_mul-number
overflow_mul-number c =
    let power : 16 ^ c.loop-character.character-index ≤ 268435456 =
    room 16 c.loop-character.character-index 7 (omega arith) (omega arith) in
    let below = c.loop-character.invariant.1 in
    omega arith

pub overflow_add-number : goal.overflow_add-number
overflow_add-number c =
    let power : 16 ^ c.loop-character.character-index ≤ 268435456 =
    room 16 c.loop-character.character-index 7 (omega arith) (omega arith) in
    let below = c.loop-character.invariant.1 in
    let digit = c.in_ok-digit_value.ensures.below in
    omega arith
