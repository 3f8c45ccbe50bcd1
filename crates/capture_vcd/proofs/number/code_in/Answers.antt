use Rattle.std.proofs.Common.{◌≤◌, ◌^◌, arith}
use Rattle.text_lines.proofs.Digits.{room}
use Rattle.capture_vcd.proofs.number.code_in.Goals as goal

pub overflow_mul-number : goal.overflow_mul-number
overflow_mul-number c =
    let power : 95 ^ c.loop-character.character-index ≤ 6634204312890625 =
    room 95 c.loop-character.character-index 8 (omega arith) (omega arith) in
    let below = c.loop-character.invariant.1 in
    omega arith

pub overflow_add-number : goal.overflow_add-number
overflow_add-number c =
    let power : 95 ^ c.loop-character.character-index ≤ 6634204312890625 =
    room 95 c.loop-character.character-index 8 (omega arith) (omega arith) in
    let below = c.loop-character.invariant.1 in
    let digit = c.in_ok-code_digit.ensures.below in
    omega arith
