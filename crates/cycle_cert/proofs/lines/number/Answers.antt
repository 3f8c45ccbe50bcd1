-- A number past the limit stays past it, whatever digits follow.
use Rattle.std.proofs.Common.{◌+◌, ◌*◌, ◌<◌, drop, sym, ◌∙◌, arith}
use Rattle.text_lines.specs.Numbers.{decimal_digit}
use Rattle.text_lines.proofs.Digits.{number_after-next}
use Rattle.cycle_cert.proofs.Fields.{number_past}
use Rattle.cycle_cert.proofs.lines.number.Goals as goal

pub returns-then-number-limit : goal.returns-then-number-limit
returns-then-number-limit c =
    let digit = c.in_ok-decimal_digit.field-0 in
    let so_far = c.loop-character.invariant.0 in
    let is = sym c.in_ok-decimal_digit.ensures.value in
    let next = number_after-next 10 decimal_digit c.loop-character.number c.loop-character.character-index digit
    c.args.text.now c.loop-character-test.true is in
    let past : c.args.limit < 10 * c.loop-character.number + digit = omega (arith, c.if-number-limit.true, c.from.ensures) in
    sym (number_past c.args.limit (10 * c.loop-character.number + digit) c.args.text.now
    (drop (c.loop-character.character-index + 1) c.args.text.now) (so_far ∙ next) past)
