use Rattle.std.proofs.Common.{◌≡◌, ◌<◌, ◌^◌, drop}
use Rattle.text_lines.specs.Numbers.{decimal_digit, number_after}
use Rattle.capture_vcd.proofs.number.digits_in.Given as goal

abbrev pub invariant-loop-character : goal.invariant-loop-character
invariant-loop-character l =
    (number_after 10 decimal_digit 0 l.text ≡ number_after 10 decimal_digit l.number (drop l.character-index l.text))
    × (l.number < 10 ^ l.character-index)
