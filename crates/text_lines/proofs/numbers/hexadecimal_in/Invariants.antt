use Rattle.std.proofs.Common.{◌≡◌, ◌<◌, ◌^◌, drop}
use Rattle.hex_text.specs.Digits.{digit_value}
use Rattle.text_lines.specs.Numbers.{number_after}
use Rattle.text_lines.proofs.numbers.hexadecimal_in.Given as goal

abbrev pub invariant-loop-character : goal.invariant-loop-character
invariant-loop-character l =
    (number_after 16 digit_value 0 l.text ≡ number_after 16 digit_value l.number (drop l.character-index l.text))
    × (l.number < 16 ^ l.character-index)
