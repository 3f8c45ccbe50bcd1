use Rattle.std.proofs.Common.{◌≡◌, ◌<◌, ◌^◌, drop}
use Rattle.text_lines.specs.Numbers.{number_after}
use Rattle.capture_vcd.specs.Codes.{code_digit}
use Rattle.capture_vcd.proofs.number.code_in.Given as goal

abbrev pub invariant-loop-character : goal.invariant-loop-character
invariant-loop-character l =
    (number_after 95 code_digit 0 l.text ≡ number_after 95 code_digit l.number (drop l.character-index l.text))
    × (l.number < 95 ^ l.character-index)
