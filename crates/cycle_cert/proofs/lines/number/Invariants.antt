use Rattle.std.proofs.Common.{◌≡◌, ◌≤◌, drop}
use Rattle.text_lines.specs.Numbers.{decimal_digit, number_after}
use Rattle.cycle_cert.proofs.lines.number.Given as goal

-- the digits after those read follow their number, which is small enough
abbrev pub invariant-loop-character : goal.invariant-loop-character
invariant-loop-character l =
    (number_after 10 decimal_digit 0 l.text ≡ number_after 10 decimal_digit l.number (drop l.character-index l.text)) × (l.number ≤ l.limit)
