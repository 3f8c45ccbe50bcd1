-- Identifier codes: the short names by which a dump's changes name its signals.
use Rattle.std.specs.Prelude.{ℕ, ◌-◌, ◌&&◌, nat_lt, nat_le, List, length, Option, Some, None, if◌then◌else◌}
use Rattle.text_lines.specs.Numbers.{number_after}

-- a printable character from ! to ~ is a digit from 1 to 94
abbrev pub code_digit : ℕ → Option ℕ
code_digit character = if nat_le 33 character && nat_le character 126 then Some (character - 32) else None

-- a code of one to nine such characters, as the number that these are in base 95: as no digit is 0, two codes are the
-- same number only if they are the same text
abbrev pub code_of : List ℕ → Option ℕ
code_of text =
    if nat_lt 0 (length text) && nat_le (length text) 9 then number_after 95 code_digit 0 text else None
