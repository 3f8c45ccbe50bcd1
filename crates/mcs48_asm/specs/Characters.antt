-- The characters of a line, its letters in upper case.
use Rattle.std.specs.Prelude.{ℕ, ◌+◌, Bool, ◌==◌, ◌&&◌, ◌||◌, nat_le}

-- a letter, A to Z
abbrev pub is_letter : ℕ → Bool
is_letter c = nat_le 65 c && nat_le c 90

-- a decimal digit, 0 to 9
abbrev pub is_digit : ℕ → Bool
is_digit c = nat_le 48 c && nat_le c 57

-- the digit of a number below 10
abbrev pub digit : ℕ → ℕ
digit n = 48 + n

-- R, of registers
abbrev pub letter_r : ℕ
letter_r = 82

-- P, of ports
abbrev pub letter_p : ℕ
letter_p = 80

-- what a name begins with: a letter or _
abbrev pub is_initial : ℕ → Bool
is_initial c = is_letter c || c == 95

-- what words are made of: letters, digits and _
abbrev pub is_word_character : ℕ → Bool
is_word_character c = is_initial c || is_digit c

-- a space or a tab
abbrev pub is_blank : ℕ → Bool
is_blank c = c == 32 || c == 9

-- the comma between operands
abbrev pub is_comma : ℕ → Bool
is_comma c = c == 44

-- the colon after a label
abbrev pub is_colon : ℕ → Bool
is_colon c = c == 58

-- the semicolon before a comment
abbrev pub is_semicolon : ℕ → Bool
is_semicolon c = c == 59

-- #, which marks a value
abbrev pub value_mark : ℕ
value_mark = 35

-- @, which marks a register that points
abbrev pub pointer_mark : ℕ
pointer_mark = 64

-- # or @, which mark an operand
abbrev pub is_mark : ℕ → Bool
is_mark c = c == value_mark || c == pointer_mark

-- what may be before a comment
abbrev pub is_allowed : ℕ → Bool
is_allowed c = is_word_character c || is_blank c || is_mark c || is_comma c || is_colon c
