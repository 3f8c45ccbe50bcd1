-- The lines of a certificate. Its fields are parted by single spaces.
use Rattle.std.specs.Prelude.{ℕ, ◌==◌, nat_le, if◌then◌else◌, List, [], ◌∷◌, length, codes, Option, Some, None}
use Rattle.std.specs.Option.{option_and_then}
use Rattle.std.specs.Str.{bytes_eq}
use Rattle.text_lines.specs.Fields.{pieces}
use Rattle.text_lines.specs.Numbers.{decimal_digit, decimal_of, number_after, hexadecimal_of}
use Rattle.cycle_cert.specs.declared.bound.Bound.{Bound}
use Rattle.cycle_cert.specs.declared.certificate.Entry.{Entry}

infixl 10 ◌>>=◌
abbrev pub ◌>>=◌ : {A B : Type 0} → Option A → (A → Option B) → Option B
found >>= next = option_and_then next found

-- a number that is at most so large
abbrev pub at_most : ℕ → Option ℕ → Option ℕ
at_most limit None = None
at_most limit (Some number) = if nat_le number limit then Some number else None

-- a place: three hexadecimal digits of either case, below 800
abbrev pub place_in : List ℕ → Option ℕ
place_in text = at_most 2047 (hexadecimal_of 3 text)

-- a number: decimal digits, one at least, with a value that is at most so large
abbrev pub number_in : ℕ → List ℕ → Option ℕ
number_in limit text = if length text == 0 then None else at_most limit (number_after 10 decimal_digit 0 text)

-- a register: a digit from 0 to 7
abbrev pub register_in : List ℕ → Option ℕ
register_in text = at_most 7 (decimal_of 1 text)

-- the target of the fields of a certificate's first line: the word and a place
abbrev pub target_from : List (List ℕ) → Option ℕ
target_from (word ∷ place ∷ []) = if bytes_eq word (codes "target") then place_in place else None
target_from others = None

abbrev pub target_in : List ℕ → Option ℕ
target_in line = target_from (pieces 32 line)

-- the bound of the fields after a place: a number of at most 1,000,000, and, if it has them, a factor of at most
-- 10,000 and a register
abbrev pub bound_from : List (List ℕ) → Option Bound
bound_from (fixed ∷ []) = do
  least ← number_in 1000000 fixed
  Some (record { fixed = least; factor = 0; register = 0 })
bound_from (fixed ∷ factor ∷ register ∷ []) = do
  least ← number_in 1000000 fixed
  times ← number_in 10000 factor
  counter ← register_in register
  Some (record { fixed = least; factor = times; register = counter })
bound_from others = None

-- the entry of the fields of a later line with this number: a place and a bound
abbrev pub entry_from : ℕ → List (List ℕ) → Option Entry
entry_from number [] = None
entry_from number (place ∷ others) = do
  at ← place_in place
  bound ← bound_from others
  Some (record { line = number; place = at; bound = bound })

abbrev pub entry_in : ℕ → List ℕ → Option Entry
entry_in number line = entry_from number (pieces 32 line)
