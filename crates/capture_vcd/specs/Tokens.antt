-- The tokens of a text: the fields of its lines, in their order, each with its line's number, and then the end.
use Rattle.std.specs.Prelude.{◌≡◌, ℕ, ◌+◌, ◌<◌, List, [], ◌∷◌, ◌++◌, length, Some, None}
use Rattle.std.specs.declared.option.Option.{Option}
use Rattle.std.specs.Str.Lines.{lines}
use Rattle.text_lines.specs.Fields.{fields}
use Rattle.capture_vcd.specs.declared.token.Tokens.{Tokens}
use Rattle.capture_vcd.specs.declared.token.Next.{Next}
use Rattle.capture_vcd.specs.declared.token.Next.TheVariants.{Field, End}

-- a field with the number of its line, counted from 1; or the end, on the line after the last
pub record Token : Type 0 where
  pub line : ℕ
  pub text : Option (List ℕ)

abbrev pub field : ℕ → List ℕ → Token
field line text = record { line = line; text = Some text }

abbrev pub end : ℕ → Token
end line = record { line = line; text = None }

-- the fields of a line with this number
abbrev pub tokens_in : ℕ → List (List ℕ) → List Token
tokens_in line [] = []
tokens_in line (text ∷ more) = field line text ∷ tokens_in line more

-- the tokens of lines, the first of which has this number
abbrev pub tokens_from : ℕ → List (List ℕ) → List Token
tokens_from line [] = end line ∷ []
tokens_from line (text ∷ more) = tokens_in line (fields text) ++ tokens_from (line + 1) more

abbrev pub tokens_of : List ℕ → List Token
tokens_of text = tokens_from 1 (lines text)

-- what is left of a line with this number, and the lines after it
abbrev pub left_at : ℕ → List ℕ → List ℕ → List Token
left_at line part rest = tokens_in line (fields part) ++ tokens_from (line + 1) (lines rest)

abbrev pub left : Tokens → List Token
left tokens = left_at tokens.line tokens.fields.now tokens.rest.now

-- the lines that are left have numbers below 2^32
abbrev pub Fits : Tokens → Type 0
Fits tokens = tokens.line + length tokens.rest.now < 4294967295

-- what comes next is the first of the tokens that are left
abbrev pub IsNext : Tokens → Next → Type 0
IsNext tokens (Field text after) = left tokens ≡ field after.line text.now ∷ left after
IsNext tokens (End line) = left tokens ≡ end line ∷ []

-- and the lines that are left after it have such numbers too
abbrev pub IsWithin : Next → Type 0
IsWithin (Field text after) = Fits after
IsWithin (End line) = line < 4294967296
