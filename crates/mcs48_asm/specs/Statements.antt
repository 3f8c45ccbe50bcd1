-- What a line says.
use Rattle.std.specs.Prelude.{ℕ, ◌+◌, ◌%◌, Bool, List, [], ◌∷◌, ◌&&◌, ◌||◌, is_some, Some, None, Ok, Err}
use Rattle.std.specs.Prelude.{if◌then◌else◌, codes}
use Rattle.std.specs.List.{list_all, slice_split, before_first}
use Rattle.std.specs.Option.{option_map, option_and_then, option_or, ok_or}
use Rattle.std.specs.Str.{bytes_eq}
use Rattle.std.specs.declared.option.Option.{Option}
use Rattle.std.specs.declared.result.Result.{Result}
use Rattle.mcs48_asm.specs.declared.flaw.Flaw.{Flaw}
use Rattle.mcs48_asm.specs.declared.flaw.Flaw.TheVariants.{Syntax, NoStatement, Misfit}
use Rattle.mcs48_asm.specs.Characters.{is_colon, is_semicolon, is_allowed}
use Rattle.mcs48_asm.specs.Tokens.{words_of, first_of, second_of, tokens_of, parts_of, alone, is_name, name_of}
use Rattle.mcs48_asm.specs.Values.{Value, value_of, number_of}
use Rattle.mcs48_asm.specs.Rows.{Argument, Reading, Form, instructions, is_instruction, read_all}

-- a statement: nothing; an instruction with its first byte and the value that it takes; ORG with its place; DB with its
-- values; EQU with its name and number
pub data Statement : Type 0 where
  Nothing : Statement
  Instruction : ℕ → Option Argument → Statement
  Origin : ℕ → Statement
  Data : List Value → Statement
  Equate : List ℕ → ℕ → Statement

-- the values that parts write, if each of them writes one
abbrev pub values_of : List (List (List ℕ)) → Option (List Value)
values_of [] = Some []
values_of (tokens ∷ parts) =
    option_and_then (λ value. option_map (λ values. value ∷ values) (values_of parts)) (value_of tokens)

-- name EQU number
abbrev pub equate_of : List (List ℕ) → Option Statement
equate_of (name ∷ equ ∷ number ∷ []) =
    if is_name name && bytes_eq equ (codes "EQU") then option_map (Equate name) (number_of number) else None
equate_of _ = None

-- ORG number
abbrev pub origin_of : List (List ℕ) → Option Statement
origin_of (org ∷ number ∷ []) =
    if bytes_eq org (codes "ORG") then option_map Origin (number_of number) else None
origin_of _ = None

-- DB value, value, ..
abbrev pub data_of : List (List ℕ) → Option Statement
data_of [] = None
data_of (db ∷ tokens) =
    if bytes_eq db (codes "DB") then option_map Data (values_of (parts_of tokens)) else None

-- the instruction with this first byte whose operands say this; the number of a register or a port is added to it
abbrev pub instruction_with : ℕ → Reading → Statement
instruction_with first said = Instruction ((first + said.offset) % 256) said.argument

-- the instruction of this form whose word and operands tokens are
abbrev pub instruction_in : Form → List (List ℕ) → Option Statement
instruction_in form [] = None
instruction_in form (word ∷ tokens) =
    if bytes_eq form.word word
    then option_map (instruction_with form.first) (read_all form.operands tokens)
    else None

-- the instruction of the first form that fits
abbrev pub first_fit : List Form → List (List ℕ) → Option Statement
first_fit [] tokens = None
first_fit (form ∷ forms) tokens = option_or (instruction_in form tokens) (first_fit forms tokens)

-- the statement of these words and tokens, or its flaw: a second word EQU makes an EQU line, and else the first word
-- says what the statement is
abbrev pub statement_in : List (List ℕ) → List (List ℕ) → Result Statement Flaw
statement_in words [] = Ok Nothing
statement_in words tokens =
    if bytes_eq (second_of words) (codes "EQU") then ok_or (equate_of tokens) Misfit
    else (if bytes_eq (first_of words) (codes "ORG") then ok_or (origin_of tokens) Misfit
    else (if bytes_eq (first_of words) (codes "DB") then ok_or (data_of tokens) Misfit
    else (if is_instruction (first_of words) then ok_or (first_fit instructions tokens) Misfit
    else Err NoStatement)))

-- the statement that a text writes, or its flaw
abbrev pub statement_of : List ℕ → Result Statement Flaw
statement_of text = statement_in (words_of text) (tokens_of text)

-- a line: its flaw of form, if it has one, and then it says nothing; its label, and its statement
pub record Line : Type 0 where
  pub flaw : Option Flaw
  pub label : Option (List ℕ)
  pub statement : Statement

abbrev pub flawed : Flaw → Line
flawed flaw = record { flaw = Some flaw; label = None; statement = Nothing }

abbrev pub line_with : Option (List ℕ) → Result Statement Flaw → Line
line_with label (Ok statement) = record { flaw = None; label = label; statement = statement }
line_with label (Err flaw) = flawed flaw

-- a line with the label before its colon: one name, and nothing else
abbrev pub labelled_line : Option (List ℕ) → Result Statement Flaw → Line
labelled_line None statement = flawed Syntax
labelled_line (Some label) statement = line_with (Some label) statement

-- the line that the parts between colons write: a statement, or a label and a statement
abbrev pub line_of_parts : List (List ℕ) → Line
line_of_parts (text ∷ []) = line_with None (statement_of text)
line_of_parts (front ∷ text ∷ []) = labelled_line (alone name_of (tokens_of front)) (statement_of text)
line_of_parts _ = flawed Syntax

-- a word that is a name or a number
abbrev pub is_known_word : List ℕ → Bool
is_known_word word = is_name word || is_some (number_of word)

-- each character may be there, and each word is a name or a number
abbrev pub is_spelled : List ℕ → Bool
is_spelled text = list_all is_allowed text && list_all is_known_word (words_of text)

-- what a line says: what is before the comment
abbrev pub line_of : List ℕ → Line
line_of line =
    let text = before_first is_semicolon line in
    if is_spelled text then line_of_parts (slice_split is_colon text) else flawed Syntax
