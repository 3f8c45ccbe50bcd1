-- The lines of a script. Their fields are parted by single spaces.
use Rattle.std.specs.Prelude.{ℕ, ◌<◌, nat_lt, if◌then◌else◌, List, [], ◌∷◌, codes, Option, Some, None}
use Rattle.std.specs.Option.{option_map, option_and_then}
use Rattle.std.specs.Str.{bytes_eq}
use Rattle.text_lines.specs.Fields.{pieces}
use Rattle.text_lines.specs.Numbers.{decimal_of, hexadecimal_of}
use Rattle.debugger.specs.declared.command.Command.{Command}
use Rattle.debugger.specs.declared.command.Command.TheVariants.{Step, Go, Show, Ram, Arm, Tell, Drop}
use Rattle.debugger.specs.declared.command.Word.{Word}
use Rattle.debugger.specs.declared.command.Word.TheVariants as word

infixl 10 ◌>>=◌
abbrev pub ◌>>=◌ : {A B : Type 0} → Option A → (A → Option B) → Option B
found >>= next = option_and_then next found

-- a number below so many
abbrev pub below : ℕ → Option ℕ → Option ℕ
below limit None = None
below limit (Some number) = if nat_lt number limit then Some number else None

-- a number: one to nine decimal digits, as the one field that is left
abbrev pub number_from : List (List ℕ) → Option ℕ
number_from (number ∷ []) = decimal_of 9 number
number_from others = None

-- a place of data memory: two hexadecimal digits of either case, below 80
abbrev pub cell_in : List ℕ → Option ℕ
cell_in text = below 128 (hexadecimal_of 2 text)

abbrev pub cell_from : List (List ℕ) → Option ℕ
cell_from (cell ∷ []) = cell_in cell
cell_from others = None

-- an arming: a probe's number, three hexadecimal digits and two
abbrev pub arm_from : List (List ℕ) → Option Command
arm_from (probe ∷ a ∷ b ∷ []) = do
  number ← decimal_of 9 probe
  first ← hexadecimal_of 3 a
  second ← hexadecimal_of 2 b
  Some (Arm number first second)
arm_from others = None

-- the words
abbrev pub word_named : List ℕ → Option Word
word_named name =
    if bytes_eq name (codes "step") then Some word.Step
    else (if bytes_eq name (codes "go") then Some word.Go
    else (if bytes_eq name (codes "show") then Some word.Show
    else (if bytes_eq name (codes "ram") then Some word.Ram
    else (if bytes_eq name (codes "arm") then Some word.Arm
    else (if bytes_eq name (codes "tell") then Some word.Tell
    else (if bytes_eq name (codes "drop") then Some word.Drop
    else None))))))

-- nothing is after `show`
abbrev pub show_from : List (List ℕ) → Option Command
show_from [] = Some Show
show_from others = None

-- what a word asks for with the fields after it
abbrev pub command_of : Word → List (List ℕ) → Option Command
command_of word.Step others = option_map Step (number_from others)
command_of word.Go others = option_map Go (number_from others)
command_of word.Show others = show_from others
command_of word.Ram others = option_map Ram (cell_from others)
command_of word.Arm others = arm_from others
command_of word.Tell others = option_map Tell (number_from others)
command_of word.Drop others = option_map Drop (number_from others)

-- what the fields of a line ask for; none if they haven't the form
abbrev pub command_from : List (List ℕ) → Option Command
command_from [] = None
command_from (name ∷ others) = option_and_then (λ word. command_of word others) (word_named name)

-- what a line asks for that isn't blank
abbrev pub command_in : List ℕ → Option Command
command_in line = command_from (pieces 32 line)

-- a place that a line names is in data memory
abbrev pub HasCell : Command → Type 0
HasCell (Ram cell) = cell < 128
HasCell command = Unit {0}
