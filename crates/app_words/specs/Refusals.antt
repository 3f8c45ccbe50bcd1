-- What each refusal prints, and the exit that it ends with.
use Rattle.std.specs.Prelude.{ℕ, List, ◌++◌, codes, decimal}
use Rattle.hex_text.specs.Digits.{hex_byte, hex_address}
use Rattle.app_words.specs.declared.exit.Exit.{Exit}
use Rattle.app_words.specs.declared.exit.Exit.TheVariants as exits
use Rattle.app_words.specs.Kinds.{name_of}
use Rattle.app_words.specs.declared.kind.Kind.{Kind}
use Rattle.app_words.specs.declared.kind.Kind.TheVariants as kinds
use Rattle.app_words.specs.declared.refusal.Refusal.{Refusal}
use Rattle.app_words.specs.declared.refusal.Refusal.TheVariants.{Words, Read, TooLong, Hex, Asm, Layout, Keys}
use Rattle.app_words.specs.declared.refusal.Refusal.TheVariants.{Cert, Script, Text, Vcd, Timing, Stuck, Memory}

abbrev pub exit_of : Refusal → Exit
exit_of Words = exits.Words
exit_of Read = exits.Read
exit_of (TooLong kind) = exits.Input
exit_of (Hex fault) = exits.Input
exit_of (Asm line number) = exits.Input
exit_of (Layout entry number) = exits.Input
exit_of (Keys line number) = exits.Input
exit_of (Cert line number) = exits.Input
exit_of (Script line number) = exits.Input
exit_of (Text at) = exits.Input
exit_of (Vcd line number) = exits.Input
exit_of (Timing line number first second) = exits.Timing
exit_of (Stuck stuck) = exits.Stuck
exit_of Memory = exits.Memory

-- the line of a file's first fault, with the word for where it is
abbrev pub fault_line : Kind → List ℕ → ℕ → ℕ → List ℕ
fault_line kind unit place number =
    codes "input: " ++ name_of kind ++ unit ++ decimal place ++ codes " fault " ++ decimal number ++ codes "\n"

-- the line of a key file's first fault of time, with two stamps
abbrev pub timing_line : ℕ → ℕ → ℕ → ℕ → List ℕ
timing_line line number first second =
    codes "timing: line " ++ decimal line ++ codes " fault " ++ decimal number
    ++ codes " stamps " ++ decimal first ++ codes " " ++ decimal second ++ codes "\n"

abbrev pub line_of : Refusal → List ℕ
line_of Words = codes "words: not a command of kbd48\n"
line_of Read = codes "read: the shelf failed\n"
line_of (TooLong kind) = codes "input: " ++ name_of kind ++ codes " too long\n"
line_of (Hex fault) = fault_line kinds.Hex (codes " line ") fault.line fault.number
line_of (Asm line number) = fault_line kinds.Asm (codes " line ") line number
line_of (Layout entry number) = fault_line kinds.Layout (codes " entry ") entry number
line_of (Keys line number) = fault_line kinds.Keys (codes " line ") line number
line_of (Cert line number) = fault_line kinds.Cert (codes " line ") line number
line_of (Script line number) = fault_line kinds.Script (codes " line ") line number
line_of (Text at) = fault_line kinds.Text (codes " byte ") at 1
line_of (Vcd line number) = fault_line kinds.Vcd (codes " line ") line number
line_of (Timing line number first second) = timing_line line number first second
line_of (Stuck stuck) =
    codes "stuck: pc " ++ hex_address stuck.pc ++ codes " byte " ++ hex_byte stuck.byte ++ codes "\n"
line_of Memory = codes "memory: none left\n"
