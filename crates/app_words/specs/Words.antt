-- The accepted forms of the words that follow the program's name.
use Rattle.std.specs.Prelude.{ℕ, ◌+◌, ◌*◌, Bool, not, true, ◌&&◌, ◌||◌, nat_eq, nat_lt, nat_le, false, List, []}
use Rattle.std.specs.Prelude.{◌∷◌, length, None, Some, codes, is_some, if◌then◌else◌}
use Rattle.std.specs.Char.{is_ascii_digit}
use Rattle.std.specs.List.{list_all}
use Rattle.std.specs.Option.{option_map, option_and_then}
use Rattle.std.specs.Str.{bytes_eq}
use Rattle.std.specs.Str.Parse.{digits_value}
use Rattle.std.specs.declared.option.Option.{Option}
use Rattle.hex_text.specs.Digits.{digit_value}
use Rattle.app_words.specs.declared.words.BoardCommand.{BoardCommand}
use Rattle.app_words.specs.declared.words.BoardCommand.TheVariants as board
use Rattle.app_words.specs.declared.words.BoardRun.{BoardRun}
use Rattle.app_words.specs.declared.words.Command.{Command}
use Rattle.app_words.specs.declared.words.Command.TheVariants.{OverFile, OverPair, Debug, Probe, Board, Feed, Sample, Capture, Typed}
use Rattle.app_words.specs.declared.words.FileCommand.{FileCommand}
use Rattle.app_words.specs.declared.words.FileCommand.TheVariants.{Step, Listing, Assemble, Compile}
use Rattle.app_words.specs.declared.words.PairCommand.{PairCommand}
use Rattle.app_words.specs.declared.words.PairCommand.TheVariants.{Certify, Spell, OverRun}
use Rattle.app_words.specs.declared.words.RunCommand.{RunCommand}
use Rattle.app_words.specs.declared.words.RunCommand.TheVariants.{Log, Expect, Trace}

-- a NAME isn't empty and doesn't begin with `-`
abbrev pub is_name : List ℕ → Bool
is_name [] = false
is_name (first ∷ others) = not (nat_eq first 45)

-- one to seven decimal digits
abbrev pub is_short_number : List ℕ → Bool
is_short_number word = nat_lt 0 (length word) && nat_le (length word) 7 && list_all is_ascii_digit word

-- a COUNT is such a number of at most 1,000,000
abbrev pub count_of : List ℕ → Option ℕ
count_of word =
    let count = digits_value 10 word in
    if is_short_number word && nat_le count 1000000 then Some count else None

-- a BYTE is two hexadecimal digits of either case
abbrev pub byte_of : List ℕ → Option ℕ
byte_of (first ∷ second ∷ []) =
    option_and_then (λ high. option_map (λ low. 16 * high + low) (digit_value second)) (digit_value first)
byte_of word = None

-- `step` NAME COUNT
abbrev pub step_of : List (List ℕ) → Option Command
step_of (name ∷ count ∷ []) =
    if is_name name then option_map (λ steps. OverFile (Step steps)) (count_of count) else None
step_of words = None

-- a command with a NAME alone: `list` NAME, `asm` NAME, `compile` NAME
abbrev pub named_of : FileCommand → List (List ℕ) → Option Command
named_of command (name ∷ []) = if is_name name then Some (OverFile command) else None
named_of command words = None

-- a command with two NAMEs alone: `cert` NAME NAME, `type` NAME NAME, `expect` NAME NAME
abbrev pub pair_of : PairCommand → List (List ℕ) → Option Command
pair_of command (first ∷ second ∷ []) = if is_name first && is_name second then Some (OverPair command) else None
pair_of command words = None

-- `debug` NAME NAME NAME
abbrev pub debug_of : List (List ℕ) → Option Command
debug_of (layout ∷ keys ∷ script ∷ []) =
    if is_name layout && is_name keys && is_name script then Some Debug else None
debug_of words = None

-- `--fill` BYTE: what data memory, A and T hold at power-on
abbrev pub fill_by : List ℕ → List ℕ → Option ℕ
fill_by option byte = if bytes_eq option (codes "--fill") then byte_of byte else None

-- the option of `probe`: 00 if it isn't there
unfoldable pub fill_of : List (List ℕ) → Option ℕ
fill_of [] = Some 0
fill_of (option ∷ byte ∷ []) = fill_by option byte
fill_of words = None

-- `probe` NAME NAME NAME NAME, and its option
abbrev pub probe_of : List (List ℕ) → Option Command
probe_of (image ∷ layout ∷ keys ∷ script ∷ options) =
    if is_name image && is_name layout && is_name keys && is_name script
    then option_map Probe (fill_of options) else None
probe_of words = None

-- both options of `run`, in either order
abbrev pub are_both : List ℕ → List ℕ → Bool
are_both first second =
    bytes_eq first (codes "--ticks") && bytes_eq second (codes "--steps")
    || bytes_eq first (codes "--steps") && bytes_eq second (codes "--ticks")

-- the options of `run`: `--ticks` and `--steps` in either order, each at most once
abbrev pub log_of : List (List ℕ) → Option RunCommand
log_of [] = Some (Log false false)
log_of (option ∷ []) =
    if bytes_eq option (codes "--ticks") then Some (Log true false)
    else (if bytes_eq option (codes "--steps") then Some (Log false true) else None)
log_of (first ∷ second ∷ []) = if are_both first second then Some (Log true true) else None
log_of words = None

-- `run` NAME NAME, and its options
abbrev pub run_of : List (List ℕ) → Option Command
run_of (first ∷ second ∷ options) =
    if is_name first && is_name second
    then option_map (λ command. OverPair (OverRun command)) (log_of options) else None
run_of words = None

-- the option of `trace`: `--seen`, if it is there
abbrev pub trace_option_of : List (List ℕ) → Option RunCommand
trace_option_of [] = Some (Trace false)
trace_option_of (option ∷ []) = if bytes_eq option (codes "--seen") then Some (Trace true) else None
trace_option_of words = None

-- `trace` NAME NAME, and its option
abbrev pub trace_of : List (List ℕ) → Option Command
trace_of (first ∷ second ∷ options) =
    if is_name first && is_name second
    then option_map (λ command. OverPair (OverRun command)) (trace_option_of options) else None
trace_of words = None

-- a run on the board, by what is reported of it and by what a part holds at power-on
abbrev pub on_board : BoardCommand → ℕ → BoardRun
on_board prints_what fill = record { prints_what = prints_what; fill = fill }

-- what is reported of a run on the board, by `--steps`, `--trace` or `--seen`
abbrev pub board_option : List ℕ → Option BoardCommand
board_option option =
    if bytes_eq option (codes "--steps") then Some (board.Log true)
    else (if bytes_eq option (codes "--trace") then Some (board.Trace false)
    else (if bytes_eq option (codes "--seen") then Some (board.Trace true) else None))

-- by one of them and `--fill` BYTE
abbrev pub both_by : Option BoardCommand → Option ℕ → Option BoardRun
both_by prints_what fill = option_and_then (λ command. option_map (on_board command) fill) prints_what

-- the options of `board`: `--steps`, `--trace` or `--seen`, one of them at most, and `--fill` BYTE, in either order
unfoldable pub board_options_of : List (List ℕ) → Option BoardRun
board_options_of [] = both_by (Some (board.Log false)) (Some 0)
board_options_of (option ∷ []) = both_by (board_option option) (Some 0)
board_options_of (option ∷ byte ∷ []) = both_by (Some (board.Log false)) (fill_by option byte)
board_options_of (first ∷ second ∷ third ∷ []) =
    if bytes_eq first (codes "--fill") then both_by (board_option third) (byte_of second)
    else both_by (board_option first) (fill_by second third)
board_options_of words = None

-- `board` NAME NAME NAME, and its options
abbrev pub board_of : List (List ℕ) → Option Command
board_of (image ∷ layout ∷ keys ∷ options) =
    if is_name image && is_name layout && is_name keys then option_map Board (board_options_of options) else None
board_of words = None

-- the bytes that words give, if each is a BYTE
abbrev pub bytes_of : List (List ℕ) → Option (List ℕ)
bytes_of [] = Some []
bytes_of (word ∷ words) = option_and_then (λ byte. option_map (λ bytes. byte ∷ bytes) (bytes_of words)) (byte_of word)

-- `words` BYTE ..: 1 to 4,096 of them
abbrev pub feed_of : List (List ℕ) → Option Command
feed_of words =
    if nat_lt 0 (length words) && nat_le (length words) 4096 then option_map Feed (bytes_of words) else None

-- a COUNT of 1 to 10,000 strokes, on a layout with a debounce or without
abbrev pub strokes_of : Bool → List ℕ → Option Command
strokes_of debounced count =
    option_and_then (λ strokes. if nat_lt 0 strokes && nat_le strokes 10000 then Some (Sample strokes debounced) else None)
    (count_of count)

-- `sample` COUNT, or `sample --debounced` COUNT
abbrev pub sample_of : List (List ℕ) → Option Command
sample_of (count ∷ []) = strokes_of false count
sample_of (option ∷ count ∷ []) = if bytes_eq option (codes "--debounced") then strokes_of true count else None
sample_of words = None

-- `capture` NAME, or `capture` NAME CLOCK DATA
abbrev pub signals_of : List (List ℕ) → Option Command
signals_of (name ∷ []) = if is_name name then Some Capture else None
signals_of (name ∷ clk ∷ dat ∷ []) = if is_name name && is_name clk && is_name dat then Some Capture else None
signals_of words = None

-- `capture` `--keys` NAME NAME, or `capture` `--keys` NAME NAME CLOCK DATA
abbrev pub typed_of : List (List ℕ) → Option Command
typed_of (layout ∷ name ∷ []) = if is_name layout && is_name name then Some Typed else None
typed_of (layout ∷ name ∷ clk ∷ dat ∷ []) =
    if is_name layout && is_name name && is_name clk && is_name dat then Some Typed else None
typed_of words = None

abbrev pub capture_of : List (List ℕ) → Option Command
capture_of [] = None
capture_of (first ∷ words) =
    if bytes_eq first (codes "--keys") then typed_of words else signals_of (first ∷ words)

-- the command of the words, or none
abbrev pub command_of : List (List ℕ) → Option Command
command_of [] = None
command_of (command ∷ words) =
    if bytes_eq command (codes "step") then step_of words
    else (if bytes_eq command (codes "list") then named_of Listing words
    else (if bytes_eq command (codes "asm") then named_of Assemble words
    else (if bytes_eq command (codes "compile") then named_of Compile words
    else (if bytes_eq command (codes "cert") then pair_of Certify words
    else (if bytes_eq command (codes "type") then pair_of Spell words
    else (if bytes_eq command (codes "run") then run_of words
    else (if bytes_eq command (codes "expect") then pair_of (OverRun Expect) words
    else (if bytes_eq command (codes "trace") then trace_of words
    else (if bytes_eq command (codes "debug") then debug_of words
    else (if bytes_eq command (codes "board") then board_of words
    else (if bytes_eq command (codes "probe") then probe_of words
    else (if bytes_eq command (codes "words") then feed_of words
    else (if bytes_eq command (codes "sample") then sample_of words
    else (if bytes_eq command (codes "capture") then capture_of words else None))))))))))))))

-- the words have an accepted form
abbrev pub is_form : List (List ℕ) → Bool
is_form words = is_some (command_of words)

-- `trace` makes a run at which no probe looks
abbrev pub is_trace : RunCommand → Bool
is_trace (Log ticks steps) = false
is_trace Expect = false
is_trace (Trace seen) = true

-- words that leave the probes as they are: those without a form, and the commands but `run`, `expect`, `sample`,
-- `board`, `debug` and `probe`
abbrev pub leaves_probes : Option Command → Bool
leaves_probes (Some (OverPair (OverRun command))) = is_trace command
leaves_probes (Some Debug) = false
leaves_probes (Some (Probe fill)) = false
leaves_probes (Some (Board wanted)) = false
leaves_probes (Some (Sample strokes debounced)) = false
leaves_probes command = true

-- commands that lack memory only before anything is put and before a probe has looked
abbrev pub takes_memory_first : Option Command → Bool
takes_memory_first (Some (OverPair (OverRun (Log ticks steps)))) = true
takes_memory_first (Some (OverPair (OverRun (Trace seen)))) = true
takes_memory_first (Some (Board wanted)) = true
takes_memory_first (Some (Sample strokes debounced)) = true
takes_memory_first (Some Capture) = true
takes_memory_first (Some Typed) = true
takes_memory_first command = false

-- the first file that a command names
abbrev pub name_in : List (List ℕ) → List ℕ
name_in (command ∷ name ∷ others) = name
name_in words = []

-- the second file that a command names
abbrev pub second_in : List (List ℕ) → List ℕ
second_in (command ∷ name ∷ second ∷ others) = second
second_in words = []

-- the third file that a command names
abbrev pub third_in : List (List ℕ) → List ℕ
third_in (command ∷ name ∷ second ∷ third ∷ others) = third
third_in words = []

-- the fourth file that a command names
abbrev pub fourth_in : List (List ℕ) → List ℕ
fourth_in (command ∷ name ∷ second ∷ third ∷ fourth ∷ others) = fourth
fourth_in words = []

-- the two signals that `capture` reads: the clock, and data
abbrev pub clock_in : List (List ℕ) → List ℕ
clock_in (command ∷ name ∷ clk ∷ dat ∷ []) = clk
clock_in words = codes "clock"

abbrev pub data_in : List (List ℕ) → List ℕ
data_in (command ∷ name ∷ clk ∷ dat ∷ []) = dat
data_in words = codes "data"

-- and those that `capture --keys` reads
abbrev pub typed_clock_in : List (List ℕ) → List ℕ
typed_clock_in (command ∷ option ∷ layout ∷ name ∷ clk ∷ dat ∷ []) = clk
typed_clock_in words = codes "clock"

abbrev pub typed_data_in : List (List ℕ) → List ℕ
typed_data_in (command ∷ option ∷ layout ∷ name ∷ clk ∷ dat ∷ []) = dat
typed_data_in words = codes "data"

-- how many words after its own a command takes to name its files; `--keys` is one of them
abbrev pub files_in : Command → ℕ
files_in (OverFile command) = 1
files_in (OverPair command) = 2
files_in Debug = 3
files_in (Probe fill) = 4
files_in (Board wanted) = 3
files_in (Feed bytes) = 0
files_in (Sample strokes debounced) = 0
files_in Capture = 1
files_in Typed = 3
