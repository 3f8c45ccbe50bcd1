-- What a command does with files: which it asks for, in what order, and what it says of their bytes.
use Rattle.std.specs.Prelude.{ℕ, Bool, List, Ok, Err, None, Some}
use Rattle.std.specs.declared.option.Option.{Option}
use Rattle.std.specs.declared.result.Result.{Result}
use Rattle.hexfile.specs.Hex.{HexOutcome, hex_of}
use Rattle.layout_reader.specs.Documents.{layout_of_document}
use Rattle.layout_reader.specs.Faults.{Refusal as LayoutRefusal}
use Rattle.layout_reader.specs.Layouts.{KeyLayout}
use Rattle.key_file.specs.Histories.{KeyHistory}
use Rattle.key_file.specs.KeyFile.{history_of}
use Rattle.key_file.specs.declared.fault.KeyFault.{KeyFault}
use Rattle.fw_compile.specs.Image.{image_of}
use Rattle.debugger.specs.Sessions.{Debuggee, of_layout, of_program, with_fill}
use Rattle.joint_feed.specs.Stories.{story}
use Rattle.app_words.specs.declared.kind.Kind.{Kind}
use Rattle.app_words.specs.declared.kind.Kind.TheVariants as kinds
use Rattle.app_words.specs.declared.refusal.Refusal.TheVariants.{Words, Hex, Layout}
use Rattle.app_words.specs.declared.words.BoardRun.{BoardRun}
use Rattle.app_words.specs.declared.words.Command.{Command}
use Rattle.app_words.specs.declared.words.Command.TheVariants.{OverFile, OverPair, Debug, Probe, Board, Feed, Sample, Capture, Typed}
use Rattle.app_words.specs.declared.words.PairCommand.{PairCommand}
use Rattle.app_words.specs.declared.words.PairCommand.TheVariants.{Certify, Spell, OverRun}
use Rattle.app_words.specs.declared.words.RunCommand.{RunCommand}
use Rattle.app_words.specs.Kinds.{kind_of}
use Rattle.app_answers.specs.Feeding.{fed_text}
use Rattle.app_words.specs.Words.{clock_in, command_of, data_in, name_in, second_in, third_in, fourth_in, typed_clock_in, typed_data_in}
use Rattle.app_answers.specs.FileAnswers.{Answer, file_said, keys_refusal}

-- a plan says something, or what is found of a certificate for an image, or with which keys of a layout a text is
-- typed, or what a command says of the run of a layout under a history, or what is wanted of the run of an image on the
-- board under a history, or what is counted in the run of so many strokes, or what a script says in a session over the
-- run of what is debugged, or what is found in a dump with these names of the clock and of the data wire, or what was
-- typed in it on a layout, or it fetches the file of this kind and name, and goes on with the file's bytes
pub data Plan : Type 0 where
  Gives : Answer → Plan
  Certifies : List ℕ → List ℕ → Plan
  Spells : KeyLayout → List ℕ → Plan
  Runs : RunCommand → KeyLayout → KeyHistory → Plan
  Boards : BoardRun → List ℕ → KeyHistory → Plan
  Samples : ℕ → Bool → Plan
  Debugs : Debuggee → List ℕ → Plan
  Captures : List ℕ → List ℕ → List ℕ → Plan
  Follows : KeyLayout → List ℕ → List ℕ → List ℕ → Plan
  Fetches : Kind → List ℕ → (List ℕ → Plan) → Plan

-- what is fetched for the image of a HEX file, or the file's first fault
abbrev pub with_image : (List ℕ → Plan) → HexOutcome → Plan
with_image next (Ok image) = next image
with_image next (Err fault) = Gives (Err (Hex fault))

-- `cert`: the image comes first, and then the certificate
abbrev pub cert_next : List ℕ → List ℕ → Plan
cert_next name image = Fetches kinds.Cert name (Certifies image)

-- what is fetched for a layout, or the document's first fault
abbrev pub with_layout : (KeyLayout → Plan) → Result KeyLayout LayoutRefusal → Plan
with_layout next (Ok layout) = next layout
with_layout next (Err refusal) = Gives (Err (Layout refusal.entry refusal.number))

-- `type`: the layout comes first, and then the text
abbrev pub text_next : List ℕ → KeyLayout → Plan
text_next name layout = Fetches kinds.Text name (Spells layout)

-- what is said of a history, or the key file's first fault
abbrev pub with_history : (KeyHistory → Plan) → Result KeyHistory KeyFault → Plan
with_history next (Ok history) = next history
with_history next (Err fault) = Gives (Err (keys_refusal fault))

-- after a layout comes the key file, which is read for the layout
abbrev pub keys_next : (KeyLayout → KeyHistory → Plan) → List ℕ → KeyLayout → Plan
keys_next next name layout = Fetches kinds.Keys name (λ text. with_history (next layout) (history_of layout text))

-- what is fetched for a layout and a history of two files
abbrev pub history_plan : (KeyLayout → KeyHistory → Plan) → List ℕ → List ℕ → Plan
history_plan next first second =
    Fetches kinds.Layout first (λ bytes. with_layout (keys_next next second) (layout_of_document bytes))

-- after what is debugged comes the script
abbrev pub script_next : List ℕ → Debuggee → Plan
script_next name s = Fetches kinds.Script name (Debugs s)

-- `debug`: the image that a layout gives, under the history of the key file
abbrev pub debug_next : List ℕ → KeyLayout → KeyHistory → Plan
debug_next name layout history = script_next name (of_layout (story (image_of layout) history))

abbrev pub debug_plan : List ℕ → List ℕ → List ℕ → Plan
debug_plan first second third = history_plan (debug_next third) first second

-- after an image come a layout, which has the places of its keys and hands nothing else on, and the key file
abbrev pub program_next : (List ℕ → KeyHistory → Plan) → List ℕ → List ℕ → List ℕ → Plan
program_next next second third image = history_plan (λ layout. next image) second third

-- what is fetched for an image and a history of three files
abbrev pub program_plan : (List ℕ → KeyHistory → Plan) → List ℕ → List ℕ → List ℕ → Plan
program_plan next first second third =
    Fetches kinds.Hex first (λ bytes. with_image (program_next next second third) (hex_of bytes))

-- `probe`: any program, in a part that holds this byte at power-on, under the history of the key file
abbrev pub probe_next : ℕ → List ℕ → List ℕ → KeyHistory → Plan
probe_next fill name image history = script_next name (with_fill fill (of_program (story image history)))

abbrev pub probe_plan : ℕ → List ℕ → List ℕ → List ℕ → List ℕ → Plan
probe_plan fill first second third fourth = program_plan (probe_next fill fourth) first second third

-- `capture`: a dump, with the names of its clock and of its data wire
abbrev pub capture_plan : List ℕ → List ℕ → List ℕ → Plan
capture_plan clk dat name = Fetches kinds.Vcd name (Captures clk dat)

-- `capture --keys`: the layout comes first, and then the dump
abbrev pub typed_next : List ℕ → List ℕ → List ℕ → KeyLayout → Plan
typed_next clk dat name layout = Fetches kinds.Vcd name (Follows layout clk dat)

abbrev pub typed_plan : List ℕ → List ℕ → List ℕ → List ℕ → Plan
typed_plan clk dat first second =
    Fetches kinds.Layout first (λ bytes. with_layout (typed_next clk dat second) (layout_of_document bytes))

-- a command over two files, by their names
abbrev pub pair_plan : PairCommand → List ℕ → List ℕ → Plan
pair_plan Certify first second = Fetches kinds.Hex first (λ bytes. with_image (cert_next second) (hex_of bytes))
pair_plan Spell first second =
    Fetches kinds.Layout first (λ bytes. with_layout (text_next second) (layout_of_document bytes))
pair_plan (OverRun command) first second = history_plan (Runs command) first second

-- a command's plan, with the words that it came from; words without a command are refused
abbrev pub plan_of : Option Command → List (List ℕ) → Plan
plan_of None words = Gives (Err Words)
plan_of (Some (Feed bytes)) words = Gives (Ok (fed_text bytes))
plan_of (Some (Sample count debounced)) words = Samples count debounced
plan_of (Some (OverFile command)) words =
    Fetches (kind_of command) (name_in words) (λ bytes. Gives (file_said command bytes))
plan_of (Some (OverPair command)) words = pair_plan command (name_in words) (second_in words)
plan_of (Some (Board wanted)) words = program_plan (Boards wanted) (name_in words) (second_in words) (third_in words)
plan_of (Some Debug) words = debug_plan (name_in words) (second_in words) (third_in words)
plan_of (Some (Probe fill)) words =
    probe_plan fill (name_in words) (second_in words) (third_in words) (fourth_in words)
plan_of (Some Capture) words = capture_plan (clock_in words) (data_in words) (name_in words)
plan_of (Some Typed) words = typed_plan (typed_clock_in words) (typed_data_in words) (second_in words) (third_in words)

abbrev pub plan : List (List ℕ) → Plan
plan words = plan_of (command_of words) words
