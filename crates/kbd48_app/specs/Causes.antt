-- What causes each exit, of a shelf whose files are known: one definition a cause.
use Rattle.std.specs.Prelude.{◌≡◌, ◌⊎◌, ℕ, List, Some, Ok, Err}
use Rattle.std.specs.declared.option.Option.{Option}
use Rattle.run_program.specs.BoardOutcomes.{IsOutcome, Outcome}
use Rattle.run_loop.specs.declared.ending.End.TheVariants.{Stuck as BoardStuck}
use Rattle.hexfile.specs.Hex.{hex_of}
use Rattle.hexfile.specs.declared.fault.HexFault.{HexFault}
use Rattle.mcs48_asm.specs.Assembly.{assembly_of}
use Rattle.layout_reader.specs.Documents.{layout_of_document}
use Rattle.layout_reader.specs.Faults.{Refusal as LayoutRefusal}
use Rattle.layout_reader.specs.Layouts.{KeyLayout}
use Rattle.law_typed_log.specs.Typing.{first_without}
use Rattle.key_file.specs.Histories.{KeyHistory}
use Rattle.key_file.specs.KeyFile.{history_of}
use Rattle.key_file.specs.declared.fault.KeyFault.{KeyFault}
use Rattle.key_file.specs.declared.fault.KeyFault.TheVariants.{Timing as TimingFault}
use Rattle.mcs48_core.specs.declared.stepping.Stuck.{Stuck}
use Rattle.io_edge.specs.Shelf.{Shelved}
use Rattle.app_words.specs.declared.exit.Exit.{Exit}
use Rattle.app_words.specs.declared.exit.Exit.TheVariants as exits
use Rattle.app_words.specs.declared.exit.Exit.TheVariants.{Memory, Write}
use Rattle.app_words.specs.declared.kind.Kind.{Kind}
use Rattle.app_words.specs.declared.kind.Kind.TheVariants.{Hex, Asm, Layout, Keys, Cert, Script, Text}
use Rattle.app_words.specs.declared.refusal.Refusal.TheVariants as refusals
use Rattle.app_words.specs.declared.words.BoardRun.{BoardRun}
use Rattle.app_words.specs.declared.words.Command.{Command}
use Rattle.app_words.specs.declared.words.Command.TheVariants.{OverFile, Board}
use Rattle.app_words.specs.declared.words.FileCommand.TheVariants.{Step}
use Rattle.app_boards.specs.BoardTexts.{board_story}
use Rattle.app_answers.specs.CertTexts.{cert_said}
use Rattle.app_boards.specs.Debugging.{script_fault}
use Rattle.app_answers.specs.FileAnswers.{keys_refusal}
use Rattle.app_words.specs.Refusals.{exit_of}
use Rattle.kbd48_app.specs.Plans.{Plan}
use Rattle.kbd48_app.specs.Reached.{HasDumpFault, IsTooLong, Reads}
use Rattle.app_answers.specs.Stepping.{Stopped, after_steps}

-- a first fault, by the kind of its file; that of a dump is `HasDumpFault`
pub data Fault : Type 0 where
  InHex : HexFault → Fault
  InAsm : ℕ × ℕ → Fault
  InLayout : LayoutRefusal → Fault
  InCert : ℕ × ℕ → Fault
  InKeys : KeyFault → Fault
  InScript : ℕ × ℕ → Fault
  InText : ℕ × ℕ → Fault

-- its exit
abbrev pub exit_at : Fault → Exit
exit_at (InKeys fault) = exit_of (keys_refusal fault)
exit_at fault = exits.Input

-- a file is read that has this first fault, if there are so many probes; `read` says of each kind which files are read.
-- A certificate is judged for the image of a HEX file, and a key file and a text for the layout of a document. A fault
-- comes with its line, or its entry; that of a text is its first byte without a key, with its number, from 1
abbrev pub IsFault : ℕ → Fault → (Kind → List ℕ → Type 0) → Type 0
IsFault n (InHex fault) read = (bytes : List ℕ) × read Hex bytes × (hex_of bytes ≡ Err fault)
IsFault n (InAsm fault) read = (bytes : List ℕ) × read Asm bytes × (assembly_of bytes ≡ Err fault)
IsFault n (InLayout fault) read = (bytes : List ℕ) × read Layout bytes × (layout_of_document bytes ≡ Err fault)
IsFault n (InCert fault) read =
    (bytes : List ℕ) × read Hex bytes × (image : List ℕ) × (hex_of bytes ≡ Ok image)
    × (text : List ℕ) × read Cert text × (cert_said image text ≡ Err (refusals.Cert fault.0 fault.1))
IsFault n (InKeys fault) read =
    (bytes : List ℕ) × read Layout bytes × (layout : KeyLayout) × (layout_of_document bytes ≡ Ok layout)
    × (text : List ℕ) × read Keys text × (history_of layout text ≡ Err fault)
IsFault n (InScript fault) read = (script : List ℕ) × read Script script × (script_fault n script ≡ Some fault)
IsFault n (InText fault) read =
    (bytes : List ℕ) × read Layout bytes × (layout : KeyLayout) × (layout_of_document bytes ≡ Ok layout)
    × (text : List ℕ) × read Text text × (first_without layout text ≡ Some fault)

-- a plan reaches such a file
abbrev pub HasFault : ℕ → Fault → Plan → Shelved → Type 0
HasFault n fault plan shelf = IsFault n fault (λ kind file. Reads kind file plan shelf)

-- it is a key file, and its fault one of time, with two stamps
abbrev pub IsUntimely : Plan → Shelved → Type 0
IsUntimely plan shelf =
    (fault : ℕ × ℕ) × (stamps : ℕ × ℕ) × HasFault 0 (InKeys (TimingFault fault.0 fault.1 stamps.0 stamps.1)) plan shelf

-- a file that is reached has too many bytes, or a first fault, which is none of time
abbrev pub HasFileFault : ℕ → Plan → Shelved → Type 0
HasFileFault probes plan shelf =
    ((kind : Kind) × IsTooLong kind plan shelf)
    ⊎ ((fault : Fault) × (exit_at fault ≡ exits.Input) × HasFault probes fault plan shelf)
    ⊎ HasDumpFault plan shelf

-- one of the COUNT steps of `step`, over the image of the HEX file, meets a byte without an instruction
abbrev pub StepStops : Option Command → (Kind → List ℕ → Type 0) → Type 0
StepStops command read =
    (count : ℕ) × (command ≡ Some (OverFile (Step count)))
    × (bytes : List ℕ) × read Hex bytes
    × (image : List ℕ) × (hex_of bytes ≡ Ok image)
    × (stuck : Stuck) × (after_steps image count ≡ Stopped stuck)

-- the run of `board`, of the image of the HEX file, in a part that holds the byte of `--fill` at power-on, under the
-- history of the key file for the layout, ends at such a byte
abbrev pub BoardStops : Option Command → (Kind → List ℕ → Type 0) → Type 0
BoardStops command read =
    (wanted : BoardRun) × (command ≡ Some (Board wanted))
    × (bytes : List ℕ) × read Hex bytes
    × (image : List ℕ) × (hex_of bytes ≡ Ok image)
    × (document : List ℕ) × read Layout document
    × (layout : KeyLayout) × (layout_of_document document ≡ Ok layout)
    × (text : List ℕ) × read Keys text
    × (history : KeyHistory) × (history_of layout text ≡ Ok history)
    × (run : Outcome) × IsOutcome (board_story wanted image history) run
    × (stuck : Stuck) × (run.end ≡ BoardStuck stuck)

-- one of them does, over the files that a plan reaches
abbrev pub IsStuck : Option Command → Plan → Shelved → Type 0
IsStuck command plan shelf =
    let read : Kind → List ℕ → Type 0 = λ kind file. Reads kind file plan shelf in
    StepStops command read ⊎ BoardStops command read

-- a call ends with the exit of its cause, or with that of want of memory, or of a sink that fails
abbrev pub MayExit : Exit → Exit → Type 0
MayExit exit result = (result ≡ exit) ⊎ (result ≡ Memory) ⊎ (result ≡ Write)
