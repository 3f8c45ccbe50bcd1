-- What a command says of the bytes of its file, and what is said of a key file with a fault.
use Rattle.std.specs.Prelude.{ℕ, List, Ok, Err}
use Rattle.std.specs.declared.result.Result.{Result}
use Rattle.hexfile.specs.Hex.{HexOutcome, hex_of}
use Rattle.hexfile.specs.Spelling.{hex_text_of}
use Rattle.mcs48_asm.specs.Assembly.{assembly_of}
use Rattle.layout_reader.specs.Documents.{layout_of_document}
use Rattle.layout_reader.specs.Faults.{Refusal as LayoutRefusal}
use Rattle.layout_reader.specs.Layouts.{KeyLayout}
use Rattle.key_file.specs.declared.fault.KeyFault.{KeyFault}
use Rattle.key_file.specs.declared.fault.KeyFault.TheVariants as keys
use Rattle.fw_compile.specs.Image.{image_of}
use Rattle.mcs48_isa.specs.Listing.{listing_of}
use Rattle.mcs48_core.specs.StateText.{state_text_of}
use Rattle.app_words.specs.declared.refusal.Refusal.{Refusal}
use Rattle.app_words.specs.declared.refusal.Refusal.TheVariants.{Hex, Asm, Layout, Keys, Timing, Stuck, Memory}
use Rattle.app_words.specs.declared.words.FileCommand.{FileCommand}
use Rattle.app_words.specs.declared.words.FileCommand.TheVariants.{Step, Listing, Assemble, Compile}
use Rattle.app_answers.specs.Stepping.{Progress, WentOn, Stopped, after_steps}

-- a text, or a refusal
abbrev pub Answer : Type 0
Answer = Result (List ℕ) Refusal

-- `step` of a run that is or has stopped after its steps
abbrev pub run_said : ℕ → Progress → Answer
run_said count (WentOn cpu cycles) = Ok (state_text_of cpu count cycles)
run_said count (Stopped stuck) = Err (Stuck stuck)

-- what is said of the image of a HEX file, or the file's first fault
abbrev pub of_image : (List ℕ → Answer) → HexOutcome → Answer
of_image said (Ok image) = said image
of_image said (Err fault) = Err (Hex fault)

-- the HEX text of a source's image, or the source's first fault
abbrev pub assembled : Result (List ℕ) (ℕ × ℕ) → Answer
assembled (Ok image) = Ok (hex_text_of image)
assembled (Err fault) = Err (Asm fault.0 fault.1)

-- the HEX text of a layout's image, or the layout's first fault
abbrev pub compiled : Result KeyLayout LayoutRefusal → Answer
compiled (Ok layout) = Ok (hex_text_of (image_of layout))
compiled (Err refusal) = Err (Layout refusal.entry refusal.number)

-- a command over one file, of the file's bytes
abbrev pub file_said : FileCommand → List ℕ → Answer
file_said (Step count) bytes = of_image (λ image. run_said count (after_steps image count)) (hex_of bytes)
file_said Listing bytes = of_image (λ image. Ok (listing_of image)) (hex_of bytes)
file_said Assemble bytes = assembled (assembly_of bytes)
file_said Compile bytes = compiled (layout_of_document bytes)

-- the refusal of a key file; want of memory is no fault of the file
abbrev pub keys_refusal : KeyFault → Refusal
keys_refusal (keys.Input line number) = Keys line number
keys_refusal (keys.Timing line number first second) = Timing line number first second
keys_refusal keys.Memory = Memory
