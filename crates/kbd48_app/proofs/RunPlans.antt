-- What follows an image, a layout and a key file.
use Rattle.std.proofs.Common.{ℕ, List}
use Rattle.std.specs.declared.result.Result.{Result}
use Rattle.hexfile.specs.Hex.{hex_of}
use Rattle.key_file.specs.Histories.{KeyHistory}
use Rattle.key_file.specs.declared.fault.KeyFault.{KeyFault}
use Rattle.layout_reader.specs.Documents.{layout_of_document}
use Rattle.layout_reader.specs.Faults.{Refusal as LayoutRefusal}
use Rattle.layout_reader.specs.Layouts.{KeyLayout}
use Rattle.kbd48_app.specs.Plans.{Plan, keys_next, program_next, with_image, with_layout}

abbrev pub HistoryOutcome : Type 0
HistoryOutcome = Result KeyHistory KeyFault

abbrev pub LayoutOutcome : Type 0
LayoutOutcome = Result KeyLayout LayoutRefusal

abbrev pub Following : Type 0
Following = KeyLayout → KeyHistory → Plan

abbrev pub plan_from : Following → List ℕ → List ℕ → Plan
plan_from next second bytes = with_layout (keys_next next second) (layout_of_document bytes)

abbrev pub Afterwards : Type 0
Afterwards = List ℕ → KeyHistory → Plan

abbrev pub program_from : Afterwards → List ℕ → List ℕ → List ℕ → Plan
program_from next second third bytes = with_image (program_next next second third) (hex_of bytes)
