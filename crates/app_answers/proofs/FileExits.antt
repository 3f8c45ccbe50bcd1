-- The exits of a command over one file, of the file's bytes.
use Rattle.std.proofs.Common.{◌≡◌, ℕ, List, Ok, Err, inl, inr, refl, ap, ◌∙◌, ◌⊎◌}
use Rattle.std.specs.declared.result.Result.{Result}
use Rattle.hexfile.specs.Hex.{HexOutcome, hex_of}
use Rattle.hexfile.specs.declared.fault.HexFault.{HexFault}
use Rattle.mcs48_asm.specs.Assembly.{assembly_of}
use Rattle.layout_reader.specs.Documents.{layout_of_document}
use Rattle.layout_reader.specs.Faults.{Refusal as LayoutRefusal}
use Rattle.layout_reader.specs.Layouts.{KeyLayout}
use Rattle.mcs48_core.specs.declared.stepping.Stuck.{Stuck}
use Rattle.mcs48_isa.specs.Listing.{listing_of}
use Rattle.app_words.specs.declared.exit.Exit.TheVariants as exits
use Rattle.app_words.specs.declared.kind.Kind.TheVariants as kinds
use Rattle.app_words.specs.declared.refusal.Refusal.TheVariants.{Hex, Asm, Layout}
use Rattle.app_words.specs.declared.words.FileCommand.{FileCommand}
use Rattle.app_words.specs.declared.words.FileCommand.TheVariants.{Step, Listing, Assemble, Compile}
use Rattle.app_words.specs.Kinds.{kind_of}
use Rattle.app_answers.specs.FileAnswers.{Answer, assembled, compiled, file_said, of_image, run_said}
use Rattle.app_answers.specs.Says.{exit_said}
use Rattle.app_answers.specs.Stepping.{Progress, WentOn, Stopped, after_steps}

-- the file's first fault
abbrev pub IsFault : FileCommand → List ℕ → Type 0
IsFault command bytes =
    ((fault : HexFault) × (kind_of command ≡ kinds.Hex) × (hex_of bytes ≡ Err fault))
    ⊎ ((fault : ℕ × ℕ) × (kind_of command ≡ kinds.Asm) × (assembly_of bytes ≡ Err fault))
    ⊎ ((fault : LayoutRefusal) × (kind_of command ≡ kinds.Layout) × (layout_of_document bytes ≡ Err fault))

-- the run of the file's image stops
abbrev pub Stops : FileCommand → List ℕ → Type 0
Stops command bytes =
    (count : ℕ) × (command ≡ Step count)
    × (image : List ℕ) × (hex_of bytes ≡ Ok image)
    × (stuck : Stuck) × (after_steps image count ≡ Stopped stuck)

-- all was said, or the file has a fault, or the run stops
abbrev pub Exits : FileCommand → List ℕ → Answer → Type 0
Exits command bytes said =
    (exit_said said ≡ exits.Done) ⊎ ((exit_said said ≡ exits.Input) × IsFault command bytes)
    ⊎ ((exit_said said ≡ exits.Stuck) × Stops command bytes)

run_exits : (count : ℕ) (bytes image : List ℕ) (run : Progress)
    → hex_of bytes ≡ Ok image → after_steps image count ≡ run → Exits (Step count) bytes (run_said count run)
run_exits count bytes image (WentOn cpu cycles) is runs = inl refl
run_exits count bytes image (Stopped stuck) is runs = inr (inr (refl, (count, refl, image, is, stuck, runs)))

step_exits : (count : ℕ) (bytes : List ℕ) (outcome : HexOutcome)
    → hex_of bytes ≡ outcome → Exits (Step count) bytes (of_image (λ image. run_said count (after_steps image count)) outcome)
step_exits count bytes (Ok image) is = run_exits count bytes image (after_steps image count) is refl
step_exits count bytes (Err fault) is = inr (inl (refl, inl (fault, refl, is)))

list_exits : (bytes : List ℕ) (outcome : HexOutcome)
    → hex_of bytes ≡ outcome → Exits Listing bytes (of_image (λ image. Ok (listing_of image)) outcome)
list_exits bytes (Ok image) is = inl refl
list_exits bytes (Err fault) is = inr (inl (refl, inl (fault, refl, is)))

asm_exits : (bytes : List ℕ) (outcome : Result (List ℕ) (ℕ × ℕ)) → assembly_of bytes ≡ outcome → Exits Assemble bytes (assembled outcome)
asm_exits bytes (Ok image) is = inl refl
asm_exits bytes (Err fault) is = inr (inl (refl, inr (inl (fault, refl, is))))

compile_exits : (bytes : List ℕ) (outcome : Result KeyLayout LayoutRefusal)
    → layout_of_document bytes ≡ outcome → Exits Compile bytes (compiled outcome)
compile_exits bytes (Ok layout) is = inl refl
compile_exits bytes (Err fault) is = inr (inl (refl, inr (inr (fault, refl, is))))

-- a command over one file ends with all said, with the file's fault, or with a run that is stuck
pub file_exits : (command : FileCommand) (bytes : List ℕ) → Exits command bytes (file_said command bytes)
file_exits (Step count) bytes = step_exits count bytes (hex_of bytes) refl
file_exits Listing bytes = list_exits bytes (hex_of bytes) refl
file_exits Assemble bytes = asm_exits bytes (assembly_of bytes) refl
file_exits Compile bytes = compile_exits bytes (layout_of_document bytes) refl

-- a first fault is answered
pub hex_answered : (command : FileCommand) (bytes : List ℕ) (fault : HexFault)
    → kind_of command ≡ kinds.Hex → hex_of bytes ≡ Err fault → file_said command bytes ≡ Err (Hex fault)
hex_answered (Step count) bytes fault kind is = ap (of_image (λ image. run_said count (after_steps image count))) is
hex_answered Listing bytes fault kind is = ap (of_image (λ image. Ok (listing_of image))) is
hex_answered Assemble bytes fault kind is = absurd cc
hex_answered Compile bytes fault kind is = absurd cc

-- an assembler source with a fault is refused with the line and the number of its first fault
pub asm_answered : (command : FileCommand) (bytes : List ℕ) (fault : ℕ × ℕ)
    → kind_of command ≡ kinds.Asm → assembly_of bytes ≡ Err fault → file_said command bytes ≡ Err (Asm fault.0 fault.1)
asm_answered (Step count) bytes fault kind is = absurd cc
asm_answered Listing bytes fault kind is = absurd cc
asm_answered Assemble bytes fault kind is = ap assembled is
asm_answered Compile bytes fault kind is = absurd cc

-- a layout with a fault is refused with the entry and the number of its first fault
pub layout_answered : (command : FileCommand) (bytes : List ℕ) (fault : LayoutRefusal) → kind_of command ≡ kinds.Layout
    → layout_of_document bytes ≡ Err fault → file_said command bytes ≡ Err (Layout fault.entry fault.number)
layout_answered (Step count) bytes fault kind is = absurd cc
layout_answered Listing bytes fault kind is = absurd cc
layout_answered Assemble bytes fault kind is = absurd cc
layout_answered Compile bytes fault kind is = ap compiled is

-- so is a run that stops
pub stop_answered : (count : ℕ) (bytes image : List ℕ) (stuck : Stuck)
    → hex_of bytes ≡ Ok image → after_steps image count ≡ Stopped stuck → exit_said (file_said (Step count) bytes) ≡ exits.Stuck
stop_answered count bytes image stuck is runs =
    ap (λ (o : HexOutcome). exit_said (of_image (λ i. run_said count (after_steps i count)) o)) is
    ∙ ap (λ p. exit_said (run_said count p)) runs
