-- Which faults the files have that are read one after another.
use Rattle.std.proofs.Common.{◌≡◌, ◌⊎◌, ℕ, List, [], ◌∷◌, Some, Ok, Err, arith}
use Rattle.std.specs.declared.option.Option.{Option}
use Rattle.run_loop.specs.declared.ending.End.TheVariants.{Stuck}
use Rattle.hexfile.specs.Hex.{hex_of}
use Rattle.hexfile.specs.declared.fault.HexFault.{HexFault}
use Rattle.key_file.specs.Histories.{KeyHistory}
use Rattle.key_file.specs.KeyFile.{history_of}
use Rattle.key_file.specs.declared.fault.KeyFault.{KeyFault}
use Rattle.layout_reader.specs.Documents.{layout_of_document}
use Rattle.layout_reader.specs.Faults.{Refusal as LayoutRefusal}
use Rattle.layout_reader.specs.Layouts.{KeyLayout}
use Rattle.law_typed_log.specs.Typing.{first_without}
use Rattle.app_words.specs.declared.exit.Exit.TheVariants as exits
use Rattle.app_words.specs.declared.kind.Kind.TheVariants as kinds
use Rattle.app_words.specs.declared.words.BoardRun.{BoardRun}
use Rattle.app_words.specs.declared.words.Command.{Command}
use Rattle.app_words.specs.declared.words.Command.TheVariants.{OverFile, Board}
use Rattle.app_words.specs.declared.words.FileCommand.{FileCommand}
use Rattle.app_words.specs.Kinds.{kind_of}
use Rattle.app_words.specs.Refusals.{exit_of}
use Rattle.app_answers.specs.CertTexts.{cert_said}
use Rattle.app_answers.specs.FileAnswers.{file_said, keys_refusal}
use Rattle.app_answers.specs.Says.{exit_said}
use Rattle.app_answers.proofs.FileExits.{asm_answered, hex_answered, layout_answered, stop_answered}
use Rattle.app_boards.specs.BoardTexts.{board_story}
use Rattle.app_boards.specs.Debugging.{script_fault}
use Rattle.kbd48_app.specs.Causes.{Fault, BoardStops, IsFault, exit_at}
use Rattle.kbd48_app.proofs.ExitsAreRight.{Files, In, Reading, Stops}
use Rattle.kbd48_app.proofs.PlansEnd.{exit_by}

-- nothing was read, or an image without a fault
abbrev pub IsOlder : Files → Type 0
IsOlder older =
    (older ≡ []) ⊎ ((bytes : List ℕ) × (image : List ℕ) × (older ≡ (kinds.Hex, bytes) ∷ []) × (hex_of bytes ≡ Ok image))

-- a history is read
abbrev pub ReadsHistory : Reading → Type 0
ReadsHistory read =
    (document : List ℕ) × read kinds.Layout document × (layout : KeyLayout) × (layout_of_document document ≡ Ok layout)
    × (text : List ℕ) × read kinds.Keys text × (history : KeyHistory) × (history_of layout text ≡ Ok history)

-- if nothing was read, or an image without a fault, there is no fault
pub older_clean : (n : ℕ) (older : Files) → IsOlder older → (fault : Fault) → IsFault n fault (In older) → ⊥
older_clean n older is fault h = grind arith

-- and no history was read
pub older_unread : (older : Files) → IsOlder older → ReadsHistory (In older) → ⊥
older_unread older is h = grind arith

-- if an image with a fault was read, each fault has the exit of input
pub hex_faulty : (n : ℕ) (bytes : List ℕ) (bad : HexFault) → hex_of bytes ≡ Err bad
    → (fault : Fault) → IsFault n fault (In ((kinds.Hex, bytes) ∷ [])) → exits.Input ≡ exit_at fault
hex_faulty n bytes bad is fault h = grind arith

-- and no history was read
pub hex_unread : (bytes : List ℕ) → ReadsHistory (In ((kinds.Hex, bytes) ∷ [])) → ⊥
hex_unread bytes h = grind arith

-- if a layout without a fault was read last, there is no fault
pub layout_clean : (n : ℕ) (older : Files) (document : List ℕ) (layout : KeyLayout) → IsOlder older → layout_of_document document ≡ Ok layout
    → (fault : Fault) → IsFault n fault (In ((kinds.Layout, document) ∷ older)) → ⊥
layout_clean n older document layout is has fault h = grind arith

-- if it has a fault, each fault has the exit of input
pub layout_faulty : (n : ℕ) (older : Files) (document : List ℕ) (bad : LayoutRefusal) → IsOlder older → layout_of_document document ≡ Err bad
    → (fault : Fault) → IsFault n fault (In ((kinds.Layout, document) ∷ older)) → exits.Input ≡ exit_at fault
layout_faulty n older document bad is has fault h = grind arith

-- either way no history was read
pub layout_unread : (older : Files) (document : List ℕ) → IsOlder older → ReadsHistory (In ((kinds.Layout, document) ∷ older)) → ⊥
layout_unread older document is h = grind arith

-- after a layout without a fault
module _ (n : ℕ) (older : Files) (document text : List ℕ) (layout : KeyLayout) (is : IsOlder older)
    (has : layout_of_document document ≡ Ok layout) where
  -- if a key file without a fault was read last, there is no fault
  pub keys_clean : (history : KeyHistory) → history_of layout text ≡ Ok history
      → (fault : Fault) → IsFault n fault (In ((kinds.Keys, text) ∷ (kinds.Layout, document) ∷ older)) → ⊥
  keys_clean history reads fault h = grind arith

  -- if it has a fault, each fault has the exit of its refusal
  pub keys_faulty : (bad : KeyFault) → history_of layout text ≡ Err bad
      → (fault : Fault) → IsFault n fault (In ((kinds.Keys, text) ∷ (kinds.Layout, document) ∷ older))
      → exit_of (keys_refusal bad) ≡ exit_at fault
  keys_faulty bad reads fault h = grind arith

  -- and no history was read
  pub keys_unread : (bad : KeyFault) → history_of layout text ≡ Err bad
      → ReadsHistory (In ((kinds.Keys, text) ∷ (kinds.Layout, document) ∷ older)) → ⊥
  keys_unread bad reads h = grind arith

  -- if a script was read last, each fault has the exit of its first faulty line
  pub script_faulty : (history : KeyHistory) (script : List ℕ) → history_of layout text ≡ Ok history → (fault : Fault)
      → IsFault n fault (In ((kinds.Script, script) ∷ (kinds.Keys, text) ∷ (kinds.Layout, document) ∷ older))
      → exit_by (script_fault n script) ≡ exit_at fault
  script_faulty history script reads fault h = grind arith

-- if a text was read after a layout, each fault has the exit of its first byte without a key
pub text_faulty : (n : ℕ) (document text : List ℕ) (layout : KeyLayout) → layout_of_document document ≡ Ok layout
    → (fault : Fault) → IsFault n fault (In ((kinds.Text, text) ∷ (kinds.Layout, document) ∷ []))
    → exit_by (first_without layout text) ≡ exit_at fault
text_faulty n document text layout has fault h = grind arith

-- if a certificate was read after an image, each fault has the exit of what is said of it
pub cert_faulty : (n : ℕ) (bytes image text : List ℕ) → hex_of bytes ≡ Ok image
    → (fault : Fault) → IsFault n fault (In ((kinds.Cert, text) ∷ (kinds.Hex, bytes) ∷ [])) → exit_said (cert_said image text) ≡ exit_at fault
cert_faulty n bytes image text is fault h = grind arith

-- if the one file of a command was read, each fault has the exit of what the command says
pub file_faulty : (n : ℕ) (command : FileCommand) (bytes : List ℕ)
    → (fault : Fault) → IsFault n fault (In ((kind_of command, bytes) ∷ [])) → exit_said (file_said command bytes) ≡ exit_at fault
file_faulty n command bytes fault h = grind (arith, hex_answered, asm_answered, layout_answered)

-- and a step that stops has it too
pub file_stops : (command : FileCommand) (bytes : List ℕ) → Stops (Some (OverFile command)) (In ((kind_of command, bytes) ∷ []))
    → exit_said (file_said command bytes) ≡ exits.Stuck
file_stops command bytes h = grind (arith, stop_answered)

-- a run that stops after an image and a history is the run of these on the board
pub same_story : (wanted : BoardRun) (bytes image document text : List ℕ) (layout : KeyLayout) (history : KeyHistory) → hex_of bytes ≡ Ok image
    → layout_of_document document ≡ Ok layout → history_of layout text ≡ Ok history
    → (h : BoardStops (Some (Board wanted)) (In ((kinds.Keys, text) ∷ (kinds.Layout, document) ∷ (kinds.Hex, bytes) ∷ [])))
    → board_story wanted image history ≡ board_story h.0 h.4 h.12
same_story wanted bytes image document text layout history is has reads h = grind arith

-- if nothing was read, there is no fault
pub none_faulty : (n : ℕ) (fault : Fault) → IsFault n fault (In []) → ⊥
none_faulty n fault h = grind arith

-- and nothing stops
pub none_stops : (command : Option Command) → Stops command (In []) → ⊥
none_stops command h = grind arith
