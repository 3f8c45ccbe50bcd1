-- `capture`: what may be answered of a dump of the two wires.
use Rattle.std.specs.Prelude.{◌≡◌, ◌⊎◌, ℕ, List, [], None, Some, Ok, Err}
use Rattle.capture_keys.specs.KeyTexts.{history_of_keys, key_text}
use Rattle.capture_keys.specs.Laws.{Plays}
use Rattle.capture_keys.specs.Typed.{keys_of}
use Rattle.layout_reader.specs.Layouts.{KeyLayout}
use Rattle.std.specs.declared.option.Option.{Option}
use Rattle.capture_lines.specs.Captures.{capture_text}
use Rattle.capture_vcd.specs.Reads.{reads_of}
use Rattle.capture_vcd.specs.declared.fault.VcdFault.{VcdFault}
use Rattle.app_words.specs.declared.refusal.Refusal.TheVariants.{Memory, Vcd}
use Rattle.app_answers.specs.FileAnswers.{Answer}

-- what is found is the answer; or, of a dump with a fault, what is found before it is said before the fault's refusal
abbrev pub IsCaptured : Option VcdFault → List ℕ → Answer → List ℕ → Type 0
IsCaptured None text answer log = (answer ≡ Ok text) × (log ≡ [])
IsCaptured (Some fault) text answer log = (answer ≡ Err (Vcd fault.line fault.number)) × (log ≡ text)

-- what may be answered of a dump after which log, with the names of its clock and its data wire; memory runs out only
-- before anything is said
abbrev pub MayAnswerCapture : List ℕ → List ℕ → List ℕ → Answer → List ℕ → Type 0
MayAnswerCapture clk dat dump answer log =
    ((answer ≡ Err Memory) × (log ≡ []))
    ⊎ IsCaptured (reads_of clk dat dump).fault (capture_text clk dat dump) answer log

-- `capture --keys`: what is said is the key file of what was typed, of a dump without a fault; and it is read as its
-- history, which is accepted for the layout
pub record IsTypedText (layout : KeyLayout) (clk dat dump said : List ℕ) : Type 0 where
  pub faultless : (reads_of clk dat dump).fault ≡ None
  pub text : said ≡ key_text (keys_of layout clk dat dump)
  pub plays : Plays layout (history_of_keys (keys_of layout clk dat dump)) said

-- what may be answered of a dump for a layout, with the names of its clock and its data wire: that, or its first fault
abbrev pub MayAnswerTyped : KeyLayout → List ℕ → List ℕ → List ℕ → Answer → Type 0
MayAnswerTyped layout clk dat dump answer =
    (answer ≡ Err Memory)
    ⊎ ((fault : VcdFault) × ((reads_of clk dat dump).fault ≡ Some fault) × (answer ≡ Err (Vcd fault.line fault.number)))
    ⊎ ((said : List ℕ) × IsTypedText layout clk dat dump said × (answer ≡ Ok said))
