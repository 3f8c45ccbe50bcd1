-- What may be answered of files that were fetched, by commands that make no run.
use Rattle.std.specs.Prelude.{◌≡◌, ◌⊎◌, ℕ, List, Some, Ok, Err, IfOk}
use Rattle.std.specs.declared.alloc.Global.{Global}
use Rattle.std.specs.declared.result.Result.{Result}
use Rattle.std.specs.declared.vec.Vec.{Vec}
use Rattle.layout_reader.specs.Layouts.{KeyLayout}
use Rattle.law_typed_log.specs.Typing.{first_without}
use Rattle.app_words.specs.declared.refusal.Refusal.{Refusal}
use Rattle.app_words.specs.declared.refusal.Refusal.TheVariants.{Text, Memory}
use Rattle.app_answers.specs.CertTexts.{cert_said, IsCertText}
use Rattle.app_answers.specs.FileAnswers.{Answer}
use Rattle.app_answers.specs.TextPlans.{IsPlanText}

-- memory may run out if something is said
abbrev pub MayAnswerOf : Answer → Answer → Type 0
MayAnswerOf said answer = (answer ≡ Err Memory) ⊎ (answer ≡ said)

-- what may be answered of a certificate for an image; if it is found right, its places keep their bounds
abbrev pub MayAnswerCert : List ℕ → List ℕ → Answer → Type 0
MayAnswerCert image text answer = MayAnswerOf (cert_said image text) answer × IfOk answer (IsCertText image text)

-- what may be answered of a text for a layout: its plan, or the number of its first byte without a key, from 1
abbrev pub MayAnswerText : KeyLayout → List ℕ → Answer → Type 0
MayAnswerText layout text answer =
    (answer ≡ Err Memory)
    ⊎ ((first : ℕ × ℕ) × (first_without layout text ≡ Some first) × (answer ≡ Err (Text first.0)))
    ⊎ ((said : List ℕ) × IsPlanText layout text said × (answer ≡ Ok said))

-- an answer of the code, whose text is a vector
abbrev pub answer_of : Result (Vec ℕ Global) Refusal → Answer
answer_of (Ok text) = Ok text.items
answer_of (Err refusal) = Err refusal
