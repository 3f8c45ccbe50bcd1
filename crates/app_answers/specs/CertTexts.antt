-- `cert`: what is printed of a certificate for an image.
use Rattle.std.specs.Prelude.{◌≡◌, ℕ, List, ◌++◌, Ok, Err, codes, decimal}
use Rattle.std.specs.declared.result.Result.{Result}
use Rattle.cycle_cert.specs.Answers.{answer_of as certificate_said, IsProved}
use Rattle.cycle_cert.specs.Faults.{number_of}
use Rattle.cycle_cert.specs.declared.checking.Proved.{Proved}
use Rattle.first_fault.specs.FirstFault.{Fault}
use Rattle.app_words.specs.declared.refusal.Refusal.TheVariants.{Cert}
use Rattle.app_answers.specs.FileAnswers.{Answer}

-- how many places a certificate gives a bound, and the greatest bound
abbrev pub proved_text : Proved → List ℕ
proved_text proved =
    codes "ok places " ++ decimal proved.places ++ codes " greatest " ++ decimal proved.greatest ++ codes "\n"

-- what is said of a certificate that was judged by rules with these numbers, or its first fault
abbrev pub certified : {Rule : Type 0} → (Rule → ℕ) → Result Proved (Fault Rule) → Answer
certified number (Ok proved) = Ok (proved_text proved)
certified number (Err fault) = Err (Cert fault.item (number fault.rule))

-- what is said of a certificate for an image
abbrev pub cert_said : List ℕ → List ℕ → Answer
cert_said image text = certified number_of (certificate_said image text)

-- what is said is how many places have a bound, and the greatest one, of a certificate whose places keep their bounds:
-- from each of them the processor reaches the target in time
abbrev pub IsCertText : List ℕ → List ℕ → List ℕ → Type 0
IsCertText image text said = (proved : Proved) × IsProved image text proved × (said ≡ proved_text proved)
