-- The exits of a certificate for an image.
use Rattle.std.proofs.Common.{◌≡◌, ℕ, List, Ok, Err, inl, inr, refl, ◌⊎◌}
use Rattle.std.specs.declared.result.Result.{Result}
use Rattle.cycle_cert.specs.Answers.{answer_of as certificate_said}
use Rattle.cycle_cert.specs.Faults.{number_of}
use Rattle.cycle_cert.specs.declared.checking.Proved.{Proved}
use Rattle.first_fault.specs.FirstFault.{Fault as FirstFault}
use Rattle.app_words.specs.declared.exit.Exit.TheVariants as exits
use Rattle.app_words.specs.declared.refusal.Refusal.TheVariants.{Cert}
use Rattle.app_answers.specs.CertTexts.{certified, cert_said}
use Rattle.app_answers.specs.Says.{exit_said}

-- a certificate without a fault
pub right_exit : {Rule : Type 0} (number : Rule → ℕ) (said : Result Proved (FirstFault Rule)) (proved : Proved)
    → said ≡ Ok proved → exit_said (certified number said) ≡ exits.Done
right_exit number (Ok said) proved is = refl
right_exit number (Err fault) proved is = absurd cc

exits_by : {Rule : Type 0} (number : Rule → ℕ) (said : Result Proved (FirstFault Rule))
    → (exit_said (certified number said) ≡ exits.Done)
    ⊎ ((fault : ℕ × ℕ) × (certified number said ≡ Err (Cert fault.0 fault.1)))
exits_by number (Ok proved) = inl refl
exits_by number (Err fault) = inr ((fault.item, number fault.rule), refl)

-- all is said of a certificate, or its first fault
pub cert_exits : (image text : List ℕ)
    → (exit_said (cert_said image text) ≡ exits.Done)
    ⊎ ((fault : ℕ × ℕ) × (cert_said image text ≡ Err (Cert fault.0 fault.1)))
cert_exits image text = exits_by number_of (certificate_said image text)
