-- What the check of a text says that is a certificate without a fault.
use Rattle.std.proofs.Common.{◌≡◌, ℕ, List, None, Some, Ok, Err, IfOk, ap, ◌∙◌}
use Rattle.std.specs.declared.option.Option.{Option}
use Rattle.std.specs.declared.result.Result.{Result}
use Rattle.first_fault.specs.FirstFault.{Fault, and_then}
use Rattle.cycle_cert.specs.declared.checking.Proved.{Proved}
use Rattle.cycle_cert.specs.declared.fault.CertFault.{CertFault}
use Rattle.cycle_cert.specs.declared.fault.Rule.{Rule}
use Rattle.cycle_cert.specs.declared.fault.Rule.TheVariants.{Empty}
use Rattle.cycle_cert.specs.declared.reading.Draft.{Draft}
use Rattle.cycle_cert.specs.Answers.{proved_of, judged, IsProved}
use Rattle.cycle_cert.specs.Certificates.{Certificate, first_fault, Keeps}
use Rattle.cycle_cert.specs.Reading.{draft_of, certificate_from, certificate_of}

with_target : (draft : Draft) (target : ℕ) (said : Option ℕ) → said ≡ Some target
    → (elim said as (λ _. Result Certificate (Fault Rule)) [
      | None ↦ Err (record { item = 1; rule = Empty })
      | Some to ↦ Ok (record { target = to; entries = draft.table })
    ])
    ≡ Ok (record { target = target; entries = draft.table })
with_target draft target None is = absurd cc
with_target draft target (Some to) is = cc

-- the certificate that a text's lines come to
pub certificate_is : (text : List ℕ) (draft : Draft) (target : ℕ) → draft_of text ≡ Ok draft → draft.target ≡ Some target
    → certificate_of text ≡ Ok (record { target = target; entries = draft.table })
unfolding certificate_of
certificate_is text draft target is there =
    ap (λ (d : Result Draft (Fault Rule)). and_then d certificate_from) is ∙ with_target draft target draft.target there

-- where no place breaks a rule, what is said is counted
counted : (cert : Certificate) (proved : Proved) (fault : Option (Fault Rule))
    → (elim fault as (λ _. Result Proved (Fault Rule)) [ None ↦ Ok (proved_of cert.entries) | Some first ↦ Err first ]) ≡ Ok proved
    → proved ≡ proved_of cert.entries
counted cert proved None is = cc
counted cert proved (Some first) is = absurd cc

-- a text that is a certificate without a fault is proved of the program
pub is_proved : (bytes text : List ℕ) (cert : Certificate) (result : Result Proved CertFault) → certificate_of text ≡ Ok cert
    → IfOk result (λ proved. judged bytes cert ≡ Ok proved) → IfOk result (λ _. Keeps bytes cert) → IfOk result (IsProved bytes text)
is_proved bytes text cert (Ok proved) is said keeps =
    (cert, is, counted cert proved (first_fault bytes cert cert.entries) said, keeps)
is_proved bytes text cert (Err fault) is said keeps = tt
