-- What a certificate's check answers.
use Rattle.std.specs.Prelude.{◌≡◌, ℕ, List, [], ◌∷◌, length, max, Some, None, Result, Ok, Err}
use Rattle.first_fault.specs.FirstFault.{Fault, and_then}
use Rattle.cycle_cert.specs.declared.certificate.Entry.{Entry}
use Rattle.cycle_cert.specs.declared.checking.Proved.{Proved}
use Rattle.cycle_cert.specs.declared.fault.CertFault.{CertFault}
use Rattle.cycle_cert.specs.declared.fault.CertFault.TheVariants.{Line, Memory}
use Rattle.cycle_cert.specs.declared.fault.Rule.{Rule}
use Rattle.cycle_cert.specs.declared.judging.Certificate as code
use Rattle.cycle_cert.specs.Bounds.{most_cycles}
use Rattle.cycle_cert.specs.Certificates.{Certificate, first_fault, Keeps}
use Rattle.cycle_cert.specs.Faults.{number_of}
use Rattle.cycle_cert.specs.Reading.{certificate_of}

-- the certificate that the program keeps
abbrev pub said_by : code.Certificate → Certificate
said_by cert = record { target = cert.target; entries = cert.table.now }

-- the greatest value that a bound takes, 0 if no place is certified
abbrev pub greatest_of : List Entry → ℕ
greatest_of [] = 0
greatest_of (entry ∷ more) = max (most_cycles entry.bound) (greatest_of more)

-- how many places are certified, and the greatest value of their bounds
abbrev pub proved_of : List Entry → Proved
proved_of entries = record { places = length entries; greatest = greatest_of entries }

-- a certificate that was read, judged by the program's bytes: the first certified place that breaks a rule
abbrev pub judged : List ℕ → Certificate → Result Proved (Fault Rule)
judged bytes cert =
    elim (first_fault bytes cert cert.entries) [ None ↦ Ok (proved_of cert.entries) | Some fault ↦ Err fault ]

-- the answer for a program and a text: the faults of form and of places given twice come before all others
unfoldable pub answer_of : List ℕ → List ℕ → Result Proved (Fault Rule)
answer_of bytes text = and_then (certificate_of text) (judged bytes)

-- the text is a certificate of the program: of so many places, with this greatest bound, and each keeps its own bound
abbrev pub IsProved : List ℕ → List ℕ → Proved → Type 0
IsProved bytes text proved =
    (cert : Certificate) × (certificate_of text ≡ Ok cert) × (proved ≡ proved_of cert.entries) × Keeps bytes cert

-- want of memory, or else the text's fault
abbrev pub IsFaultOf : {X : Type 0} → Result X (Fault Rule) → CertFault → Type 0
IsFaultOf meaning (Line line number) =
    (rule : Rule) × (meaning ≡ Err (record { item = line; rule = rule })) × (number ≡ number_of rule)
IsFaultOf meaning Memory = Unit {0}
