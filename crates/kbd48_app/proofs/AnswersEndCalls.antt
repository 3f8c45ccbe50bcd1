-- What is said of an answer that was come to, and how it ends the call.
use Rattle.std.proofs.Common.{◌≡◌, ◌<◌, ℕ, List, [], ◌++◌, Ok, Err, inl, inr, refl, ap, sym, subst, ◌∙◌, ◌⊎◌, arith}
use Rattle.std.specs.declared.option.Option.{Option}
use Rattle.std.specs.declared.result.Result.{Result}
use Rattle.run_probes.specs.Probes.{Watch}
use Rattle.io_edge.proofs.Pieces.{AreLines, said_then_broken, said_then_said}
use Rattle.io_edge.specs.Faults.{Rose}
use Rattle.io_edge.specs.Said.{IsBrokenOff, IsSaid, Shown}
use Rattle.io_edge.specs.Shelf.{Shelved}
use Rattle.app_words.specs.declared.exit.Exit.{Exit}
use Rattle.app_words.specs.declared.exit.Exit.TheVariants as exits
use Rattle.app_words.specs.declared.refusal.Refusal.{Refusal}
use Rattle.app_words.specs.declared.refusal.Refusal.TheVariants as refusals
use Rattle.app_answers.specs.declared.spoken.Spoken.{Spoken}
use Rattle.app_answers.specs.declared.spoken.Spoken.TheVariants.{Text, Said, Stuck, Captured}
use Rattle.kbd48_app.specs.Answers.{MayAnswer}
use Rattle.app_answers.specs.FileAnswers.{Answer}
use Rattle.app_words.specs.Refusals.{exit_of, line_of}
use Rattle.app_answers.specs.Says.{Says, exit_said, text_said}
use Rattle.app_answers.specs.Spoken.{Concludes, IsSaidAfter, IsSpoken, May, Prints}
use Rattle.app_answers.specs.Taking.{Taking, Whole, CutOff, taking_of}
use Rattle.kbd48_app.proofs.LogsAreLines.{lines_before}
use Rattle.kbd48_app.proofs.PlansEnd.{Ending}

-- no answer ends with Write
pub never_write : (answer : Answer) → exit_said answer ≡ exits.Write → ⊥
never_write answer h = grind arith

-- Read and Memory are the exits of one refusal each
pub memory_said : (answer : Answer) → exit_said answer ≡ exits.Memory → answer ≡ Err refusals.Memory
memory_said answer h = grind arith

-- a call exits with the status of a failed read only after a fetch failed
pub read_of : (result : Result Spoken Refusal) (y z : Shown) (exit : Exit)
    → Concludes result y z exit → exit ≡ exits.Read → result ≡ Err refusals.Read
read_of result y z exit h is = grind arith

-- after a fetch failed a call exits with the status of a failed read, or of a failed write
pub read_ends : (result : Result Spoken Refusal) (y z : Shown) (exit : Exit)
    → Concludes result y z exit → result ≡ Err refusals.Read → (exit ≡ exits.Read) ⊎ (exit ≡ exits.Write)
read_ends result y z exit h is = grind arith

-- what is said before an answer is of whole lines
abbrev AreLinesBefore : May → Type 0
AreLinesBefore may = (answer : Answer) (taking : Taking) (log : List ℕ) → may answer taking log → AreLines log

-- a call that ends so has said this answer after a log
abbrev Ended : May → Shown → Shown → Exit → Type 0
Ended may x z exit = (log : List ℕ) × (answer : Answer) × may answer (taking_of exit x z) log × Says log answer x z exit

-- all of it was taken, or it is broken off
taken_all : (may : May) (answer : Answer) (log : List ℕ) (x z : Shown) (exit whole : Exit) → taking_of whole x z ≡ Whole
    → exit ≡ whole → may answer Whole log → may answer (taking_of exit x z) log
taken_all may answer log x z exit whole all is h =
    subst (λ (t : Taking). may answer t log) (sym (ap (λ e. taking_of e x z) is ∙ all)) h

cut_off : (may : May) (answer : Answer) (log : List ℕ) (x z : Shown) (exit : Exit) → exit ≡ exits.Write
    → may answer (CutOff x z) log → may answer (taking_of exit x z) log
cut_off may answer log x z exit is h = subst (λ (t : Taking). may answer t log) (sym (ap (λ e. taking_of e x z) is)) h

-- no refusal's exit is that of a sink that failed
whole_taken : (refusal : Refusal) (x z : Shown) → taking_of (exit_of refusal) x z ≡ Whole
whole_taken refusal x z = grind arith

-- of a refusal after a log its line is said now
line_concluded : (may : May) → AreLinesBefore may → (refusal : Refusal) (x y z : Shown) (exit : Exit)
    → IsSaidAfter may (Err refusal) x y → Prints (line_of refusal) (exit_of refusal) y z exit → Ended may x z exit
line_concluded may lines refusal x y z exit h (inl same) =
    let answer : Answer = Err refusal in (
      h.0,
      answer,
      taken_all may answer h.0 x z exit (exit_of refusal) (whole_taken refusal x z) same.0 h.1,
      inl (same.0, said_then_said x y z h.0 (text_said answer) (lines answer Whole h.0 h.1) h.3 same.1),
    )
line_concluded may lines refusal x y z exit h (inr part) =
    let answer : Answer = Err refusal in (
      h.0,
      answer,
      cut_off may answer h.0 x z exit part.0 (h.2 z part.1),
      inr (part.0, said_then_broken x y z h.0 (text_said answer) (lines answer Whole h.0 h.1) h.3 part.1),
    )

-- what was said before, and what is said now
pub concluded : (may : May) → AreLinesBefore may → (result : Result Spoken Refusal) (x y z : Shown) (exit : Exit)
    → IsSpoken may result x y → Concludes result y z exit → Ended may x z exit
concluded may lines (Err refusal) x y z exit h k = (
  [],
  Err refusal,
  h.0 (taking_of exit x z),
  elim k [
    | inl same ↦ inl (same.0, subst (λ (v : Shown). IsSaid v z (line_of refusal)) h.1 same.1)
    | inr part ↦ inr (part.0, subst (λ (v : Shown). IsBrokenOff v z (line_of refusal)) h.1 part.1)
  ],
)
concluded may lines (Ok (Text text)) x y z exit h k = (
  [],
  Ok text.items,
  h.0 (taking_of exit x z),
  elim k [
    | inl same ↦ inl (same.0, subst (λ (v : Shown). IsSaid v z text.items) h.1 same.1)
    | inr part ↦ inr (part.0, subst (λ (v : Shown). IsBrokenOff v z text.items) h.1 part.1)
  ],
)
concluded may lines (Ok (Said (Ok done))) x y z exit h k = (
  h.1,
  Ok h.0,
  taken_all may (Ok h.0) h.1 x z exit exits.Done refl k.0 h.2,
  inl (k.0, subst (λ (v : Shown). IsSaid x v (h.1 ++ h.0)) (sym k.1) h.3),
)
concluded may lines (Ok (Said (Err fault))) x y z exit h k = (
  h.1,
  h.0,
  cut_off may h.0 h.1 x z exit k.0 (subst (λ (v : Shown). may h.0 (CutOff x v) h.1) (sym k.1) h.2),
  inr (k.0, subst (λ (v : Shown). IsBrokenOff x v (h.1 ++ text_said h.0)) (sym k.1) h.3),
)
concluded may lines (Ok (Stuck place)) x y z exit h k = line_concluded may lines (refusals.Stuck place) x y z exit h k
concluded may lines (Ok (Captured fault)) x y z exit h k =
    line_concluded may lines (refusals.Vcd fault.line fault.number) x y z exit h k

-- the same of words
abbrev pub MaySo : List (List ℕ) → Option Shelved → Option Shelved → List Watch → List Watch → May
MaySo words shelf after probes left answer taking log =
    MayAnswer words shelf answer after probes (record { probes = left; taking = taking; log = log })

-- an answer that was put, or is put now, ends the call as the top call says
pub has_ended : (words : List (List ℕ)) (shelf after : Option Shelved) (probes left : List Watch)
    (result : Result Spoken Refusal) (x y z : Shown) (exit : Exit)
    → IsSpoken (MaySo words shelf after probes left) result x y
    → Concludes result y z exit → Ending words shelf after probes left x z exit
has_ended words shelf after probes left result x y z exit h k =
    concluded (MaySo words shelf after probes left)
    (λ answer taking log may. lines_before words shelf answer after probes (record { probes = left; taking = taking; log = log }) may)
    result x y z exit h k

-- Write comes only where a put failed, and wherever one did
pub wrote : (log : List ℕ) (answer : Answer) (x z : Shown) (exit : Exit)
    → Says log answer x z exit → exit ≡ exits.Write → Rose x.faults z.faults
wrote log answer x z exit h is = elim h [ inl whole ↦ absurd (never_write answer (sym whole.0 ∙ is)) | inr part ↦ part.1.failed ]

-- if a put failed, the call exits with the status of a failed write
pub put_failed : (log : List ℕ) (answer : Answer) (x z : Shown) (exit : Exit)
    → Says log answer x z exit → x.faults < z.faults → exit ≡ exits.Write
put_failed log answer x z exit h more =
    elim h [
      | inl whole ↦ let same = whole.1.steady in absurd (omega (arith, same, more))
      | inr part ↦ part.0
    ]
