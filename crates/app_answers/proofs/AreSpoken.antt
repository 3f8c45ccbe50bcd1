-- From what may be answered to what may be said.
use Rattle.std.proofs.Common.{◌≡◌, ℕ, List, [], Global, Ok, Err, inr, ap, refl, sym, subst, ◌∙◌}
use Rattle.std.specs.Result.{IsErrAnd}
use Rattle.std.specs.declared.result.Result.{Result}
use Rattle.std.specs.declared.vec.Vec.{Vec}
use Rattle.run_probes.specs.Probes.{Watch}
use Rattle.io_edge.specs.Said.{Shown}
use Rattle.key_file.specs.Histories.{KeyHistory}
use Rattle.key_file.specs.declared.fault.KeyFault.{KeyFault}
use Rattle.app_words.specs.declared.refusal.Refusal.{Refusal}
use Rattle.app_words.specs.declared.refusal.Refusal.TheVariants as refusals
use Rattle.app_answers.specs.declared.spoken.Spoken.{Spoken}
use Rattle.app_answers.specs.declared.spoken.Spoken.TheVariants.{Text, Said, Stuck, Captured}
use Rattle.app_answers.specs.Answers.{answer_of}
use Rattle.app_answers.specs.FileAnswers.{Answer, keys_refusal}
use Rattle.app_answers.specs.Leaving.{Left, OfHistory}
use Rattle.app_answers.specs.Spoken.{IsSpoken, May, still_to_say}
use Rattle.app_answers.specs.Taking.{Taking, Whole, CutOff}

-- how the probes are left, and what was said before the answer
abbrev pub left_after : List Watch → Taking → List ℕ → Left
left_after probes taking log = record { probes = probes; taking = taking; log = log }

abbrev pub left_so : List Watch → Taking → Left
left_so probes taking = left_after probes taking []

-- what one thing may say, another may
pub spoken_on : (P Q : May) → ((answer : Answer) (taking : Taking) (log : List ℕ) → P answer taking log → Q answer taking log)
    → (result : Result Spoken Refusal) (x y : Shown) → IsSpoken P result x y → IsSpoken Q result x y
spoken_on P Q on (Err refusal) x y h = (λ taking. on (Err refusal) taking [] (h.0 taking), h.1)
spoken_on P Q on (Ok (Text said)) x y h = (λ taking. on (Ok said.items) taking [] (h.0 taking), h.1)
spoken_on P Q on (Ok (Said (Ok done))) x y h = (h.0, h.1, on (Ok h.0) Whole h.1 h.2, h.3)
spoken_on P Q on (Ok (Said (Err fault))) x y h = (h.0, h.1, on h.0 (CutOff x y) h.1 h.2, h.3)
spoken_on P Q on (Ok (Stuck place)) x y h =
    let answer : Answer = Err (refusals.Stuck place) in
    (h.0, on answer Whole h.0 h.1, λ later broken. on answer (CutOff x later) h.0 (h.2 later broken), h.3)
spoken_on P Q on (Ok (Captured fault)) x y h =
    let answer : Answer = Err (refusals.Vcd fault.line fault.number) in
    (h.0, on answer Whole h.0 h.1, λ later broken. on answer (CutOff x later) h.0 (h.2 later broken), h.3)

-- nothing of it is said yet
unsaid : (may : May) (said : Result (Vec ℕ Global) Refusal) (x : Shown)
    → ((taking : Taking) → may (answer_of said) taking []) → IsSpoken may (still_to_say said) x x
unsaid may (Ok text) x h = (h, refl)
unsaid may (Err refusal) x h = (h, refl)

-- an answer of which nothing is said yet may be said later, as it may be answered
pub unsaid_so : (may : May) (said : Result (Vec ℕ Global) Refusal) (result : Result Spoken Refusal) (x : Shown) → result ≡ still_to_say said
    → ((taking : Taking) → may (answer_of said) taking []) → IsSpoken may result x x
unsaid_so may said result x is h = subst (λ (r : Result Spoken Refusal). IsSpoken may r x x) (sym is) (unsaid may said x h)

-- a key file with a fault is refused, and nothing is said yet
module _ (may : KeyHistory → Answer → Left → Type 0) (outcome : Result KeyHistory KeyFault) where
  refused : (fault : KeyFault) (refusal : Refusal) (probes : List Watch) (taking : Taking) → outcome ≡ Err fault
      → refusal ≡ keys_refusal fault → OfHistory may outcome (Err refusal) probes (left_so probes taking)
  refused fault refusal probes taking is same =
      subst (λ (o : Result KeyHistory KeyFault). OfHistory may o (Err refusal) probes (left_so probes taking)) (sym is)
      (inr (ap (λ (r : Refusal). Err r) same), refl, refl)

  -- a key file with a fault is refused, and nothing is said yet
  pub keys_refused : (refusal : Refusal) (probes : List Watch) (result : Result Spoken Refusal) (x : Shown)
      → (fault : KeyFault) × (outcome ≡ Err fault) × (refusal ≡ keys_refusal fault)
      → IsErrAnd result (λ (r : Refusal). r ≡ refusal)
      → IsSpoken (λ answer taking log. OfHistory may outcome answer probes (left_after probes taking log)) result x x
  keys_refused refusal probes (Ok said) x h same = absurd same
  keys_refused refusal probes (Err r) x h same = (λ taking. refused h.0 r probes taking h.1 (same ∙ h.2), refl)

  -- of any other the run is made
  pub with_history : (history : KeyHistory) (answer : Answer) (probes : List Watch) (left : Left) → outcome ≡ Ok history
      → may history answer left → OfHistory may outcome answer probes left
  with_history history answer probes left is h =
      subst (λ (o : Result KeyHistory KeyFault). OfHistory may o answer probes left) (sym is) h
