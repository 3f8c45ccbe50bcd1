-- The verdict on a script, and what is answered of it.
use Rattle.std.proofs.Common.{◌≡◌, ℕ, List, [], length, Global, None, Ok, Err, inl, inr, refl, ap, sym, subst, ◌∙◌}
use Rattle.std.specs.Prelude.{MatchResult}
use Rattle.std.specs.declared.option.Option.{Option}
use Rattle.std.specs.declared.result.Result.{Result}
use Rattle.std.specs.declared.vec.Vec.{Vec}
use Rattle.debugger.specs.declared.rule.SessionFault.{SessionFault}
use Rattle.debugger.specs.Faults.{IsRight, IsVerdict}
use Rattle.debugger.specs.Obeyed.{IsObeyed, IsObeyedInPart}
use Rattle.run_probes.specs.Probes.{Watch}
use Rattle.debugger.specs.Scripts.{number_of, script_of}
use Rattle.debugger.specs.Sessions.{Debuggee}
use Rattle.app_words.specs.declared.refusal.Refusal.{Refusal}
use Rattle.app_words.specs.declared.refusal.Refusal.TheVariants as refusals
use Rattle.app_boards.specs.SessionAnswers.{MayAnswerSession}
use Rattle.app_answers.specs.Answers.{answer_of}
use Rattle.app_boards.specs.Debugging.{fault_in, script_fault, script_refusal}
use Rattle.app_answers.specs.Taking.{Taking}

-- a script's first fault is refused
pub refused_so : (taking : Taking) (n : ℕ) (s : Debuggee) (script : List ℕ) (probes : List Watch) (verdict : Result (Unit {0}) SessionFault)
    (fault : SessionFault) (refusal : Refusal) → n ≡ length probes → verdict ≡ Err fault → refusal ≡ script_refusal fault
    → IsVerdict (script_of n script) verdict
    → MayAnswerSession (script_fault (length probes) script) s script (Err refusal) probes
    (record { probes = probes; taking = taking; log = [] })
refused_so taking n s script probes verdict fault refusal same is refused judged =
    subst (λ (k : ℕ).
    MayAnswerSession (script_fault k script) s script (Err refusal) probes (record { probes = probes; taking = taking; log = [] })) same
    ((elim (script_of n script) as (λ o. IsVerdict o (Err fault)
    → MayAnswerSession (fault_in number_of o) s script (Err refusal) probes (record { probes = probes; taking = taking; log = [] })) [
      | Ok left ↦ λ h. absurd h
      | Err first ↦ λ h. (ap (λ (r : Refusal). Err r) (refused ∙ ap script_refusal h), refl)
    ]) (subst (λ (v : Result (Unit {0}) SessionFault). IsVerdict (script_of n script) v) is judged))

-- any other script is right
pub right_by : (n : ℕ) (script : List ℕ) (verdict : Result (Unit {0}) SessionFault)
    → verdict ≡ Ok tt → IsVerdict (script_of n script) verdict → IsRight n script
right_by n script verdict is judged = subst (λ (v : Result (Unit {0}) SessionFault). IsVerdict (script_of n script) v) is judged

no_fault : (n : ℕ) (script : List ℕ) → IsRight n script → script_fault n script ≡ None
no_fault n script =
    elim (script_of n script) as (λ o. IsVerdict o (Ok tt) → fault_in number_of o ≡ None) [
      | Ok left ↦ λ h. refl
      | Err first ↦ λ h. absurd h
    ]

said_of : (taking : Taking) (s : Debuggee) (script : List ℕ) (probes left : List Watch) (result : Result (Vec ℕ Global) Refusal)
    → MatchResult result (λ text. IsObeyed s script probes text.items left) (λ refusal. refusal ≡ refusals.Memory)
    → IsObeyedInPart s script probes left
    → MayAnswerSession None s script (answer_of result) probes (record { probes = left; taking = taking; log = [] })
said_of taking s script probes left (Ok text) h part = inr (text.items, h, refl)
said_of taking s script probes left (Err refusal) h part = inl (ap (λ (r : Refusal). Err r) h, part)

-- of such a one all lines are obeyed, or memory was lacking, and the first ones were
pub said_so : (taking : Taking) (n : ℕ) (s : Debuggee) (script : List ℕ) (probes left : List Watch) (result : Result (Vec ℕ Global) Refusal)
    → n ≡ length probes → IsRight n script
    → MatchResult result (λ text. IsObeyed s script probes text.items left) (λ refusal. refusal ≡ refusals.Memory)
    → IsObeyedInPart s script probes left
    → MayAnswerSession (script_fault (length probes) script) s script (answer_of result) probes
    (record { probes = left; taking = taking; log = [] })
said_so taking n s script probes left result same right h part =
    let none : script_fault (length probes) script ≡ None =
    subst (λ (k : ℕ). script_fault k script ≡ None) same (no_fault n script right) in
    subst (λ (f : Option (ℕ × ℕ)).
    MayAnswerSession f s script (answer_of result) probes (record { probes = left; taking = taking; log = [] }))
    (sym none) (said_of taking s script probes left result h part)
