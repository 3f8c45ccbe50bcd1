use Rattle.std.proofs.Common.{◌≡◌, ℕ, Ok, sym, subst}
use Rattle.mcs48_core.specs.Cpu.{Cpu}
use Rattle.mcs48_core.specs.StateText.{state_text_of}
use Rattle.app_answers.specs.Answers.{MayAnswerOf}
use Rattle.app_answers.specs.FileAnswers.{Answer, run_said}
use Rattle.app_answers.specs.Stepping.{Progress, WentOn}
use Rattle.app_answers.proofs.stepping.step.Goals as goal

-- the text of the state at which the run is
shown_after : (progress : Progress) (count steps cycles : ℕ) (cpu : Cpu) (answer : Answer) → progress ≡ WentOn cpu cycles
    → steps ≡ count → MayAnswerOf (Ok (state_text_of cpu steps cycles)) answer → MayAnswerOf (run_said count progress) answer
shown_after progress count steps cycles cpu answer holds_so same may =
    subst (λ (p : Progress). MayAnswerOf (run_said count p) answer) (sym holds_so)
    (subst (λ (k : ℕ). MayAnswerOf (Ok (state_text_of cpu k cycles)) answer) same may)

pub returns-in-Ok : goal.returns-in-Ok
returns-in-Ok c = record { says = shown_after _ _ _ _ _ _ c.in-Ok.ensures.ran c.from.ensures c.shown.ensures.says }
