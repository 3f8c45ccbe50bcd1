-- What the program ensures, with the probes named.
use Rattle.std.proofs.Common.{ℕ, ◌≡◌, List, Some}
use Rattle.std.proofs.Math.Path.{subst}
use Rattle.std.specs.declared.option.Option.{Option}
use Rattle.io_edge.specs.MemorySink.{HeldBytes}
use Rattle.io_edge.specs.Shelf.{Shelved}
use Rattle.run_probes.specs.Probes.{Watch}
use Rattle.kbd48_app.specs.Answers.{MayAnswer}
use Rattle.app_answers.specs.FileAnswers.{Answer}
use Rattle.app_answers.specs.Says.{Says}
use Rattle.app_answers.specs.Taking.{taking_of}
use Rattle.app_words.specs.declared.exit.Exit.{Exit}
use Rattle.kbd48_call.specs.Calls.{HasSaid, shown}

-- of probes that are these
pub has_said : (words : List (List ℕ)) → (shelf : Shelved) → (after : Option Shelved) → (probes these left : List Watch)
    → (first last : HeldBytes) → (exit : Exit) → probes ≡ these
    → ((log : List ℕ) × (answer : Answer) × MayAnswer words (Some shelf) answer after probes
    (record { probes = left; taking = taking_of exit (shown first) (shown last); log = log })
    × Says log answer (shown first) (shown last) exit)
    → HasSaid words shelf these first last exit
has_said words shelf after probes these left first last exit same said =
    subst (λ (it : List Watch). HasSaid words shelf it first last exit) same (record {
      log = said.0;
      answer = said.1;
      after = after;
      left = left;
      may = said.2;
      says = said.3;
    })
