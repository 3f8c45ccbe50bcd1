-- `run` and `expect` over the same two files.
use Rattle.std.specs.Prelude.{◌≡◌, ◌⊎◌, ℕ, List, [], ◌∷◌, Some, Ok, Err, codes}
use Rattle.std.specs.declared.option.Option.{Option}
use Rattle.run_probes.specs.Probes.{Watch}
use Rattle.io_edge.specs.Shelf.{Shelved}
use Rattle.app_answers.specs.Leaving.{Left}
use Rattle.kbd48_app.specs.Answers.{MayAnswer}
use Rattle.app_answers.specs.FileAnswers.{Answer}
use Rattle.app_answers.specs.Taking.{Whole}
use Rattle.app_words.specs.declared.refusal.Refusal.TheVariants.{Memory}

-- `run` LAYOUT KEYS, and `expect` LAYOUT KEYS
abbrev pub run_words : List ℕ → List ℕ → List (List ℕ)
run_words layout keys = codes "run" ∷ layout ∷ keys ∷ []

abbrev pub expect_words : List ℕ → List ℕ → List (List ℕ)
expect_words layout keys = codes "expect" ∷ layout ∷ keys ∷ []

-- all that a call had to say was taken, nothing was said before its answer, and it leaves the probes so
abbrev pub leaving : List Watch → Left
leaving probes = record { probes = probes; taking = Whole; log = [] }

-- what one of them may answer, over any shelf and with any probes, the other may; an answer with a text leaves the
-- probes alike. If memory runs out, `run` leaves them as they were, and `expect` after the first steps of its run.
-- Over a shelf whose files are known both print one text, whether all of it was taken or not
pub record AnswerAlike (layout keys : List ℕ) : Type 0 where
  pub expected : (shelf : Option Shelved) (answer : Answer) (after : Option Shelved) (probes left : List Watch)
      → MayAnswer (run_words layout keys) shelf answer after probes (leaving left)
      → MayAnswer (expect_words layout keys) shelf answer after probes (leaving left)
  pub ran : (shelf : Option Shelved) (answer : Answer) (after : Option Shelved) (probes left : List Watch)
      → MayAnswer (expect_words layout keys) shelf answer after probes (leaving left)
      → (kept : List Watch) × MayAnswer (run_words layout keys) shelf answer after probes (leaving kept)
      × ((kept ≡ left) ⊎ (answer ≡ Err Memory))
  pub one : (shelf : Shelved) (ran expected : List ℕ) (after later : Option Shelved) (probes : List Watch)
      (left others : Left)
      → MayAnswer (run_words layout keys) (Some shelf) (Ok ran) after probes left
      → MayAnswer (expect_words layout keys) (Some shelf) (Ok expected) later probes others → ran ≡ expected

-- so it is whatever the files are
abbrev pub RunAndExpectPrintAlike : Type 0
RunAndExpectPrintAlike = (layout keys : List ℕ) → AnswerAlike layout keys
