-- What a call leaves, and how a run leaves the probes that look at it.
use Rattle.std.specs.Prelude.{◌≡◌, ℕ, List, [], Ok, Err}
use Rattle.std.specs.declared.result.Result.{Result}
use Rattle.run_probes.specs.Looks.{looks}
use Rattle.run_probes.specs.Probes.{Watch}
use Rattle.joint_feed.specs.Stories.{Story}
use Rattle.key_file.specs.Histories.{KeyHistory}
use Rattle.key_file.specs.declared.fault.KeyFault.{KeyFault}
use Rattle.app_answers.specs.Answers.{MayAnswerOf}
use Rattle.app_answers.specs.FileAnswers.{Answer, keys_refusal}
use Rattle.app_answers.specs.Taking.{Taking}

-- what a call leaves: the probes, how much the sink has taken of all that it had to say, and what it said before
-- its answer, which is the log of a run on the board, or its trace, and else nothing
pub record Left : Type 0 where
  pub probes : List Watch
  pub taking : Taking
  pub log : List ℕ

-- each probe has looked at the state after each of so many steps, in their order
abbrev pub HaveLookedAtAll : Story → ℕ → List Watch → List Watch → Type 0
HaveLookedAtAll s steps probes left = left ≡ looks s steps probes

-- what may be said of a key file: of its history, or, of its first fault, the refusal, which leaves the probes as they were
abbrev pub OfHistory : (KeyHistory → Answer → Left → Type 0) → Result KeyHistory KeyFault → Answer → List Watch → Left → Type 0
OfHistory may (Ok history) answer probes left = may history answer left
OfHistory may (Err fault) answer probes left =
    MayAnswerOf (Err (keys_refusal fault)) answer × (left.probes ≡ probes) × (left.log ≡ [])
