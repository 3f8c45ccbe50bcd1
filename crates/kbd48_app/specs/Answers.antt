-- How a plan ends over a shelf: with which answer, after which fetches, and how it leaves the probes that are handed
-- in.
use Rattle.std.specs.Prelude.{◌≡◌, ◌⊎◌, ℕ, List, [], None, Some, Err}
use Rattle.std.specs.Option.{option_map}
use Rattle.std.specs.declared.option.Option.{Option}
use Rattle.run_probes.specs.Probes.{Watch}
use Rattle.io_edge.specs.Shelf.{Shelved, Fetched, Fails, Long, Found, after_fetch}
use Rattle.app_words.specs.declared.refusal.Refusal.TheVariants.{Words, Read, TooLong, Memory}
use Rattle.app_words.specs.declared.words.Command.{Command}
use Rattle.app_words.specs.Kinds.{limit_of}
use Rattle.app_answers.specs.FileAnswers.{Answer}
use Rattle.kbd48_app.specs.Plans.{Plan, plan_of, Gives, Certifies, Spells, Runs, Boards, Samples, Debugs, Captures, Follows, Fetches}
use Rattle.app_words.specs.Words.{command_of}
use Rattle.app_answers.specs.Answers.{MayAnswerCert, MayAnswerOf, MayAnswerText}
use Rattle.app_answers.specs.Captures.{MayAnswerCapture, MayAnswerTyped}
use Rattle.app_answers.specs.Fetching.{MayFetch}
use Rattle.app_answers.specs.Leaving.{Left}
use Rattle.app_boards.specs.BoardAnswers.{MayAnswerBoard}
use Rattle.app_boards.specs.SessionAnswers.{MayAnswerDebug}
use Rattle.app_runs.specs.RunAnswers.{MayAnswerRun, MayAnswerSample}

-- a case for each thing that a fetch may come to
abbrev pub OnFetched : Type 0 → Type 0 → (List ℕ → Type 0) → Fetched → Type 0
OnFetched fails long found Fails = fails
OnFetched fails long found Long = long
OnFetched fails long found (Found bytes) = found bytes

-- the shelf has come so far, the probes are as they were, and nothing was said before the answer
abbrev pub IsKept : Option Shelved → Option Shelved → List Watch → Left → Type 0
IsKept on after probes left = (after ≡ on) × (left.probes ≡ probes) × (left.log ≡ [])

-- how a plan may end over a shelf, which shows `after` when it has ended, and with probes, which are `left` then: a
-- fetch that fails, or finds too many bytes, ends it; if one finds a file, memory may run out for it, and else
-- the plan goes on. The probes are left as they are, but by a run and a session
abbrev pub MayEnd : Plan → Option Shelved → Answer → Option Shelved → List Watch → Left → Type 0
MayEnd (Gives said) shelf answer after probes left = MayAnswerOf said answer × IsKept shelf after probes left
MayEnd (Certifies image text) shelf answer after probes left =
    MayAnswerCert image text answer × IsKept shelf after probes left
MayEnd (Spells layout text) shelf answer after probes left =
    MayAnswerText layout text answer × IsKept shelf after probes left
MayEnd (Runs command layout history) shelf answer after probes left =
    MayAnswerRun command layout history answer probes left × (after ≡ shelf) × (left.log ≡ [])
MayEnd (Boards wanted image history) shelf answer after probes left =
    MayAnswerBoard wanted image history answer probes left × (after ≡ shelf)
MayEnd (Samples count debounced) shelf answer after probes left =
    MayAnswerSample count debounced answer probes left.probes × (after ≡ shelf) × (left.log ≡ [])
MayEnd (Debugs s script) shelf answer after probes left =
    MayAnswerDebug s script answer probes left × (after ≡ shelf) × (left.log ≡ [])
MayEnd (Captures clk dat dump) shelf answer after probes left =
    MayAnswerCapture clk dat dump answer left.log × (after ≡ shelf) × (left.probes ≡ probes)
MayEnd (Follows layout clk dat dump) shelf answer after probes left =
    MayAnswerTyped layout clk dat dump answer × IsKept shelf after probes left
MayEnd (Fetches kind name next) shelf answer after probes left =
    let on = option_map after_fetch shelf in
    (outcome : Fetched) × MayFetch shelf name (limit_of kind) outcome
    × OnFetched
    ((answer ≡ Err Read) × IsKept on after probes left)
    ((answer ≡ Err (TooLong kind)) × IsKept on after probes left)
    (λ bytes. ((answer ≡ Err Memory) × IsKept on after probes left) ⊎ MayEnd (next bytes) on answer after probes left)
    outcome

-- how a call with these words may end: words without a form are refused
abbrev pub MayEndAs : Option Command → List (List ℕ) → Option Shelved → Answer → Option Shelved → List Watch → Left → Type 0
MayEndAs None words shelf answer after probes left = (answer ≡ Err Words) × IsKept shelf after probes left
MayEndAs (Some command) words shelf answer after probes left =
    MayEnd (plan_of (Some command) words) shelf answer after probes left

abbrev pub MayAnswer : List (List ℕ) → Option Shelved → Answer → Option Shelved → List Watch → Left → Type 0
MayAnswer words shelf answer after probes left = MayEndAs (command_of words) words shelf answer after probes left
