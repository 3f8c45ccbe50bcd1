-- Two commands over a layout and a key file that differ only in what they say of the run.
use Rattle.std.proofs.Common.{◌≡◌, ◌⊎◌, ℕ, List, Err, inl, inr}
use Rattle.std.specs.Option.{option_map}
use Rattle.std.specs.declared.option.Option.{Option}
use Rattle.run_probes.specs.Probes.{Watch}
use Rattle.io_edge.specs.Shelf.{Shelved, Fetched, Fails, Long, Found, after_fetch}
use Rattle.key_file.specs.Histories.{KeyHistory}
use Rattle.layout_reader.specs.Layouts.{KeyLayout}
use Rattle.app_words.specs.declared.kind.Kind.{Kind}
use Rattle.app_words.specs.declared.refusal.Refusal.TheVariants.{Read, TooLong, Memory}
use Rattle.app_words.specs.declared.words.PairCommand.TheVariants.{OverRun}
use Rattle.app_words.specs.declared.words.RunCommand.{RunCommand}
use Rattle.kbd48_app.specs.Answers.{IsKept, MayEnd, OnFetched}
use Rattle.app_runs.specs.RunAnswers.{MayAnswerRun}
use Rattle.app_answers.specs.Fetching.{MayFetch}
use Rattle.app_words.specs.Kinds.{limit_of}
use Rattle.kbd48_app.specs.PrintAlike.{leaving}
use Rattle.app_answers.specs.FileAnswers.{Answer}
use Rattle.kbd48_app.specs.Plans.{Plan, Fetches, Runs, pair_plan}
use Rattle.kbd48_app.proofs.PlansTogether.{histories}

-- one plan may end with what another may, over `R`, which says of an answer how the probes are left by the other and by it
abbrev pub EndsAlike : (Answer → List Watch → List Watch → Type 0) → Plan → Plan → Type 0
EndsAlike R p q = (shelf : Option Shelved) (answer : Answer) (after : Option Shelved) (probes left : List Watch)
    → MayEnd p shelf answer after probes (leaving left)
    → (kept : List Watch) × MayEnd q shelf answer after probes (leaving kept) × R answer kept left

module _ (R : Answer → List Watch → List Watch → Type 0) (same : (answer : Answer) (left : List Watch) → R answer left left) where
  -- after a fetch
  fetch_by : (kind : Kind) (name : List ℕ) (next other : List ℕ → Plan) → ((bytes : List ℕ) → EndsAlike R (next bytes) (other bytes))
      → (shelf : Option Shelved) (answer : Answer) (after : Option Shelved) (probes left : List Watch) (outcome : Fetched)
      → MayFetch shelf name (limit_of kind) outcome
      → OnFetched ((answer ≡ Err Read) × IsKept (option_map after_fetch shelf) after probes (leaving left))
      ((answer ≡ Err (TooLong kind)) × IsKept (option_map after_fetch shelf) after probes (leaving left))
      (λ bytes. ((answer ≡ Err Memory) × IsKept (option_map after_fetch shelf) after probes (leaving left))
      ⊎ MayEnd (next bytes) (option_map after_fetch shelf) answer after probes (leaving left)) outcome
      → (kept : List Watch) × MayEnd (Fetches kind name other) shelf answer after probes (leaving kept) × R answer kept left
  fetch_by kind name next other h shelf answer after probes left Fails may e = (left, (Fails, may, e), same answer left)
  fetch_by kind name next other h shelf answer after probes left Long may e = (left, (Long, may, e), same answer left)
  fetch_by kind name next other h shelf answer after probes left (Found bytes) may e =
      elim e [
        | inl none ↦ (left, (Found bytes, may, inl none), same answer left)
        | inr more ↦ let k = h bytes (option_map after_fetch shelf) answer after probes left more in (k.0, (Found bytes, may, inr k.1), k.2)
      ]

  fetch_alike : (kind : Kind) (name : List ℕ) (next other : List ℕ → Plan) → ((bytes : List ℕ) → EndsAlike R (next bytes) (other bytes))
      → EndsAlike R (Fetches kind name next) (Fetches kind name other)
  fetch_alike kind name next other h shelf answer after probes left e =
      fetch_by kind name next other h shelf answer after probes left e.0 e.1 e.2

  -- two commands that may answer alike for each layout and history end alike over the same two files
  pub pairs_alike : (c d : RunCommand)
      → ((layout : KeyLayout) (history : KeyHistory) (answer : Answer) (probes left : List Watch)
      → MayAnswerRun c layout history answer probes (leaving left)
      → (kept : List Watch) × MayAnswerRun d layout history answer probes (leaving kept) × R answer kept left)
      → (layout keys : List ℕ) → EndsAlike R (pair_plan (OverRun c) layout keys) (pair_plan (OverRun d) layout keys)
  pairs_alike c d h = histories (EndsAlike R) fetch_alike (λ refusal other shelf answer after probes left e. (left, e, same answer left))
      (Runs c) (Runs d)
      (λ layout history shelf answer after probes left e.
      let k = h layout history answer probes left e.0 in (k.0, (k.1, e.1, e.2), k.2))
