-- An exit and its cause, of a shelf whose files are known, where there are so many probes.
use Rattle.std.proofs.Common.{◌≡◌, ◌⊎◌, ℕ, true, false, List, None, refl}
use Rattle.std.specs.declared.option.Option.{Option}
use Rattle.io_edge.specs.Shelf.{Shelved, Fetched, Fails, Long, Found, after_fetch, fetched}
use Rattle.app_words.specs.declared.exit.Exit.{Exit}
use Rattle.app_words.specs.declared.exit.Exit.TheVariants.{Done, Words, Input, Timing, Read, Write, Memory, Stuck}
use Rattle.app_words.specs.declared.kind.Kind.{Kind}
use Rattle.app_words.specs.declared.words.Command.{Command}
use Rattle.app_words.specs.Kinds.{limit_of}
use Rattle.kbd48_app.specs.Answers.{OnFetched}
use Rattle.kbd48_app.specs.Causes.{HasFileFault, IsStuck, IsUntimely}
use Rattle.kbd48_app.specs.Plans.{Plan, Fetches}
use Rattle.kbd48_app.specs.Reached.{IsUnserved, Reads, may_lack, on_fetched}

abbrev pub IsCaused : ℕ → Option Command → Plan → Shelved → Exit → Type 0
IsCaused n command plan shelf Done = Unit {0}
IsCaused n command plan shelf Words = command ≡ None
IsCaused n command plan shelf Input = HasFileFault n plan shelf
IsCaused n command plan shelf Timing = IsUntimely plan shelf
IsCaused n command plan shelf Read = IsUnserved plan shelf
IsCaused n command plan shelf Write = ⊥
IsCaused n command plan shelf Memory = may_lack plan shelf ≡ true
IsCaused n command plan shelf Stuck = IsStuck command plan shelf

-- where a file is read memory may be lacking
lack_by : (on : List ℕ → Type 0) (outcome : Fetched)
    → OnFetched ⊥ ⊥ on outcome → on_fetched false false (λ bytes. true) outcome ≡ true
lack_by on Fails h = absurd h
lack_by on Long h = absurd h
lack_by on (Found bytes) h = refl

-- a plan that reads a file may run out of memory
pub lacks : (plan : Plan) (shelf : Shelved) (kind : Kind) (file : List ℕ) → Reads kind file plan shelf → may_lack plan shelf ≡ true
lacks (Fetches first name next) shelf kind file h =
    lack_by (λ bytes. ((first ≡ kind) × (bytes ≡ file)) ⊎ Reads kind file (next bytes) (after_fetch shelf))
    (fetched shelf name (limit_of first)) h
lacks leaf shelf kind file h = refl
