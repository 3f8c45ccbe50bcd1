-- When a call can't be refused.
use Rattle.std.specs.Prelude.{◌≡◌, ◌⊎◌, ℕ, List, None, Some, Ok, Err}
use Rattle.std.specs.declared.option.Option.{Option}
use Rattle.cycle_cert.specs.Answers.{answer_of as certificate_said}
use Rattle.cycle_cert.specs.declared.checking.Proved.{Proved}
use Rattle.io_edge.specs.Shelf.{Shelved, Found, after_fetch, fetched}
use Rattle.capture_vcd.specs.Reads.{reads_of}
use Rattle.law_typed_log.specs.Typing.{first_without}
use Rattle.app_words.specs.declared.exit.Exit.{Exit}
use Rattle.app_words.specs.declared.exit.Exit.TheVariants.{Done, Memory, Stuck}
use Rattle.app_words.specs.declared.refusal.Refusal.TheVariants.{Stuck as StuckAt}
use Rattle.app_words.specs.declared.words.Command.{Command}
use Rattle.app_words.specs.declared.words.Command.TheVariants.{OverFile, Board}
use Rattle.app_words.specs.declared.words.FileCommand.TheVariants.{Step}
use Rattle.app_boards.specs.Debugging.{script_fault}
use Rattle.app_words.specs.Kinds.{limit_of}
use Rattle.app_answers.specs.FileAnswers.{Answer}
use Rattle.kbd48_app.specs.Plans.{Plan, Gives, Certifies, Spells, Debugs, Captures, Follows, Fetches, plan}

-- what is said is a text; or, in `step`, that a byte without an instruction was met, which is no fault of a file
abbrev pub IsNoFault : Answer → Type 0
IsNoFault (Ok text) = Unit {0}
IsNoFault (Err (StuckAt place)) = Unit {0}
IsNoFault (Err refusal) = ⊥

-- nothing is in a plan's way, if there are so many probes: the shelf tells its files, each file that the plan
-- fetches is there within its limit, and none has a fault: what is said of the files is no refusal, a certificate is
-- found right, a text has a key for each byte, and a script and a dump break no rule
abbrev pub IsServed : ℕ → Plan → Option Shelved → Type 0
IsServed probes (Fetches kind name next) None = ⊥
IsServed probes (Fetches kind name next) (Some shelf) =
    (bytes : List ℕ) × (fetched shelf name (limit_of kind) ≡ Found bytes)
    × IsServed probes (next bytes) (Some (after_fetch shelf))
IsServed probes (Gives said) shelf = IsNoFault said
IsServed probes (Certifies image text) shelf = (proved : Proved) × (certificate_said image text ≡ Ok proved)
IsServed probes (Spells layout text) shelf = first_without layout text ≡ None
IsServed probes (Debugs s script) shelf = script_fault probes script ≡ None
IsServed probes (Captures clk dat dump) shelf = (reads_of clk dat dump).fault ≡ None
IsServed probes (Follows layout clk dat dump) shelf = (reads_of clk dat dump).fault ≡ None
IsServed probes leaf shelf = Unit {0}

-- the words have a form, and what they plan is served
abbrev pub IsFaultless : ℕ → List (List ℕ) → Option Shelved → Type 0
IsFaultless probes words shelf = IsServed probes (plan words) shelf

-- the exits that are left then: all was done, memory ran out, or, in `step` and `board` alone, a byte without an
-- instruction was met
abbrev pub IsLeft : Option Command → Exit → Type 0
IsLeft (Some (OverFile (Step count))) exit = (exit ≡ Done) ⊎ (exit ≡ Memory) ⊎ (exit ≡ Stuck)
IsLeft (Some (Board wanted)) exit = (exit ≡ Done) ⊎ (exit ≡ Memory) ⊎ (exit ≡ Stuck)
IsLeft command exit = (exit ≡ Done) ⊎ (exit ≡ Memory)
