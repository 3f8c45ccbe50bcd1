-- What probes count in a session: the number of the steps whose state meets them, and the first of these.
use Rattle.std.specs.Prelude.{◌≡◌, ◌≤◌, ℕ, ◌-◌, ◌==◌, nat_lt, if◌then◌else◌}
use Rattle.std.specs.Prelude.{List, [], ◌∷◌, ◌++◌, map, slice_get, Some, None, Ok}
use Rattle.std.specs.Option.{option_and_then}
use Rattle.std.specs.declared.option.Option.{Option}
use Rattle.joint_feed.specs.Stories.{Story}
use Rattle.text_lines.specs.Fields.{is_blank_line}
use Rattle.debugger.specs.declared.command.Command.{Command}
use Rattle.debugger.specs.declared.command.Command.TheVariants.{Arm, Drop}
use Rattle.debugger.specs.Commands.{command_in}
use Rattle.debugger.specs.Obeyed.{lines_effect}
use Rattle.run_probes.specs.Probes.{Watch, armed}
use Rattle.run_probes.specs.Counts.{counted_between}
use Rattle.run_probes.specs.LooksLaw.{IsTally}
use Rattle.debugger.specs.Sessions.{Debug, Debuggee, walk, hunt}
use Rattle.debugger.specs.Effects.{LineEffect, obeyed}

-- each probe has looked at each state between the steps of one time in a session and those of another
pub record IsCounted (s : Story) (old new : Debug) : Type 0 where
  pub later : old.steps ≤ new.steps
  pub probes : new.probes ≡ map (counted_between s old.steps new.steps) old.probes

-- after the steps that a line `step` makes
abbrev pub WalkCounts : Type 0
WalkCounts = (s : Debuggee) (count : ℕ) (d : Debug) → IsCounted s.story d (walk s count d)

-- after those that a line `go` makes
abbrev pub HuntCounts : Type 0
HuntCounts = (s : Debuggee) (count : ℕ) (d : Debug) → IsCounted s.story d (hunt s count d).debug

-- the number that a probe has after a line; none if the line arms it or drops it
abbrev pub number_then : Command → ℕ → Option ℕ
number_then (Arm armed a b) probe = if armed == probe then None else Some probe
number_then (Drop dropped) probe =
    if dropped == probe then None else Some (if nat_lt dropped probe then probe - 1 else probe)
number_then command probe = Some probe

-- the number that it has after several lines
abbrev pub number_after : List Command → ℕ → Option ℕ
number_after [] probe = Some probe
number_after (command ∷ others) probe = option_and_then (number_after others) (number_then command probe)

-- a session after several lines
abbrev pub obeyed_all : Debuggee → List Command → Debug → Debug
obeyed_all s [] d = d
obeyed_all s (command ∷ others) d = obeyed_all s others (obeyed s command d).debug

-- a probe goes on counting through the lines of a session, until it is armed anew or dropped
abbrev pub LinesCount : Type 0
LinesCount = (s : Debuggee) (lines : List Command) (d : Debug) (probe later : ℕ) (watch : Watch)
    → slice_get d.probes probe ≡ Some watch → number_after lines probe ≡ Some later
    → slice_get (obeyed_all s lines d).probes later
    ≡ Some (counted_between s.story d.steps (obeyed_all s lines d).steps watch)

-- one that a line arms counts from there on, with the new arms
abbrev pub CountsSinceArmed : Type 0
CountsSinceArmed = (s : Debuggee) (lines : List Command) (d : Debug) (probe a b later : ℕ) (watch : Watch)
    → slice_get d.probes probe ≡ Some watch → number_after lines probe ≡ Some later
    → (now : Watch) × (slice_get (obeyed_all s (Arm probe a b ∷ lines) d).probes later ≡ Some now)
    × IsTally s.story d.steps (obeyed_all s lines (obeyed s (Arm probe a b) d).debug).steps (armed a b watch) now

-- what lines ask for, in their order; a blank one asks for nothing
abbrev pub asked_by : List ℕ → List Command
asked_by line = if is_blank_line line then [] else elim (command_in line) [ None ↦ [] | Some command ↦ command ∷ [] ]

abbrev pub asked : List (List ℕ) → List Command
asked [] = []
asked (line ∷ others) = asked_by line ++ asked others

-- the lines of a script, obeyed one after another, leave what they ask for leaves
abbrev pub LinesAreObeyed : Type 0
LinesAreObeyed = (s : Debuggee) (lines : List (List ℕ)) (d : Debug) (end : LineEffect)
    → lines_effect s lines d ≡ Ok end → end.debug ≡ obeyed_all s (asked lines) d
