-- What a line of a script does in a session, and what it prints.
use Rattle.std.specs.Prelude.{ℕ, zero, suc, Bool, List, [], ◌∷◌, ◌++◌, length, codes, slice_get, slice_index}
use Rattle.std.specs.Prelude.{Some, None, Ok, if◌then◌else◌}
use Rattle.std.specs.Fmt.{decimal}
use Rattle.std.specs.List.{remove}
use Rattle.std.specs.declared.option.Option.{Option}
use Rattle.std.specs.declared.result.Result.{Result}
use Rattle.first_fault.specs.FirstFault.{and_then}
use Rattle.hex_text.specs.Digits.{hex_byte}
use Rattle.joint_run.specs.Joint.{Beside}
use Rattle.joint_run.specs.Run.{World}
use Rattle.joint_feed.specs.Stories.{state_at}
use Rattle.mcs48_core.specs.StateText.{state_text_of}
use Rattle.text_lines.specs.Fields.{is_blank_line}
use Rattle.debugger.specs.declared.command.Command.{Command}
use Rattle.debugger.specs.declared.command.Command.TheVariants.{Step, Go, Show, Ram, Arm, Tell, Drop}
use Rattle.debugger.specs.declared.rule.Rule.{Rule}
use Rattle.run_probes.specs.Probes.{Watch, armed}
use Rattle.debugger.specs.Scripts.{judged}
use Rattle.debugger.specs.Sessions.{Debug, Debuggee, has_ended, walk, hunt}

-- `at STEP`, with ` end` if the run has ended
abbrev pub at_text : ℕ → Bool → List ℕ
at_text steps ended = codes "at " ++ decimal steps ++ (if ended then codes " end" else []) ++ 10 ∷ []

-- `hit P at STEP`
abbrev pub hit_text : ℕ → ℕ → List ℕ
hit_text probe steps = codes "hit " ++ decimal probe ++ codes " at " ++ decimal steps ++ 10 ∷ []

-- `ram AA VV`
abbrev pub ram_text : ℕ → ℕ → List ℕ
ram_text cell value = codes "ram " ++ hex_byte cell ++ codes " " ++ hex_byte value ++ 10 ∷ []

-- a word and a number, as `armed P` and `dropped P`
abbrev pub number_text : List ℕ → ℕ → List ℕ
number_text word number = word ++ decimal number ++ 10 ∷ []

-- a first step, or `none`
abbrev pub first_text : Option ℕ → List ℕ
first_text None = codes "none"
first_text (Some step) = decimal step

-- `probe P count N first M`
abbrev pub tally_text : ℕ → ℕ → Option ℕ → List ℕ
tally_text probe count first =
    codes "probe " ++ decimal probe ++ codes " count " ++ decimal count
    ++ codes " first " ++ first_text first ++ 10 ∷ []

-- what a line does and prints
pub record LineEffect : Type 0 where
  pub debug : Debug
  pub text : List ℕ

abbrev pub effect_of : Debug → List ℕ → LineEffect
effect_of d text = record { debug = d; text = text }

-- after steps the line says where they led, and which probe was hit there, or else whether the run has ended
abbrev pub steps_text : Debuggee → ℕ → Option ℕ → List ℕ
steps_text s steps None = at_text steps (has_ended s steps)
steps_text s steps (Some probe) = hit_text probe steps

-- a state's text, and a place of its data memory
abbrev pub shown : ℕ → Option (World Beside) → List ℕ
shown steps None = []
shown steps (Some w) = state_text_of w.cpu steps w.cycle

abbrev pub cell_shown : ℕ → Option (World Beside) → List ℕ
cell_shown cell None = []
cell_shown cell (Some w) = ram_text cell (slice_index w.cpu.ram cell)

-- the tally of a probe that is there
abbrev pub tally_shown : ℕ → Option Watch → List ℕ
tally_shown probe None = []
tally_shown probe (Some watch) = tally_text probe watch.counted.count watch.counted.first

-- the probes with the one of this number armed
abbrev pub arm_at : ℕ → ℕ → ℕ → List Watch → List Watch
arm_at probe a b [] = []
arm_at zero a b (watch ∷ others) = armed a b watch ∷ others
arm_at (suc probe) a b (watch ∷ others) = watch ∷ arm_at probe a b others

-- what a line does in a session of this run, and what it prints
abbrev pub obeyed : Debuggee → Command → Debug → LineEffect
obeyed s (Step steps) d = effect_of (walk s steps d) (steps_text s (walk s steps d).steps None)
obeyed s (Go steps) d = effect_of (hunt s steps d).debug (steps_text s (hunt s steps d).debug.steps (hunt s steps d).hit)
obeyed s Show d = effect_of d (shown d.steps (state_at s.story d.steps))
obeyed s (Ram cell) d = effect_of d (cell_shown cell (state_at s.story d.steps))
obeyed s (Arm probe a b) d =
    effect_of (record { steps = d.steps; probes = arm_at probe a b d.probes }) (number_text (codes "armed ") probe)
obeyed s (Tell probe) d = effect_of d (tally_shown probe (slice_get d.probes probe))
obeyed s (Drop probe) d =
    effect_of (record { steps = d.steps; probes = remove d.probes probe }) (number_text (codes "dropped ") probe)

-- what a line of a script does and prints, or the first rule that it breaks; a blank line does nothing
abbrev pub line_effect : Debuggee → List ℕ → Debug → Result LineEffect Rule
line_effect s text d =
    if is_blank_line text then Ok (effect_of d [])
    else and_then (judged (length d.probes) text) (λ command. Ok (obeyed s command d))
