-- A script, line by line.
use Rattle.std.specs.Prelude.{ℕ, ◌-◌, nat_lt, if◌then◌else◌, List, Option, Some, None, Result, Ok}
use Rattle.std.specs.Str.Lines.{lines}
use Rattle.text_lines.specs.Fields.{is_blank_line}
use Rattle.first_fault.specs.FirstFault.{Fault, and_then, some_or, unless, outcome}
use Rattle.debugger.specs.declared.command.Command.{Command}
use Rattle.debugger.specs.declared.command.Command.TheVariants.{Step, Go, Show, Ram, Arm, Tell, Drop}
use Rattle.debugger.specs.declared.rule.Rule.{Rule}
use Rattle.debugger.specs.declared.rule.Rule.TheVariants.{Form, Probe}
use Rattle.debugger.specs.Commands.{command_in}

-- the number by which a message names the rule that is broken
abbrev pub number_of : Rule → ℕ
number_of Form = 1
number_of Probe = 2

-- the number of the probe that a line names
abbrev pub probe_of : Command → Option ℕ
probe_of (Step k) = None
probe_of (Go k) = None
probe_of Show = None
probe_of (Ram a) = None
probe_of (Arm p a b) = Some p
probe_of (Tell p) = Some p
probe_of (Drop p) = Some p

-- probes are numbered from 0
abbrev pub missing_by : ℕ → Option ℕ → Option Rule
missing_by probes None = None
missing_by probes (Some p) = if nat_lt p probes then None else Some Probe

-- the rule that a line breaks by its probe, if there are so many
abbrev pub missing : ℕ → Command → Option Rule
missing probes command = missing_by probes (probe_of command)

-- what a line asks for that isn't blank, if there are so many probes, or the first rule that it breaks
abbrev pub judged : ℕ → List ℕ → Result Command Rule
judged probes line = and_then (some_or Form (command_in line)) (λ command. unless (missing probes command) command)

-- how many probes it leaves
abbrev pub left : Command → ℕ → ℕ
left (Drop p) probes = probes - 1
left command probes = probes

-- how many probes a line leaves; a blank one asks for nothing
abbrev pub take_line : ℕ → List ℕ → Result ℕ Rule
take_line probes line =
    if is_blank_line line then Ok probes
    else and_then (judged probes line) (λ command. Ok (left command probes))

-- how many probes all lines leave, or the first fault
unfoldable pub script_of : ℕ → List ℕ → Result ℕ (Fault Rule)
script_of probes text = outcome take_line Ok probes (lines text)
