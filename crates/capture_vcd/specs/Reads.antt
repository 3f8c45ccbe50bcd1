-- A whole dump: the samples of the two wires that it gives, up to its first fault.
use Rattle.std.specs.Prelude.{◌≡◌, ℕ, ◌<◌, Bool, length, true, false, List, [], ◌∷◌, Option, Some, None, Result, Ok, Err}
use Rattle.std.specs.Prelude.{if◌then◌else◌}
use Rattle.capture_vcd.specs.declared.fault.Rule.{Rule}
use Rattle.capture_vcd.specs.declared.fault.VcdFault.{VcdFault}
use Rattle.capture_vcd.specs.declared.part.Part.{Part}
use Rattle.capture_vcd.specs.declared.part.Part.TheVariants as part
use Rattle.capture_vcd.specs.declared.state.Sample.{Sample}
use Rattle.capture_vcd.specs.declared.state.State.{State}
use Rattle.capture_vcd.specs.declared.state.Step.{Step}
use Rattle.capture_vcd.specs.declared.token.Tokens.{Tokens}
use Rattle.capture_vcd.specs.Changes.{after_end, taken}
use Rattle.capture_vcd.specs.Faults.{at_line}
use Rattle.capture_vcd.specs.Levels.{at_start}
use Rattle.capture_vcd.specs.Tokens.{Token, Fits, left, tokens_of}

-- samples in their order, and the fault that is after them, if there is one
pub record Reads : Type 0 where
  pub samples : List Sample
  pub fault : Option VcdFault

abbrev pub nothing : Reads
nothing = record { samples = []; fault = None }

-- a fault, and no sample before it
abbrev pub refused : VcdFault → Reads
refused fault = record { samples = []; fault = Some fault }

-- with a sample before them, if there is one
abbrev pub after_sample : Option Sample → Reads → Reads
after_sample None reads = reads
after_sample (Some sample) reads = record { samples = sample ∷ reads.samples; fault = reads.fault }

-- what a token leaves; the end is a token too
abbrev pub taken_token : List ℕ → List ℕ → State → Option (List ℕ) → Result Step Rule
taken_token clk dat s None = after_end s.part s
taken_token clk dat s (Some text) = taken s.part clk dat text s

-- its sample, and then what follows from the state that it leaves
abbrev pub reads_on : ℕ → Result Step Rule → (State → Reads) → Reads
reads_on line (Ok step) more = after_sample step.sample (more step.state)
reads_on line (Err rule) more = refused (at_line line rule)

-- what tokens give, from a state on
abbrev pub reads_from : List ℕ → List ℕ → State → List Token → Reads
reads_from clk dat s [] = nothing
reads_from clk dat s (t ∷ ts) =
    reads_on t.line (taken_token clk dat s t.text) (λ after. reads_from clk dat after ts)

-- what a dump gives, with the names of the clock and of the data wire
unfoldable pub reads_of : List ℕ → List ℕ → List ℕ → Reads
reads_of clk dat text = reads_from clk dat at_start (tokens_of text)

-- what is left of it
abbrev pub reads_left : List ℕ → List ℕ → Tokens → State → Reads
reads_left clk dat tokens s = reads_from clk dat s (left tokens)

-- nothing more comes
abbrev pub is_over : Part → Bool
is_over part.Over = true
is_over part.Outside = false
is_over part.Section = false
is_over part.Timescale = false
is_over (part.Measure count) = false
is_over part.Kind = false
is_over part.Width = false
is_over (part.Code is_one) = false
is_over (part.Name is_one code) = false
is_over part.Definitions = false
is_over part.Body = false
is_over part.Comment = false
is_over (part.Vector l) = false

-- how many tokens are left to take
abbrev pub left_to_do : Part → Tokens → ℕ
left_to_do p tokens = if is_over p then 0 else length (left tokens)

-- one token is taken, or refused
abbrev pub IsStep : List ℕ → List ℕ → Tokens → State → Result (Step × Tokens) VcdFault → Type 0
IsStep clk dat tokens s (Ok found) =
    (reads_left clk dat tokens s ≡ after_sample found.0.sample (reads_left clk dat found.1 found.0.state))
    × (Fits found.1 × (is_over s.part ≡ false → left_to_do found.0.state.part found.1 < left_to_do s.part tokens))
IsStep clk dat tokens s (Err fault) = reads_left clk dat tokens s ≡ refused fault

-- a sample is read, or there is none, or a fault comes first
abbrev pub IsRead : List ℕ → List ℕ → Tokens → State → Result (Option (Sample × Tokens × State)) VcdFault → Type 0
IsRead clk dat tokens s (Ok None) = reads_left clk dat tokens s ≡ nothing
IsRead clk dat tokens s (Ok (Some found)) =
    (reads_left clk dat tokens s ≡ after_sample (Some found.0) (reads_left clk dat found.1 found.2)) × Fits found.1
IsRead clk dat tokens s (Err fault) = reads_left clk dat tokens s ≡ refused fault

-- the first sample is given, and the others are left; or there is none; or the fault is given, and nothing is left
abbrev pub IsGiven : Reads → Result (Option Sample) VcdFault → Reads → Type 0
IsGiven before (Ok None) after = (before ≡ nothing) × (after ≡ nothing)
IsGiven before (Ok (Some sample)) after = before ≡ after_sample (Some sample) after
IsGiven before (Err fault) after = (before ≡ refused fault) × (after ≡ nothing)
