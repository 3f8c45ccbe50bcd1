-- After the header of a dump: times, and the changes of its signals.
use Rattle.std.specs.Prelude.{ℕ, ◌*◌, Bool, true, false, not, ◌==◌, ◌||◌, nat_lt, List, [], ◌∷◌, Option, Some, None}
use Rattle.std.specs.Prelude.{Result, Ok, Err, if◌then◌else◌}
use Rattle.first_fault.specs.FirstFault.{and_then, some_or}
use Rattle.text_lines.specs.Numbers.{decimal_of}
use Rattle.capture_vcd.specs.declared.fault.Rule.{Rule}
use Rattle.capture_vcd.specs.declared.fault.Rule.TheVariants.{Form, NoUnit, Back, Unknown, Unfinished}
use Rattle.capture_vcd.specs.declared.part.Level.{Level}
use Rattle.capture_vcd.specs.declared.part.Level.TheVariants as level
use Rattle.capture_vcd.specs.declared.part.Part.{Part}
use Rattle.capture_vcd.specs.declared.part.Part.TheVariants as part
use Rattle.capture_vcd.specs.declared.state.State.{State}
use Rattle.capture_vcd.specs.declared.state.Step.{Step}
use Rattle.capture_vcd.specs.Codes.{code_of}
use Rattle.capture_vcd.specs.Levels.{with_sample, without}
use Rattle.capture_vcd.specs.Sections.{in_part, skipped, taken_in_header}
use Rattle.capture_vcd.specs.Units.{nanoseconds}
use Rattle.capture_vcd.specs.Words.{is_comment, is_mark}

-- the level that a character says: neither x nor z is one
abbrev pub level_of : ℕ → Level
level_of character =
    if character == 48 then level.Low else (if character == 49 then level.High else level.Unknown)

-- a value that is a token of its own is a level if it has one digit
abbrev pub vector_of : List ℕ → Level
vector_of [] = level.Unknown
vector_of (digit ∷ []) = level_of digit
vector_of (first ∷ second ∷ others) = level.Unknown

-- a code is that of a wire
abbrev pub is_wire : Option ℕ → Option ℕ → Bool
is_wire None code = false
is_wire (Some wire) None = false
is_wire (Some wire) (Some code) = wire == code

-- a wire's level after a value of its own
abbrev pub its_level : Level → Result Bool Rule
its_level level.Low = Ok false
its_level level.High = Ok true
its_level level.Unknown = Err Unknown

-- or of another signal
abbrev pub turned : Bool → Level → Bool → Result Bool Rule
turned is_its l before = if not is_its then Ok before else its_level l

-- the two wires after a value of the signal with a code
abbrev pub with_level : Level → Option ℕ → State → Result State Rule
with_level l code s =
    and_then (turned (is_wire s.clk code) l s.lines.clk)
    (λ c. and_then (turned (is_wire s.dat code) l s.lines.dat)
    (λ d. Ok (record s { part = part.Body; lines = record { clk = c; dat = d } })))

-- a value that is one character, and the code of its signal right after it
abbrev pub scalar : ℕ → List ℕ → State → Result State Rule
scalar character [] s = Err Form
scalar character (first ∷ others) s = with_level (level_of character) (code_of (first ∷ others)) s

-- a word with a dollar sign begins a comment, or is a mark round values
abbrev pub marked : List ℕ → State → Result State Rule
marked text s = if is_comment text then Ok (in_part part.Comment s) else (if is_mark text then Ok s else Err Form)

-- 0, 1, x and z of either case
abbrev pub is_scalar : ℕ → Bool
is_scalar c = c == 48 || c == 49 || c == 120 || c == 88 || c == 122 || c == 90

-- b, r and s of either case begin a value of more bits, a real number or a text
abbrev pub is_vector : ℕ → Bool
is_vector c = c == 98 || c == 66 || c == 114 || c == 82 || c == 115 || c == 83

-- a value, or a word with a dollar sign
abbrev pub changed : List ℕ → State → Result State Rule
changed [] s = Err Form
changed (first ∷ rest) s =
    if first == 36 then marked (first ∷ rest) s
    else (if is_scalar first then scalar first rest s
    else (if is_vector first then Ok (in_part (part.Vector (vector_of rest)) s) else Err Form))

-- a time in nanoseconds: not before the last one; a later one completes the sample of that
abbrev pub timed_at : ℕ → State → Result Step Rule
timed_at time s =
    if nat_lt time s.time then Err Back
    else (if time == s.time then Ok (without s) else Ok (with_sample part.Body time s))

-- a time of 1 to 14 digits, in units
abbrev pub timed : List ℕ → State → Result Step Rule
timed digits s =
    and_then (some_or NoUnit s.unit)
    (λ unit. and_then (some_or Form (decimal_of 14 digits)) (λ n. timed_at (n * nanoseconds unit) s))

-- with no sample
abbrev pub none_with : Result State Rule → Result Step Rule
none_with (Ok s) = Ok (without s)
none_with (Err rule) = Err rule

-- a time, or a change
abbrev pub taken_in_body : List ℕ → State → Result Step Rule
taken_in_body [] s = Err Form
taken_in_body (first ∷ rest) s = if first == 35 then timed rest s else none_with (changed (first ∷ rest) s)

-- a token, by the part in which it is
abbrev pub taken : Part → List ℕ → List ℕ → List ℕ → State → Result Step Rule
taken part.Outside clk dat text s = none_with (taken_in_header part.Outside clk dat text s)
taken part.Section clk dat text s = none_with (taken_in_header part.Section clk dat text s)
taken part.Timescale clk dat text s = none_with (taken_in_header part.Timescale clk dat text s)
taken (part.Measure count) clk dat text s = none_with (taken_in_header (part.Measure count) clk dat text s)
taken part.Kind clk dat text s = none_with (taken_in_header part.Kind clk dat text s)
taken part.Width clk dat text s = none_with (taken_in_header part.Width clk dat text s)
taken (part.Code is_one) clk dat text s = none_with (taken_in_header (part.Code is_one) clk dat text s)
taken (part.Name is_one code) clk dat text s =
    none_with (taken_in_header (part.Name is_one code) clk dat text s)
taken part.Definitions clk dat text s = none_with (taken_in_header part.Definitions clk dat text s)
taken part.Body clk dat text s = taken_in_body text s
taken part.Comment clk dat text s = Ok (without (skipped part.Body text s))
taken (part.Vector l) clk dat text s = none_with (with_level l (code_of text) s)
taken part.Over clk dat text s = Ok (without s)

-- the end, which may come in the body alone
abbrev pub after_end : Part → State → Result Step Rule
after_end part.Body s = Ok (with_sample part.Over s.time s)
after_end part.Over s = Ok (without s)
after_end part.Outside s = Err Unfinished
after_end part.Section s = Err Unfinished
after_end part.Timescale s = Err Unfinished
after_end (part.Measure count) s = Err Unfinished
after_end part.Kind s = Err Unfinished
after_end part.Width s = Err Unfinished
after_end (part.Code is_one) s = Err Unfinished
after_end (part.Name is_one code) s = Err Unfinished
after_end part.Definitions s = Err Unfinished
after_end part.Comment s = Err Unfinished
after_end (part.Vector l) s = Err Unfinished
