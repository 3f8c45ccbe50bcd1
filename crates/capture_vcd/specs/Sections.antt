-- The header of a dump: its sections, from a word with a dollar sign to `$end`.
use Rattle.std.specs.Prelude.{ℕ, Bool, not, List, codes, Option, Some, None, Result, Ok, Err, is_some, if◌then◌else◌}
use Rattle.std.specs.Str.{bytes_eq}
use Rattle.first_fault.specs.FirstFault.{and_then}
use Rattle.capture_vcd.specs.declared.fault.Rule.{Rule}
use Rattle.capture_vcd.specs.declared.fault.Rule.TheVariants.{Form, Unit, NoUnit, Twice, Width, NoClock, NoData}
use Rattle.capture_vcd.specs.declared.keyword.Keyword.{Keyword}
use Rattle.capture_vcd.specs.declared.keyword.Keyword.TheVariants.{Timescale, Var, Enddefinitions, Other}
use Rattle.capture_vcd.specs.declared.part.Part.{Part}
use Rattle.capture_vcd.specs.declared.part.Part.TheVariants as part
use Rattle.capture_vcd.specs.declared.state.State.{State}
use Rattle.capture_vcd.specs.declared.unit.Count.{Count}
use Rattle.capture_vcd.specs.declared.unit.Unit.{Unit as TimeUnit}
use Rattle.capture_vcd.specs.Codes.{code_of}
use Rattle.capture_vcd.specs.Units.{count_of, unit_of, unit_with}
use Rattle.capture_vcd.specs.Words.{is_end, keyword_of}

-- the same in another part
abbrev pub in_part : Part → State → State
in_part p s = record s { part = p }

-- a token within a section; its end would come too early
abbrev pub inside : Part → List ℕ → State → Result State Rule
inside p text s = if is_end text then Err Form else Ok (in_part p s)

-- a token of a section that is skipped; its end leads to this part
abbrev pub skipped : Part → List ℕ → State → State
skipped after text s = if is_end text then in_part after s else s

-- the unit of time; what else its section has is skipped
abbrev pub with_unit : Option TimeUnit → State → Result State Rule
with_unit None s = Err Unit
with_unit (Some u) s = Ok (record s { part = part.Section; unit = Some u })

-- the unit with its count in one token, or its count alone
abbrev pub counted_by : Option Count → List ℕ → State → Result State Rule
counted_by None text s = with_unit (unit_of text) s
counted_by (Some count) text s = Ok (in_part (part.Measure count) s)

abbrev pub counted : List ℕ → State → Result State Rule
counted text s = counted_by (count_of text) text s

-- a signal with a wire's name: the first one, of one bit, with a code that is read
abbrev pub signal : Option ℕ → Bool → Option ℕ → Result (Option ℕ) Rule
signal (Some before) is_one code = Err Twice
signal None is_one None = if not is_one then Err Width else Err Form
signal None is_one (Some code) = if not is_one then Err Width else Ok (Some code)

-- a wire's code after a signal that has its name, or another
abbrev pub named : Bool → Option ℕ → Bool → Option ℕ → Result (Option ℕ) Rule
named is_named before is_one code = if is_named then signal before is_one code else Ok before

abbrev pub with_signal : List ℕ → List ℕ → Bool → Option ℕ → List ℕ → State → Result State Rule
with_signal clk dat is_one code name s =
    and_then (named (bytes_eq name clk) s.clk is_one code)
    (λ c. and_then (named (bytes_eq name dat) s.dat is_one code)
    (λ d. Ok (record s { part = part.Section; clk = c; dat = d })))

-- the header ends, if it has said all
abbrev pub defined : State → Result State Rule
defined s =
    if not (is_some s.unit) then Err NoUnit
    else (if not (is_some s.clk) then Err NoClock
    else (if not (is_some s.dat) then Err NoData else Ok (in_part part.Definitions s)))

-- a section begins
abbrev pub begun_by : Option Keyword → State → Result State Rule
begun_by (Some Timescale) s = Ok (in_part part.Timescale s)
begun_by (Some Var) s = Ok (in_part part.Kind s)
begun_by (Some Enddefinitions) s = defined s
begun_by (Some Other) s = Ok (in_part part.Section s)
begun_by None s = Err Form

abbrev pub begun : List ℕ → State → Result State Rule
begun text s = begun_by (keyword_of text) s

-- a token of the header, by the part in which it is
abbrev pub taken_in_header : Part → List ℕ → List ℕ → List ℕ → State → Result State Rule
taken_in_header part.Outside clk dat text s = begun text s
taken_in_header part.Section clk dat text s = Ok (skipped part.Outside text s)
taken_in_header part.Timescale clk dat text s = counted text s
taken_in_header (part.Measure count) clk dat text s = with_unit (unit_with count text) s
taken_in_header part.Kind clk dat text s = inside part.Width text s
taken_in_header part.Width clk dat text s = inside (part.Code (bytes_eq text (codes "1"))) text s
taken_in_header (part.Code is_one) clk dat text s = inside (part.Name is_one (code_of text)) text s
taken_in_header (part.Name is_one code) clk dat text s = with_signal clk dat is_one code text s
taken_in_header part.Definitions clk dat text s = Ok (skipped part.Body text s)
taken_in_header part.Body clk dat text s = Err Form
taken_in_header part.Comment clk dat text s = Err Form
taken_in_header (part.Vector level) clk dat text s = Err Form
taken_in_header part.Over clk dat text s = Err Form
