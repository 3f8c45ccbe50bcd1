-- A line of a trace, read in a state of the reader.
use Rattle.std.proofs.Common.{◌≡◌, ℕ, ◌+◌, Bool, List, ◌++◌, codes}
use Rattle.std.specs.Prelude.{if◌then◌else◌}
use Rattle.std.proofs.Common.{None, Some, Ok, Err, ap, ◌∙◌}
use Rattle.std.specs.Str.Lines.{lines}
use Rattle.board_terms.specs.declared.lines.Lines.{Lines}
use Rattle.text_lines.specs.Fields.{fields}
use Rattle.key_lines.proofs.Parted.{IsLine, first-line}
use Rattle.capture_vcd.specs.Changes.{after_end, level_of, with_level}
use Rattle.capture_vcd.specs.Levels.{at_start}
use Rattle.capture_vcd.specs.Reads.{Reads, reads_from}
use Rattle.capture_vcd.specs.Tokens.{Token, tokens_from, tokens_in}
use Rattle.capture_vcd.specs.Units.{unit_of}
use Rattle.run_wires.specs.Text.{line}

-- types that the reader keeps to itself: of a state, and of what a token leaves
abbrev pub TypeOf : {A : Type 0} → A → Type 0
TypeOf {A = A} a = A

abbrev pub State : Type 0
State = TypeOf at_start

abbrev pub Taken : Type 0
Taken = TypeOf (after_end at_start.part at_start)

-- the names of the clock in a trace, and of the signal that is read as data: the wire, or what the controller sees
abbrev pub clk : List ℕ
clk = codes "clock"

abbrev pub dat : Bool → List ℕ
dat seen = if seen then codes "data_seen" else codes "data"

-- what is read of the lines of a text, the first of which has this number
abbrev pub reads_at : Bool → State → ℕ → List ℕ → Reads
reads_at seen s n text = reads_from clk (dat seen) s (tokens_from n (lines text))

-- fields without a sample lead from a state to another
abbrev pub Leads : Bool → State → List (List ℕ) → State → Type 0
Leads seen s words after =
    (n : ℕ) (more : List Token) → reads_from clk (dat seen) s (tokens_in n words ++ more) ≡ reads_from clk (dat seen) after more

-- and so does their line
pub line_read : (seen : Bool) (s after : State) (n : ℕ) (text rest : List ℕ) (words : List (List ℕ))
    → IsLine text → fields text ≡ words → Leads seen s words after
    → reads_at seen s n (line text ++ rest) ≡ reads_at seen after (n + 1) rest
line_read seen s after n text rest words is has leads =
    ap (λ ls. reads_from clk (dat seen) s (tokens_from n ls)) (first-line text rest is)
    ∙ ap (λ ws. reads_from clk (dat seen) s (tokens_in n ws ++ tokens_from (n + 1) (lines rest))) has
    ∙ leads n (tokens_from (n + 1) (lines rest))

-- in the header: after the unit of time, the clock's line and the line of what is read as data, whose codes c, d and s are
-- 67, 68 and 83
abbrev pub with_unit : State
with_unit = record at_start { unit = unit_of (codes "100ns") }

abbrev pub with_clock : State
with_clock = record with_unit { clk = Some 67 }

abbrev pub code : Bool → ℕ
code seen = if seen then 83 else 68

abbrev pub with_data : Bool → State
with_data seen = record with_clock { dat = Some (code seen) }

-- after it: where a level leads
abbrev pub level_leads : TypeOf (with_level (level_of 48) None at_start) → State
level_leads (Ok s) = s
level_leads (Err rule) = at_start

abbrev pub body : Bool → State
body seen = record (with_data seen) { part = (level_leads (with_level (level_of 48) None at_start)).part }

-- there at a time, with the levels now, and those of the last sample
abbrev pub in_body : Bool → ℕ → Lines → Lines → State
in_body seen time now given = record (body seen) { time = time; lines = now; given = given }

-- the levels that are read: those of the wires, or the clock's with this level of data
abbrev pub read_by : Bool → Lines → Bool → Lines
read_by seen wires level = if seen then record { clk = wires.clk; dat = level } else wires
