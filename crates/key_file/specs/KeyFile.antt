-- What a key file means: its history, or its first fault.
use Rattle.std.specs.Prelude.{ℕ, ◌≡◌, List, None, Some, Ok, Err}
use Rattle.std.specs.Str.Lines.{lines}
use Rattle.std.specs.declared.option.Option.{Option}
use Rattle.std.specs.declared.result.Result.{Result}
use Rattle.layout_reader.specs.Layouts.{KeyLayout}
use Rattle.text_lines.specs.Fields.{fields}
use Rattle.first_fault.specs.FirstFault.{Fault, and_then, unless, first_broken, outcome}
use Rattle.key_file.specs.declared.event.Event.{Event}
use Rattle.key_file.specs.declared.rule.Rule.{Rule}
use Rattle.key_file.specs.declared.rule.Rule.TheVariants.{Order, Dwell, Density, Late, NoEnd}
use Rattle.key_file.specs.declared.fault.KeyFault.{KeyFault}
use Rattle.key_file.specs.declared.fault.KeyFault.TheVariants.{Input, Timing, Memory}
use Rattle.key_file.specs.declared.fault.FileFault.{FileFault}
use Rattle.key_file.specs.declared.fault.FileFault.TheVariants as file
use Rattle.key_file.specs.Histories.{KeyHistory, Before, at_first, with_event}
use Rattle.key_file.specs.Briefs.{brief_of}
use Rattle.key_file.specs.Fields.{said_by}
use Rattle.key_file.specs.Rules.{number_of, judgements}

-- what an event makes of those before it, or the first rule that it breaks
abbrev pub take_event : Before → Event → Result Before Rule
take_event before event = unless (first_broken (judgements (brief_of before) event)) (with_event before event)

-- what a line says makes this of the events before it; a line that is skipped says nothing
abbrev pub take_said : Before → Option Event → Result Before Rule
take_said before None = Ok before
take_said before (Some event) = take_event before event

abbrev pub take_line : KeyLayout → Before → List ℕ → Result Before Rule
take_line layout before line = and_then (said_by layout (fields line)) (take_said before)

-- the history of events that have an end
abbrev pub history_at : Before → Option ℕ → Result KeyHistory Rule
history_at before (Some end) = Ok (record { edges = before.edges; host = before.host; end = end })
history_at before None = Err NoEnd

abbrev pub finish : Before → Result KeyHistory Rule
finish before = history_at before before.end

-- how a broken rule is reported of a line: four rules name two stamps, the others none
abbrev pub placed_fault : ℕ → Rule → KeyFault
placed_fault line (Order earlier stamp) = Timing line 4 earlier stamp
placed_fault line (Dwell earlier stamp) = Timing line 6 earlier stamp
placed_fault line (Density earlier stamp) = Timing line 7 earlier stamp
placed_fault line (Late stamp) = Timing line 10 240000000 stamp
placed_fault line rule = Input line (number_of rule)

abbrev pub with_fault_placed : {X : Type 0} → Result X (Fault Rule) → Result X KeyFault
with_fault_placed (Ok value) = Ok value
with_fault_placed (Err fault) = Err (placed_fault fault.item fault.rule)

-- the history of a key file, or its first fault: its lines are judged in order; that `end` is missing is reported of the
-- line after the last one
unfoldable pub history_of : KeyLayout → List ℕ → Result KeyHistory KeyFault
history_of layout text = with_fault_placed (outcome (take_line layout) finish at_first (lines text))

-- want of memory, or else the fault of what was judged
abbrev pub IsFaultOf : {X : Type 0} → Result X KeyFault → KeyFault → Type 0
IsFaultOf meaning (Input line number) = meaning ≡ Err (Input line number)
IsFaultOf meaning (Timing line number a b) = meaning ≡ Err (Timing line number a b)
IsFaultOf meaning Memory = Unit {0}

-- the fault of a reader that takes no memory, among those of one that does
abbrev pub key_fault : FileFault → KeyFault
key_fault (file.Input line number) = Input line number
key_fault (file.Timing line number a b) = Timing line number a b
