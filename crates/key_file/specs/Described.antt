-- A key file that describes a history: lines of right form, whose stamps don't fall, up to `end`.
use Rattle.std.specs.Prelude.{◌≡◌, ◌≤◌, ℕ, List, [], ◌∷◌, None, Some, Ok}
use Rattle.std.specs.Str.Lines.{lines}
use Rattle.std.specs.declared.option.Option.{Option}
use Rattle.layout_reader.specs.Layouts.{KeyLayout}
use Rattle.text_lines.specs.Fields.{fields}
use Rattle.key_file.specs.declared.event.Event.{Event}
use Rattle.key_file.specs.declared.event.Event.TheVariants.{EdgeOf, HostOf, End}
use Rattle.key_file.specs.Cursors.{said_in, edges_in, host_in}
use Rattle.key_file.specs.Fields.{said_by}
use Rattle.key_file.specs.Histories.{KeyHistory}

-- no line breaks a rule of form, word or key: each says an event, or nothing
abbrev pub AreOfRightForm : KeyLayout → List (List ℕ) → Type 0
AreOfRightForm layout [] = Unit {0}
AreOfRightForm layout (line ∷ more) =
    (said_by layout (fields line) ≡ Ok (said_in layout line)) × AreOfRightForm layout more

-- events, with one more before them if there is one
abbrev pub event_before : Option Event → List Event → List Event
event_before (Some event) events = event ∷ events
event_before None events = events

-- the events that lines say, in their order
abbrev pub events_in : KeyLayout → List (List ℕ) → List Event
events_in layout [] = []
events_in layout (line ∷ more) = event_before (said_in layout line) (events_in layout more)

-- no event has a stamp less than the one before it, and the first none less than this; the last is `end`, with its stamp
abbrev pub AreInJointOrder : ℕ → List Event → ℕ → Type 0
AreInJointOrder from [] end = ⊥
AreInJointOrder from (EdgeOf edge ∷ more) end = (from ≤ edge.stamp) × AreInJointOrder edge.stamp more end
AreInJointOrder from (HostOf event ∷ more) end = (from ≤ event.stamp) × AreInJointOrder event.stamp more end
AreInJointOrder from (End stamp ∷ more) end = (from ≤ stamp) × (stamp ≡ end) × (more ≡ [])

-- a text describes a history
pub record Describes (layout : KeyLayout) (text : List ℕ) (history : KeyHistory) : Type 0 where
  pub form : AreOfRightForm layout (lines text)
  pub edges : edges_in layout (lines text) ≡ history.edges
  pub host : host_in layout (lines text) ≡ history.host
  pub order : AreInJointOrder 0 (events_in layout (lines text)) history.end
