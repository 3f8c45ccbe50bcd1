-- The events that the lines of a key file give, edges and events of the host apart.
use Rattle.std.specs.Prelude.{ℕ, List, [], ◌∷◌, None, Some, Ok, Err}
use Rattle.std.specs.declared.option.Option.{Option}
use Rattle.std.specs.declared.result.Result.{Result}
use Rattle.board_terms.specs.declared.event.Edge.{Edge}
use Rattle.board_terms.specs.declared.event.HostEvent.{HostEvent}
use Rattle.layout_reader.specs.Layouts.{KeyLayout}
use Rattle.text_lines.specs.Fields.{fields}
use Rattle.key_file.specs.declared.event.Event.{Event}
use Rattle.key_file.specs.declared.event.Event.TheVariants.{EdgeOf, HostOf, End}
use Rattle.key_file.specs.declared.fault.KeyFault.{KeyFault}
use Rattle.key_file.specs.declared.rule.Rule.{Rule}
use Rattle.key_file.specs.Fields.{said_by}
use Rattle.key_file.specs.Histories.{KeyHistory}
use Rattle.key_file.specs.KeyFile.{history_of}

-- what is said that breaks no rule of form, word or key
abbrev pub sound : Result (Option Event) Rule → Option Event
sound (Ok said) = said
sound (Err rule) = None

-- what a line says, if anything
abbrev pub said_in : KeyLayout → List ℕ → Option Event
said_in layout line = sound (said_by layout (fields line))

-- edges, with one more before them if this is one
abbrev pub edge_before : Option Event → List Edge → List Edge
edge_before (Some (EdgeOf edge)) edges = edge ∷ edges
edge_before (Some (HostOf event)) edges = edges
edge_before (Some (End stamp)) edges = edges
edge_before None edges = edges

-- the host's events, with one more before them if this is one
abbrev pub host_before : Option Event → List HostEvent → List HostEvent
host_before (Some (EdgeOf edge)) events = events
host_before (Some (HostOf event)) events = event ∷ events
host_before (Some (End stamp)) events = events
host_before None events = events

-- the edges that lines give, in their order
abbrev pub edges_in : KeyLayout → List (List ℕ) → List Edge
edges_in layout [] = []
edges_in layout (line ∷ more) = edge_before (said_in layout line) (edges_in layout more)

-- the events of the host that they give
abbrev pub host_in : KeyLayout → List (List ℕ) → List HostEvent
host_in layout [] = []
host_in layout (line ∷ more) = host_before (said_in layout line) (host_in layout more)

-- the history of a file that has one
abbrev pub found_history : Result KeyHistory KeyFault → KeyHistory
found_history (Ok history) = history
found_history (Err fault) = record { edges = []; host = []; end = 0 }

abbrev pub history_in : KeyLayout → List ℕ → KeyHistory
history_in layout text = found_history (history_of layout text)
