-- A text that describes an accepted history is read as that history.
use Rattle.std.proofs.Common.{◌≡◌, ℕ, ◌+◌, List, [], ◌∷◌, ◌++◌, None, Some, Ok, refl, ap, sym, ◌∙◌, append-nil}
use Rattle.std.specs.Str.Lines.{lines}
use Rattle.std.specs.declared.option.Option.{Option}
use Rattle.std.specs.declared.result.Result.{Result}
use Rattle.board_terms.specs.declared.event.Edge.{Edge}
use Rattle.board_terms.specs.declared.event.HostEvent.{HostEvent}
use Rattle.layout_reader.specs.Layouts.{KeyLayout}
use Rattle.text_lines.specs.Fields.{fields}
use Rattle.first_fault.specs.FirstFault.{Fault, and_then, at_item, outcome_from}
use Rattle.key_file.specs.declared.event.Event.{Event}
use Rattle.key_file.specs.declared.event.Event.TheVariants.{EdgeOf, HostOf, End}
use Rattle.key_file.specs.declared.rule.Rule.{Rule}
use Rattle.key_file.specs.Accepted.{IsAccepted}
use Rattle.key_file.specs.Cursors.{said_in, edge_before, host_before, edges_in, host_in}
use Rattle.key_file.specs.Fields.{said_by}
use Rattle.key_file.specs.Histories.{KeyHistory, Before, at_first, with_event}
use Rattle.key_file.specs.KeyFile.{history_of, take_said, take_line, finish, history_at, with_fault_placed}
use Rattle.key_file.specs.Described.{AreOfRightForm, event_before, events_in, AreInJointOrder, Describes}
use Rattle.key_file.proofs.Left.{IsLeft, edge_taken, edge_left, host_taken, host_left, end_taken}

-- what lines come to after the events so far, the first of them with this number
abbrev pub outcome_of : KeyLayout → ℕ → Before → List (List ℕ) → Result KeyHistory (Fault Rule)
outcome_of layout number before texts = outcome_from (take_line layout) finish number before texts

-- what a line says is taken
said_taken : (layout : KeyLayout) (line : List ℕ) (more : List (List ℕ)) (said : Option Event) (number : ℕ) (before after : Before)
    → said_by layout (fields line) ≡ Ok said → take_said before said ≡ Ok after
    → outcome_of layout number before (line ∷ more) ≡ outcome_of layout (number + 1) after more
said_taken layout line more said number before after is taken =
    let rest : Before → Result KeyHistory (Fault Rule) = λ after. outcome_of layout (number + 1) after more in
    ap (λ said. and_then (at_item number (and_then said (take_said before))) rest) is
    ∙ ap (λ taken. and_then (at_item number taken) rest) taken

-- after the end a line that says nothing is taken
ended_by : (layout : KeyLayout) (history : KeyHistory) (line : List ℕ) (more : List (List ℕ)) (said : Option Event)
    (number : ℕ) (before : Before) → said_by layout (fields line) ≡ Ok said
    → event_before said (events_in layout more) ≡ []
    → (events_in layout more ≡ [] → outcome_of layout (number + 1) before more ≡ Ok history)
    → outcome_of layout number before (line ∷ more) ≡ Ok history
ended_by layout history line more None number before is none next =
    said_taken layout line more None number before before is refl ∙ next none
ended_by layout history line more (Some event) number before is none next = absurd cc

-- and so such lines come to the history
ended : (layout : KeyLayout) (history : KeyHistory) (texts : List (List ℕ)) (number : ℕ) (before : Before)
    → AreOfRightForm layout texts → events_in layout texts ≡ [] → before.edges ≡ history.edges → before.host ≡ history.host
    → before.end ≡ Some history.end → outcome_of layout number before texts ≡ Ok history
ended layout history [] number before form none edges host end =
    ap (λ end. at_item number (history_at before end)) end ∙ rw (edges, host) refl
ended layout history (line ∷ more) number before form none edges host end =
    ended_by layout history line more (said_in layout line) number before form.0 none
    (λ none. ended layout history more (number + 1) before form.1 none edges host end)

-- where no event is said, neither an edge nor an event of the host is
no_edge : (said : Option Event) (events : List Event) (edges : List Edge)
    → event_before said events ≡ [] → (events ≡ [] → edges ≡ []) → edge_before said edges ≡ []
no_edge None events edges none more = more none
no_edge (Some event) events edges none more = absurd cc

no_edges : (layout : KeyLayout) (texts : List (List ℕ)) → events_in layout texts ≡ [] → edges_in layout texts ≡ []
no_edges layout [] none = refl
no_edges layout (line ∷ more) none =
    no_edge (said_in layout line) (events_in layout more) (edges_in layout more) none (no_edges layout more)

no_host_event : (said : Option Event) (events : List Event) (host : List HostEvent)
    → event_before said events ≡ [] → (events ≡ [] → host ≡ []) → host_before said host ≡ []
no_host_event None events host none more = more none
no_host_event (Some event) events host none more = absurd cc

no_host_events : (layout : KeyLayout) (texts : List (List ℕ)) → events_in layout texts ≡ [] → host_in layout texts ≡ []
no_host_events layout [] none = refl
no_host_events layout (line ∷ more) none =
    no_host_event (said_in layout line) (events_in layout more) (host_in layout more) none (no_host_events layout more)

-- lines that tell what is left of a history come to it
abbrev AreRead : KeyLayout → KeyHistory → List (List ℕ) → Type 0
AreRead layout history texts =
    (number : ℕ) (before : Before) → AreOfRightForm layout texts → IsLeft history before (edges_in layout texts) (host_in layout texts)
    → AreInJointOrder before.stamp (events_in layout texts) history.end
    → outcome_of layout number before texts ≡ Ok history

module _ (layout : KeyLayout) (history : KeyHistory) (accepted : IsAccepted history) (line : List ℕ)
    (more : List (List ℕ)) (next : AreRead layout history more) where
  read_by : (said : Option Event) (number : ℕ) (before : Before) → said_by layout (fields line) ≡ Ok said → AreOfRightForm layout more
      → IsLeft history before (edge_before said (edges_in layout more)) (host_before said (host_in layout more))
      → AreInJointOrder before.stamp (event_before said (events_in layout more)) history.end
      → outcome_of layout number before (line ∷ more) ≡ Ok history
  read_by None number before is form left order =
      said_taken layout line more None number before before is refl ∙ next (number + 1) before form left order
  read_by (Some (EdgeOf e)) number before is form left order =
      said_taken layout line more (Some (EdgeOf e)) number before (with_event before (EdgeOf e)) is
      (edge_taken history accepted before e (edges_in layout more) (host_in layout more) left order.0)
      ∙ next (number + 1) (with_event before (EdgeOf e)) form
      (edge_left history accepted before e (edges_in layout more) (host_in layout more) left) order.1
  read_by (Some (HostOf e)) number before is form left order =
      said_taken layout line more (Some (HostOf e)) number before (with_event before (HostOf e)) is
      (host_taken history accepted before e (edges_in layout more) (host_in layout more) left order.0)
      ∙ next (number + 1) (with_event before (HostOf e)) form
      (host_left history accepted before e (edges_in layout more) (host_in layout more) left) order.1
  read_by (Some (End stamp)) number before is form left order =
      let edges : before.edges ≡ history.edges =
      sym (append-nil before.edges) ∙ ap (λ es. before.edges ++ es) (sym (no_edges layout more order.2)) ∙ left.edges_are in
      let host : before.host ≡ history.host =
      sym (append-nil before.host) ∙ ap (λ es. before.host ++ es) (sym (no_host_events layout more order.2)) ∙ left.host_are in
      said_taken layout line more (Some (End stamp)) number before (with_event before (End stamp)) is
      (end_taken history accepted before stamp left.goes_on order.0 order.1)
      ∙ ended layout history more (number + 1) (with_event before (End stamp)) form order.2 edges host (ap Some order.1)

are_read : (layout : KeyLayout) (history : KeyHistory) → IsAccepted history → (texts : List (List ℕ)) → AreRead layout history texts
are_read layout history accepted [] number before form left order = absurd order
are_read layout history accepted (line ∷ more) number before form left order =
    read_by layout history accepted line more (are_read layout history accepted more)
    (said_in layout line) number before form.0 form.1 left order

-- an accepted history that a text tells is read from it
pub reads-described : (layout : KeyLayout) (text : List ℕ) (history : KeyHistory)
    → IsAccepted history → Describes layout text history → history_of layout text ≡ Ok history
unfolding history_of
reads-described layout text history accepted says_so =
    ap with_fault_placed
    (are_read layout history accepted (lines text) 1 at_first says_so.form
    (record { edges_are = says_so.edges; host_are = says_so.host; goes_on = refl }) says_so.order)
