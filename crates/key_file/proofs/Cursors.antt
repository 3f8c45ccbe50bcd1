-- The events that the lines of a file give are those of its history.
use Rattle.std.proofs.Common.{◌≡◌, ◌<◌, ℕ, zero, suc, ◌+◌, List, [], ◌∷◌, ◌++◌, length, drop, None}
use Rattle.std.proofs.Common.{Some, Ok, Err, refl, ap, sym, subst, ◌∙◌, arith, append_assoc}
use Rattle.std.proofs.lemmas.List.{append-nil}
use Rattle.std.specs.Str.Lines.{lines}
use Rattle.std.specs.List.{slice_get}
use Rattle.std.specs.declared.option.Option.{Option}
use Rattle.std.specs.declared.result.Result.{Result}
use Rattle.board_terms.specs.declared.event.Edge.{Edge}
use Rattle.board_terms.specs.declared.event.HostEvent.{HostEvent}
use Rattle.layout_reader.specs.Layouts.{KeyLayout}
use Rattle.text_lines.specs.Fields.{fields}
use Rattle.first_fault.specs.FirstFault.{Fault, and_then, at_item, first_broken, outcome_from, unless}
use Rattle.key_file.specs.declared.event.Event.{Event}
use Rattle.key_file.specs.declared.event.Event.TheVariants.{EdgeOf, HostOf, End}
use Rattle.key_file.specs.declared.rule.Rule.{Rule}
use Rattle.key_file.specs.Cursors.{sound, said_in, edge_before, host_before, edges_in, host_in}
use Rattle.key_file.specs.Fields.{said_by}
use Rattle.key_file.specs.Histories.{KeyHistory, Before, at_first, with_event}
use Rattle.key_file.specs.Briefs.{brief_of}
use Rattle.key_file.specs.KeyFile.{history_of, take_said, take_line, finish, history_at, with_fault_placed}
use Rattle.key_file.specs.Rules.{judgements}

-- a history has the events so far and those that lines give
pub record Given (layout : KeyLayout) (before : Before) (texts : List (List ℕ)) (history : KeyHistory) : Type 0 where
  pub edges : history.edges ≡ before.edges ++ edges_in layout texts
  pub host : history.host ≡ before.host ++ host_in layout texts

-- the events so far with what one line says
record TakenAs (before after : Before) (said : Option Event) : Type 0 where
  edges : after.edges ≡ before.edges ++ edge_before said []
  host : after.host ≡ before.host ++ host_before said []

pushed : (before : Before) (event : Event) → TakenAs before (with_event before event) (Some event)
pushed before (EdgeOf e) = record { edges = refl; host = sym (append-nil before.host) }
pushed before (HostOf e) = record { edges = sym (append-nil before.edges); host = refl }
pushed before (End stamp) = record { edges = sym (append-nil before.edges); host = sym (append-nil before.host) }

taken_if : (before after : Before) (event : Event) (broken : Option Rule)
    → unless broken (with_event before event) ≡ Ok after → TakenAs before after (Some event)
taken_if before after event None h =
    let same : with_event before event ≡ after = cc h in
    subst (λ b. TakenAs before b (Some event)) same (pushed before event)
taken_if before after event (Some rule) h = absurd cc

taken_said : (before after : Before) (said : Option Event) → take_said before said ≡ Ok after → TakenAs before after said
taken_said before after None h =
    let same : before ≡ after = cc h in
    subst (λ b. TakenAs before b None) same (record { edges = sym (append-nil before.edges); host = sym (append-nil before.host) })
taken_said before after (Some event) h = taken_if before after event (first_broken (judgements (brief_of before) event)) h

edge_more : (said : Option Event) (edges : List Edge) → edge_before said [] ++ edges ≡ edge_before said edges
edge_more None edges = refl
edge_more (Some (EdgeOf e)) edges = refl
edge_more (Some (HostOf e)) edges = refl
edge_more (Some (End stamp)) edges = refl

host_more : (said : Option Event) (events : List HostEvent) → host_before said [] ++ events ≡ host_before said events
host_more None events = refl
host_more (Some (EdgeOf e)) events = refl
host_more (Some (HostOf e)) events = refl
host_more (Some (End stamp)) events = refl

-- one line more
one_more : (layout : KeyLayout) (before after : Before) (said : Option Event) (more : List (List ℕ)) (history : KeyHistory)
    → TakenAs before after said → Given layout after more history
    → (history.edges ≡ before.edges ++ edge_before said (edges_in layout more))
    × (history.host ≡ before.host ++ host_before said (host_in layout more))
one_more layout before after said more history taken given = (
  given.edges ∙ ap (λ xs. xs ++ edges_in layout more) taken.edges ∙ append_assoc before.edges (edge_before said []) (edges_in layout more)
      ∙ ap (λ xs. before.edges ++ xs) (edge_more said (edges_in layout more)),
  given.host ∙ ap (λ xs. xs ++ host_in layout more) taken.host ∙ append_assoc before.host (host_before said []) (host_in layout more)
      ∙ ap (λ xs. before.host ++ xs) (host_more said (host_in layout more)),
)

abbrev outcome_of : KeyLayout → ℕ → Before → List (List ℕ) → Result KeyHistory (Fault Rule)
outcome_of layout number before texts = outcome_from (take_line layout) finish number before texts

ended : (layout : KeyLayout) (before : Before) (number : ℕ) (history : KeyHistory) (end : Option ℕ)
    → at_item number (history_at before end) ≡ Ok history → Given layout before [] history
ended layout before number history (Some end) h =
    let same : record { edges = before.edges; host = before.host; end = end } ≡ history = cc h in
    subst (λ x. Given layout before [] x) same (record { edges = sym (append-nil before.edges); host = sym (append-nil before.host) })
ended layout before number history None h = absurd cc

-- what lines come to, the first of which says this
module _ (layout : KeyLayout) (number : ℕ) (before : Before) (line : List ℕ) (more : List (List ℕ)) (history : KeyHistory)
    (next : (after : Before) → outcome_of layout (number + 1) after more ≡ Ok history → Given layout after more history) where
  abbrev rest : Result Before Rule → Result KeyHistory (Fault Rule)
  rest result = and_then (at_item number result) (λ after. outcome_of layout (number + 1) after more)

  given_then : (said : Option Event) (result : Result Before Rule) → said_by layout (fields line) ≡ Ok said
      → take_said before said ≡ result → rest result ≡ Ok history → Given layout before (line ∷ more) history
  given_then said (Err rule) is taken h = absurd cc
  given_then said (Ok after) is taken h =
      let both = one_more layout before after said more history (taken_said before after said taken) (next after h) in
      let here : said_in layout line ≡ said = ap (λ s. sound s) is in
      record {
        edges = both.0 ∙ sym (ap (λ v. before.edges ++ edge_before v (edges_in layout more)) here);
        host = both.1 ∙ sym (ap (λ v. before.host ++ host_before v (host_in layout more)) here);
      }

  given_by : (said : Result (Option Event) Rule) → said_by layout (fields line) ≡ said
      → rest (and_then said (take_said before)) ≡ Ok history → Given layout before (line ∷ more) history
  given_by (Err rule) is h = absurd cc
  given_by (Ok said) is h = given_then said (take_said before said) is refl h

given_from : (layout : KeyLayout) (number : ℕ) (before : Before) (texts : List (List ℕ)) (history : KeyHistory)
    → outcome_of layout number before texts ≡ Ok history → Given layout before texts history
given_from layout number before [] history h = ended layout before number history before.end h
given_from layout number before (line ∷ more) history h =
    given_by layout number before line more history (λ after g. given_from layout (number + 1) after more history g)
    (said_by layout (fields line)) refl h

-- to place a fault in its line leaves a history as it is
pub unplaced : (r : Result KeyHistory (Fault Rule)) (history : KeyHistory) → with_fault_placed r ≡ Ok history → r ≡ Ok history
unplaced (Ok h) history is = let same : h ≡ history = cc is in ap (λ x. Ok x) same
unplaced (Err fault) history is = absurd cc

-- a file that has a history gives its events
pub events_given : (layout : KeyLayout) (text : List ℕ) (history : KeyHistory)
    → history_of layout text ≡ Ok history → Given layout at_first (lines text) history
unfolding history_of
events_given layout text history h =
    given_from layout 1 at_first (lines text) history (unplaced (outcome_of layout 1 at_first (lines text)) history h)

-- the first of what is left of a list, and what is left after it
pub record IsFirstLeft {X : Type 0} (xs : List X) (n : ℕ) (x : X) (more : List X) : Type 0 where
  pub first : Some x ≡ slice_get xs n
  pub others : more ≡ drop (n + 1) xs
  pub within : n < length xs

-- the first of what is left of a list is the list's element at that place
pub first_left : {X : Type 0} (xs : List X) (n : ℕ) (x : X) (more : List X) → x ∷ more ≡ drop n xs → IsFirstLeft xs n x more
first_left [] zero x more h = absurd cc
first_left [] (suc n) x more h = absurd cc
first_left (y ∷ ys) zero x more h =
    let head : x ≡ y = cc h in
    let tail : more ≡ ys = cc h in
    record { first = ap (λ v. Some v) head; others = tail; within = omega arith }
first_left (y ∷ ys) (suc n) x more h =
    let r = first_left ys n x more h in
    let e : suc n + 1 ≡ suc (n + 1) = omega arith in
    record { first = r.first; others = subst (λ k. more ≡ drop k (y ∷ ys)) (sym e) r.others; within = omega (arith, r.within) }

-- nothing is left of a list
pub none_left : {X : Type 0} (xs : List X) (n : ℕ) → [] ≡ drop n xs → None ≡ slice_get xs n
none_left [] n h = refl
none_left (x ∷ xs) zero h = absurd cc
none_left (x ∷ xs) (suc n) h = none_left xs n h
