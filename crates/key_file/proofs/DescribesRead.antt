-- A text that has a history tells it.
use Rattle.std.proofs.Common.{◌≡◌, ℕ, ◌+◌, List, [], ◌∷◌, None, Some, Ok, Err, refl, ap, sym, subst, ◌∙◌}
use Rattle.std.specs.Str.Lines.{lines}
use Rattle.std.specs.declared.option.Option.{Option}
use Rattle.std.specs.declared.result.Result.{Result}
use Rattle.layout_reader.specs.Layouts.{KeyLayout}
use Rattle.text_lines.specs.Fields.{fields}
use Rattle.first_fault.specs.FirstFault.{Fault, and_then, at_item, first_broken, unless}
use Rattle.key_file.specs.declared.event.Event.{Event}
use Rattle.key_file.specs.declared.event.Event.TheVariants.{EdgeOf, HostOf, End}
use Rattle.key_file.specs.declared.rule.Rule.{Rule}
use Rattle.key_file.specs.Cursors.{sound, said_in}
use Rattle.key_file.specs.Fields.{said_by}
use Rattle.key_file.specs.Histories.{KeyHistory, Before, at_first, with_event}
use Rattle.key_file.specs.Briefs.{brief_of}
use Rattle.key_file.specs.KeyFile.{history_of, take_said, history_at}
use Rattle.key_file.specs.Rules.{judgements}
use Rattle.key_file.specs.Described.{AreOfRightForm, event_before, events_in, AreInJointOrder, Describes}
use Rattle.key_file.proofs.Cursors.{events_given, unplaced}
use Rattle.key_file.proofs.ReadsDescribed.{outcome_of}
use Rattle.key_file.proofs.Unbroken.{fits}

-- the events after those so far: none where the end has come
abbrev GoOn : ℕ → Option ℕ → List Event → ℕ → Type 0
GoOn from None events end = AreInJointOrder from events end
GoOn from (Some stop) events end = (stop ≡ end) × (events ≡ [])

record DescribesOn (layout : KeyLayout) (before : Before) (texts : List (List ℕ)) (history : KeyHistory) : Type 0 where
  form : AreOfRightForm layout texts
  order : GoOn before.stamp before.end (events_in layout texts) history.end

stopped : (layout : KeyLayout) (before : Before) (number : ℕ) (history : KeyHistory) (end : Option ℕ)
    → at_item number (history_at before end) ≡ Ok history → GoOn before.stamp end [] history.end
stopped layout before number history (Some end) h =
    let same : record { edges = before.edges; host = before.host; end = end } ≡ history = cc h in
    (ap (λ (x : KeyHistory). x.end) same, refl)
stopped layout before number history None h = absurd cc

-- an event, before those that go on after it
event_first : (before after : Before) (event : Event) (broken : Option Rule) (events : List Event) (end : ℕ)
    → first_broken (judgements (brief_of before) event) ≡ broken → unless broken (with_event before event) ≡ Ok after
    → GoOn after.stamp after.end events end → GoOn before.stamp before.end (event ∷ events) end
event_first before after event (Some rule) events end is h on = absurd cc
event_first before after (EdgeOf e) None events end is h on =
    let same : after ≡ with_event before (EdgeOf e) = cc in
    let fit = fits (brief_of before) (EdgeOf e) is in
    let first : GoOn e.stamp before.end events end = subst (λ (b : Before). GoOn b.stamp b.end events end) same on in
    let next : AreInJointOrder e.stamp events end = subst (λ stop. GoOn e.stamp stop events end) fit.goes_on first in
    subst (λ stop. GoOn before.stamp stop (EdgeOf e ∷ events) end) (sym fit.goes_on) (fit.order, next)
event_first before after (HostOf e) None events end is h on =
    let same : after ≡ with_event before (HostOf e) = cc in
    let fit = fits (brief_of before) (HostOf e) is in
    let first : GoOn e.stamp before.end events end = subst (λ (b : Before). GoOn b.stamp b.end events end) same on in
    let next : AreInJointOrder e.stamp events end = subst (λ stop. GoOn e.stamp stop events end) fit.goes_on first in
    subst (λ stop. GoOn before.stamp stop (HostOf e ∷ events) end) (sym fit.goes_on) (fit.order, next)
event_first before after (End stamp) None events end is h on =
    let same : after ≡ with_event before (End stamp) = cc in
    let fit = fits (brief_of before) (End stamp) is in
    let last : GoOn stamp (Some stamp) events end = subst (λ (b : Before). GoOn b.stamp b.end events end) same on in
    subst (λ stop. GoOn before.stamp stop (End stamp ∷ events) end) (sym fit.goes_on) (fit.order, last.0, last.1)

said_first : (before after : Before) (said : Option Event) (events : List Event) (end : ℕ)
    → take_said before said ≡ Ok after → GoOn after.stamp after.end events end → GoOn before.stamp before.end (event_before said events) end
said_first before after None events end h on =
    let same : after ≡ before = cc in
    subst (λ (b : Before). GoOn b.stamp b.end events end) same on
said_first before after (Some event) events end h on =
    event_first before after event (first_broken (judgements (brief_of before) event)) events end refl h on

module _ (layout : KeyLayout) (number : ℕ) (before : Before) (line : List ℕ) (more : List (List ℕ)) (history : KeyHistory)
    (next : (after : Before) → outcome_of layout (number + 1) after more ≡ Ok history → DescribesOn layout after more history) where
  abbrev rest : Result Before Rule → Result KeyHistory (Fault Rule)
  rest result = and_then (at_item number result) (λ after. outcome_of layout (number + 1) after more)

  describes_then : (said : Option Event) (result : Result Before Rule) → said_by layout (fields line) ≡ Ok said
      → take_said before said ≡ result → rest result ≡ Ok history → DescribesOn layout before (line ∷ more) history
  describes_then said (Err rule) is taken h = absurd cc
  describes_then said (Ok after) is taken h =
      let on = next after h in
      let here : said_in layout line ≡ said = ap (λ s. sound s) is in
      record {
        form = (is ∙ ap Ok (sym here), on.form);
        order = subst (λ s. GoOn before.stamp before.end (event_before s (events_in layout more)) history.end) (sym here)
            (said_first before after said (events_in layout more) history.end taken on.order);
      }

  describes_by : (said : Result (Option Event) Rule) → said_by layout (fields line) ≡ said
      → rest (and_then said (take_said before)) ≡ Ok history → DescribesOn layout before (line ∷ more) history
  describes_by (Err rule) is h = absurd cc
  describes_by (Ok said) is h = describes_then said (take_said before said) is refl h

describes_from : (layout : KeyLayout) (number : ℕ) (before : Before) (texts : List (List ℕ)) (history : KeyHistory)
    → outcome_of layout number before texts ≡ Ok history → DescribesOn layout before texts history
describes_from layout number before [] history h = record { form = tt; order = stopped layout before number history before.end h }
describes_from layout number before (line ∷ more) history h =
    describes_by layout number before line more history (λ after g. describes_from layout (number + 1) after more history g)
    (said_by layout (fields line)) refl h

-- a text's history is reported by it
pub describes-read : (layout : KeyLayout) (text : List ℕ) (history : KeyHistory)
    → history_of layout text ≡ Ok history → Describes layout text history
unfolding history_of
describes-read layout text history h =
    let given = events_given layout text history h in
    let on = describes_from layout 1 at_first (lines text) history (unplaced (outcome_of layout 1 at_first (lines text)) history h) in
    record { form = on.form; edges = sym given.edges; host = sym given.host; order = on.order }
