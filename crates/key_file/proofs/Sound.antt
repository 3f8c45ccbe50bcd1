-- What the lines of a key file come to is accepted, as far as it goes.
use Rattle.std.proofs.Common.{◌≡◌, ◌≤◌, ℕ, ◌+◌, Bool, true, false, not, ◌==◌, [], ◌∷◌, ◌++◌, length}
use Rattle.std.proofs.Common.{None, Some, refl, ap, sym, subst, ◌∙◌, arith, length-append}
use Rattle.std.specs.Prelude.{All}
use Rattle.std.specs.declared.option.Option.{Option}
use Rattle.std.proofs.lemmas.Bool.Decides.{nat_tests}
use Rattle.std.proofs.lemmas.List.Elements.{All-push}
use Rattle.board_terms.specs.declared.event.Edge.{Edge}
use Rattle.board_terms.specs.declared.event.HostEvent.{HostEvent}
use Rattle.board_terms.specs.Edges.{of_place, AreInOrder}
use Rattle.board_terms.specs.Flips.{FlipsDataOrParity, AreFlips}
use Rattle.board_terms.specs.Laws.{ArePlaces}
use Rattle.layout_reader.specs.Layouts.{KeyLayout}
use Rattle.key_file.specs.declared.event.Event.TheVariants.{EdgeOf, HostOf, End}
use Rattle.key_file.specs.Accepted.{AreHostEventsInOrder, WritesByte, AreWritten, Alternates, Dwells, IsThin, IsPlaceOf, IsAcceptedFor}
use Rattle.key_file.specs.Histories.{Before, at_first, with_event}
use Rattle.key_file.specs.Briefs.{brief_of}
use Rattle.key_file.proofs.LastEdges.{down-last, of_place-push, of_place-other}
use Rattle.key_file.proofs.Pushes.{in_order-push, host_in_order-push, alternates-push, dwells-push, thin-push}
use Rattle.key_file.proofs.Unbroken.{Fits, EdgeFits, edge_fits}

-- the end, where it has come, is the last event
abbrev pub EndsAt : ℕ → Option ℕ → Type 0
EndsAt stamp None = Unit {0}
EndsAt stamp (Some end) = end ≡ stamp

-- what the events so far keep
pub record IsSound (layout : KeyLayout) (before : Before) : Type 0 where
  pub edges_in_order : AreInOrder before.edges
  pub host_in_order : AreHostEventsInOrder before.host
  pub written : AreWritten before.host
  pub flips : AreFlips before.host
  pub edges_before : All (λ edge. edge.stamp ≤ before.stamp) before.edges
  pub host_before : All (λ event. event.stamp ≤ before.stamp) before.host
  pub stamp_in_range : before.stamp ≤ 240000000
  pub number_in_range : length before.edges + length before.host ≤ 65536
  pub alternate : (place : ℕ) → Alternates false (of_place place before.edges)
  pub dwell : (place : ℕ) → Dwells (of_place place before.edges)
  pub thin : IsThin before.edges
  pub ends : EndsAt before.stamp before.end
  pub places : All (λ edge. IsPlaceOf layout edge.place) before.edges

-- before the first line the events, of which there are none, are lawful
pub sound-first : (layout : KeyLayout) → IsSound layout at_first
sound-first layout = record {
  edges_in_order = tt;
  host_in_order = tt;
  written = λ k d within. absurd (omega arith);
  flips = λ k d within. absurd (omega arith);
  edges_before = λ k d within. absurd (omega arith);
  host_before = λ k d within. absurd (omega arith);
  stamp_in_range = omega arith;
  number_in_range = omega arith;
  alternate = λ place. tt;
  dwell = λ place. tt;
  thin = tt;
  ends = tt;
  places = λ k d within. absurd (omega arith);
}

alternate-push : (before : Before) (e : Edge) (place : ℕ) → Alternates false (of_place place before.edges)
    → EdgeFits (brief_of before) e → (b : Bool) → (e.place == place) ≡ b → Alternates false (of_place place (before.edges ++ e ∷ []))
alternate-push before e place turns fits true h =
    let same : e.place ≡ place = grind (arith, nat_tests, h) in
    let down = ap not (down-last e.place before.edges) in
    rw (of_place-push place before.edges e same)
    (alternates-push false (of_place place before.edges) e turns (fits.turns ∙ down ∙ rw same refl))
alternate-push before e place turns fits false h =
    rw (of_place-other place before.edges e (λ same. grind (arith, nat_tests, h, same))) turns

dwell-push : (before : Before) (e : Edge) (place : ℕ) → Dwells (of_place place before.edges)
    → EdgeFits (brief_of before) e → (b : Bool) → (e.place == place) ≡ b → Dwells (of_place place (before.edges ++ e ∷ []))
dwell-push before e place dwells fits true h =
    let same : e.place ≡ place = grind (arith, nat_tests, h) in
    rw (of_place-push place before.edges e same) (dwells-push (of_place place before.edges) e dwells (λ x is. fits.dwell x (rw same is)))
dwell-push before e place dwells fits false h =
    rw (of_place-other place before.edges e (λ same. grind (arith, nat_tests, h, same))) dwells

-- with an edge that breaks no rule and is of the layout the events stay lawful
pub sound-edge : (layout : KeyLayout) (before : Before) (e : Edge)
    → IsSound layout before → Fits (brief_of before) (EdgeOf e) → IsPlaceOf layout e.place → IsSound layout (with_event before (EdgeOf e))
sound-edge layout before e sound fits place =
    let edge = edge_fits (brief_of before) e fits.key in
    let order = fits.order in
    let few = fits.few in
    let earlier : All (λ edge. edge.stamp ≤ e.stamp) before.edges = λ k d within. omega (arith, sound.edges_before k d within) in
    record {
      edges_in_order = in_order-push before.edges e sound.edges_in_order earlier;
      host_in_order = sound.host_in_order;
      written = sound.written;
      flips = sound.flips;
      edges_before = All-push (λ edge. edge.stamp ≤ e.stamp) before.edges e earlier (omega arith);
      host_before = λ k d within. omega (arith, sound.host_before k d within);
      stamp_in_range = fits.in_range;
      number_in_range = rw (length-append before.edges (e ∷ [])) (grind (arith, nat_tests, few));
      alternate = λ p. alternate-push before e p (sound.alternate p) edge (e.place == p) refl;
      dwell = λ p. dwell-push before e p (sound.dwell p) edge (e.place == p) refl;
      thin = thin-push before.edges e sound.thin edge.thin;
      ends = subst (EndsAt e.stamp) (sym fits.goes_on) tt;
      places = All-push (λ edge. IsPlaceOf layout edge.place) before.edges e sound.places place;
    }

-- with an event of the host that breaks no rule the events stay lawful
pub sound-host : (layout : KeyLayout) (before : Before) (e : HostEvent) → IsSound layout before
    → WritesByte e.act × FlipsDataOrParity e.act → Fits (brief_of before) (HostOf e) → IsSound layout (with_event before (HostOf e))
sound-host layout before e sound fit fits =
    let order = fits.order in
    let few = fits.few in
    let earlier : All (λ event. event.stamp ≤ e.stamp) before.host = λ k d within. omega (arith, sound.host_before k d within) in
    record {
      edges_in_order = sound.edges_in_order;
      host_in_order = host_in_order-push before.host e sound.host_in_order earlier;
      written = All-push (λ event. WritesByte event.act) before.host e sound.written fit.0;
      flips = All-push (λ event. FlipsDataOrParity event.act) before.host e sound.flips fit.1;
      edges_before = λ k d within. omega (arith, sound.edges_before k d within);
      host_before = All-push (λ event. event.stamp ≤ e.stamp) before.host e earlier (omega arith);
      stamp_in_range = fits.in_range;
      number_in_range = rw (length-append before.host (e ∷ [])) (grind (arith, nat_tests, few));
      alternate = sound.alternate;
      dwell = sound.dwell;
      thin = sound.thin;
      ends = subst (EndsAt e.stamp) (sym fits.goes_on) tt;
      places = sound.places;
    }

-- with an end that breaks no rule the events stay lawful
pub sound-end : (layout : KeyLayout) (before : Before) (stamp : ℕ)
    → IsSound layout before → Fits (brief_of before) (End stamp) → IsSound layout (with_event before (End stamp))
sound-end layout before stamp sound fits =
    let order = fits.order in
    record {
      edges_in_order = sound.edges_in_order;
      host_in_order = sound.host_in_order;
      written = sound.written;
      flips = sound.flips;
      edges_before = λ k d within. omega (arith, sound.edges_before k d within);
      host_before = λ k d within. omega (arith, sound.host_before k d within);
      stamp_in_range = fits.in_range;
      number_in_range = sound.number_in_range;
      alternate = sound.alternate;
      dwell = sound.dwell;
      thin = sound.thin;
      ends = refl;
      places = sound.places;
    }

-- the history of sound events that end is accepted
pub accepted : (layout : KeyLayout) (before : Before) (end : ℕ) → ArePlaces before.edges
    → IsSound layout before → before.end ≡ Some end → IsAcceptedFor layout (record { edges = before.edges; host = before.host; end = end })
accepted layout before end places sound is =
    let last : end ≡ before.stamp = subst (EndsAt before.stamp) is sound.ends in
    record {
      accepted = record {
        lawful = record {
          in_matrix = places;
          edges_in_order = sound.edges_in_order;
          host_in_order = sound.host_in_order;
          written = sound.written;
          flips = sound.flips;
          alternate = sound.alternate;
          dwell = sound.dwell;
          thin = sound.thin;
        };
        edges_before_end = λ k d within. omega (arith, last, sound.edges_before k d within);
        host_before_end = λ k d within. omega (arith, last, sound.host_before k d within);
        end_in_range = omega (arith, last, sound.stamp_in_range);
        number_in_range = sound.number_in_range;
      };
      places = sound.places;
    }
