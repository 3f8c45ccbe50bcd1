-- Lawful histories, which the laws are about; and accepted ones, which a key file can say.
use Rattle.std.specs.Prelude.{◌≡◌, ◌≤◌, ◌<◌, ℕ, ◌+◌, Bool, false, not, List, [], ◌∷◌, length, All, IsSome}
use Rattle.board_terms.specs.declared.event.Edge.{Edge}
use Rattle.board_terms.specs.declared.event.HostAct.{HostAct}
use Rattle.board_terms.specs.declared.event.HostAct.TheVariants.{Write60, Write64, Read60, Mask, Unmask, Take}
use Rattle.board_terms.specs.declared.event.HostAct.TheVariants.{Status, Flip}
use Rattle.board_terms.specs.declared.event.HostEvent.{HostEvent}
use Rattle.board_terms.specs.Edges.{of_place, AreInOrder}
use Rattle.board_terms.specs.Flips.{AreFlips}
use Rattle.board_terms.specs.Laws.{ArePlaces}
use Rattle.layout_reader.specs.Layouts.{KeyLayout, entry_at}
use Rattle.key_file.specs.Histories.{KeyHistory}

-- the stamps of the host's events don't fall
abbrev pub AreHostEventsInOrder : List HostEvent → Type 0
AreHostEventsInOrder [] = Unit {0}
AreHostEventsInOrder (e ∷ []) = Unit {0}
AreHostEventsInOrder (e ∷ f ∷ es) = (e.stamp ≤ f.stamp) × AreHostEventsInOrder (f ∷ es)

-- what the host writes, if it writes, is a byte
abbrev pub WritesByte : HostAct → Type 0
WritesByte (Write60 byte) = byte < 256
WritesByte (Write64 byte) = byte < 256
WritesByte Read60 = Unit {0}
WritesByte Mask = Unit {0}
WritesByte Unmask = Unit {0}
WritesByte Take = Unit {0}
WritesByte Status = Unit {0}
WritesByte (Flip bit) = Unit {0}

-- what is written by these events are bytes
abbrev pub AreWritten : List HostEvent → Type 0
AreWritten events = All (λ event. WritesByte event.act) events

-- the edges of a key are press, release, press and so on, where it was down before them or up
abbrev pub Alternates : Bool → List Edge → Type 0
Alternates down [] = Unit {0}
Alternates down (e ∷ es) = (e.down ≡ not down) × Alternates e.down es

-- two edges of a key that follow each other are at least 2,240 cycles apart
abbrev pub Dwells : List Edge → Type 0
Dwells [] = Unit {0}
Dwells (e ∷ []) = Unit {0}
Dwells (e ∷ f ∷ es) = (e.stamp + 2240 ≤ f.stamp) × Dwells (f ∷ es)

-- the fourth edge after an edge is at least 2,240 cycles after it
abbrev pub IsFifthLater : Edge → List Edge → Type 0
IsFifthLater a (b ∷ c ∷ d ∷ e ∷ es) = a.stamp + 2240 ≤ e.stamp
IsFifthLater a es = Unit {0}

-- of five edges in a row the last is so much later than the first
abbrev pub IsThin : List Edge → Type 0
IsThin [] = Unit {0}
IsThin (a ∷ es) = IsFifthLater a es × IsThin es

-- what keys and a host can do, whatever the layout, however much and however long: the first field says that each edge's
-- place is one of the matrix's 96
pub record IsLawful (history : KeyHistory) : Type 0 where
  pub in_matrix : ArePlaces history.edges
  pub edges_in_order : AreInOrder history.edges
  pub host_in_order : AreHostEventsInOrder history.host
  pub written : AreWritten history.host
  pub flips : AreFlips history.host
  pub alternate : (place : ℕ) → Alternates false (of_place place history.edges)
  pub dwell : (place : ℕ) → Dwells (of_place place history.edges)
  pub thin : IsThin history.edges

-- what is accepted in a key file: a lawful history that ends after all of it, within 600 seconds, and has at most 65,536
-- edges and events
pub record IsAccepted (history : KeyHistory) : Type 0 where
  pub lawful : IsLawful history
  pub edges_before_end : All (λ edge. edge.stamp ≤ history.end) history.edges
  pub host_before_end : All (λ event. event.stamp ≤ history.end) history.host
  pub end_in_range : history.end ≤ 240000000
  pub number_in_range : length history.edges + length history.host ≤ 65536

-- a place is one of the layout's
abbrev pub IsPlaceOf : KeyLayout → ℕ → Type 0
IsPlaceOf layout place = IsSome (entry_at place layout.entries)

-- a history is lawful for a layout
pub record IsLawfulFor (layout : KeyLayout) (history : KeyHistory) : Type 0 where
  pub lawful : IsLawful history
  pub places : All (λ edge. IsPlaceOf layout edge.place) history.edges

-- a history is accepted for a layout
pub record IsAcceptedFor (layout : KeyLayout) (history : KeyHistory) : Type 0 where
  pub accepted : IsAccepted history
  pub places : All (λ edge. IsPlaceOf layout edge.place) history.edges
