-- Keys that bounce: at most four places have edges in a window, however many edges each has.
use Rattle.std.specs.Prelude.{◌≤◌, ℕ, ◌+◌, ◌&&◌, List, [], ◌∷◌, length, nat_le}
use Rattle.std.specs.List.{filter}
use Rattle.board_terms.specs.Edges.{of_place}
use Rattle.board_terms.specs.declared.event.Edge.{Edge}
use Rattle.board_terms.specs.declared.event.HostEvent.{HostEvent}
use Rattle.layout_reader.specs.Layouts.{KeyLayout, IsKeyLayout}
use Rattle.model_link.specs.Expected.{whole_at}
use Rattle.model_link.specs.Machine.{keyboard}
use Rattle.model_link.specs.TickEdges.{by_place}
use Rattle.mcs48_core.specs.Cpu.{Cpu}
use Rattle.mcs48_ranges.specs.Sizes.{IsFine}
use Rattle.law_agreement.specs.Agreement.{switched_on}
use Rattle.law_agreement.specs.AnyStart.{AreFor, GoesOnAs, ShowsFew}

-- two reads of a column in successive ticks are at most 2,049 cycles apart, and the columns of a tick 176: whether a place has
-- an edge in so many cycles from a stamp on
abbrev pub window : ℕ
window = 2225

abbrev pub moves : List Edge → ℕ → ℕ → List Edge
moves edges from place = filter (λ e. nat_le from e.stamp && nat_le e.stamp (from + window)) (of_place place edges)

-- the place, if it has one
abbrev pub if_any : ℕ → List Edge → List ℕ
if_any place [] = []
if_any place (e ∷ es) = place ∷ []

-- the places that have
abbrev pub moving : List Edge → ℕ → List ℕ
moving edges from = by_place (λ place. if_any place (moves edges from place)) 96

-- if in each window at most four places have edges, every tick shows few
abbrev pub BouncesShowFew : Type 0
BouncesShowFew = (edges : List Edge) → ((from : ℕ) → length (moving edges from) ≤ 4) → (n : ℕ) → ShowsFew edges n

-- so the run from power-on goes on as the model does, by what the columns show
abbrev pub BouncesGoOn : Type 0
BouncesGoOn =
    (layout : KeyLayout) (edges : List Edge) (events : List HostEvent) → IsKeyLayout layout → AreFor layout edges events
    → ((from : ℕ) → length (moving edges from) ≤ 4) → (m : Cpu) → IsFine m
    → GoesOnAs layout edges events (switched_on edges events m) 0
    (λ stamp. whole_at (keyboard layout) edges events (λ n. stamp) 0)
