-- In which ticks the edges of a queue are seen, and in which they are taken.
use Rattle.std.specs.Prelude.{◌≡◌, ◌≤◌, ◌<◌, ℕ, suc, ◌+◌, Bool, true, if◌then◌else◌, List, [], ◌∷◌}
use Rattle.board_terms.specs.Cadence.{KeepsCadence}
use Rattle.board_terms.specs.declared.event.Edge.{Edge}
use Rattle.board_terms.specs.declared.event.HostEvent.{HostEvent}
use Rattle.edge_queue.specs.Calls.{Call, ArePlaced, handed}
use Rattle.edge_queue.specs.Queue.{empty}
use Rattle.layout_reader.specs.Layouts.{KeyLayout}
use Rattle.model_link.specs.Laws.{taken_in}
use Rattle.model_link.specs.TickEdges.{change_of, is_seen, tick_edges}

-- how many bytes an edge is: a press one, a release two. The keyboard sends one a tick at most
abbrev pub bytes_of : Bool → ℕ
bytes_of down = if down then 1 else 2

-- how many ticks an edge takes: one for each of its bytes, and with a debounce two, since two readings must show it
abbrev pub ticks_of : Bool → Bool → ℕ
ticks_of debounce down = if debounce then 2 else bytes_of down

-- an edge is seen so many ticks after another, at least, as that one takes
abbrev pub IsSeenAfter : Bool → (ℕ → ℕ) → Edge → Edge → Type 0
IsSeenAfter debounce starts e f =
    (n m : ℕ) → is_seen starts n e ≡ true → is_seen starts m f ≡ true → n + ticks_of debounce e.down ≤ m

-- each edge so after the one before it
abbrev pub AreInTurn : Bool → (ℕ → ℕ) → List Edge → Type 0
AreInTurn debounce starts [] = Unit {0}
AreInTurn debounce starts (e ∷ []) = Unit {0}
AreInTurn debounce starts (e ∷ f ∷ es) = IsSeenAfter debounce starts e f × AreInTurn debounce starts (f ∷ es)

-- the edges that a queue hands over
abbrev pub AreSeenInTurn : Type 0
AreSeenInTurn =
    (debounce : Bool) (starts : ℕ → ℕ) → KeepsCadence starts → (calls : List Call) → ArePlaced calls
    → AreInTurn debounce starts (handed debounce calls empty)

-- an edge is the next that is taken from this tick on: some tick takes it and no other edge, and the ticks before that one
-- take none
pub record IsNext (takes : ℕ → List (ℕ × Bool)) (from : ℕ) (e : Edge) : Type 0 where
  pub tick : ℕ
  pub later : from ≤ tick
  pub alone : takes tick ≡ change_of e ∷ []
  pub none_before : (n : ℕ) → from ≤ n → n < tick → takes n ≡ []

-- from this tick on these edges are taken, each in a tick of its own, in their order, and no others
abbrev pub AreTakenFrom : (ℕ → List (ℕ × Bool)) → ℕ → List Edge → Type 0
AreTakenFrom takes from [] = (n : ℕ) → from ≤ n → takes n ≡ []
AreTakenFrom takes from (e ∷ es) = (next : IsNext takes from e) × AreTakenFrom takes (suc next.tick) es

-- so the keyboard takes the edges that a queue hands over, with its layout's debounce or without
abbrev pub AreTakenInTurn : Type 0
AreTakenInTurn =
    (layout : KeyLayout) (host : List HostEvent) (starts : ℕ → ℕ) → KeepsCadence starts → (calls : List Call)
    → ArePlaced calls
    → AreTakenFrom (taken_in layout (handed layout.debounce calls empty) host starts) 0 (handed layout.debounce calls empty)

-- with a debounce each tick takes what the tick before it saw
abbrev pub AreTakenOneLater : Type 0
AreTakenOneLater =
    (layout : KeyLayout) (host : List HostEvent) (starts : ℕ → ℕ) → layout.debounce ≡ true → KeepsCadence starts
    → (calls : List Call) → ArePlaced calls → (n : ℕ)
    → taken_in layout (handed layout.debounce calls empty) host starts (suc n)
    ≡ tick_edges starts (handed layout.debounce calls empty) n
