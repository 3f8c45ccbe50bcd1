-- Which keys are down after edges.
use Rattle.std.specs.Prelude.{ℕ, ◌+◌, ◌≤◌, Bool, false, ◌==◌, nat_le, List, [], ◌∷◌}
use Rattle.std.specs.List.{filter}
use Rattle.board_terms.specs.declared.event.Edge.{Edge}

-- the edges of the key at a place
abbrev pub of_place : ℕ → List Edge → List Edge
of_place place edges = filter (λ e. e.place == place) edges

-- whether a key is down after its edges; `before` says whether it was before them
abbrev pub last_of : Bool → List Edge → Bool
last_of before [] = before
last_of before (e ∷ es) = last_of e.down es

-- whether an edge is made at a cycle: cycle 4,096 is stamp 0
abbrev pub is_made : ℕ → Edge → Bool
is_made cycle e = nat_le (e.stamp + 4096) cycle

-- whether the key at a place is down at a cycle: its edges up to then are made. All keys are up at first
abbrev pub is_pressed : List Edge → ℕ → ℕ → Bool
is_pressed edges cycle place = last_of false (filter (is_made cycle) (of_place place edges))

-- the stamps don't fall
abbrev pub AreInOrder : List Edge → Type 0
AreInOrder [] = Unit {0}
AreInOrder (e ∷ []) = Unit {0}
AreInOrder (e ∷ f ∷ es) = (e.stamp ≤ f.stamp) × AreInOrder (f ∷ es)
