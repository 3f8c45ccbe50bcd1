-- The edges of a tick: which tick sees an edge, and what the columns of the matrix show.
use Rattle.std.specs.Prelude.{ℕ, ◌+◌, ◌*◌, ◌/◌, Bool, true, false, not, ◌&&◌, nat_le, List, [], ◌∷◌, ◌++◌, map}
use Rattle.std.specs.List.{filter}
use Rattle.std.proofs.Common.{zero, suc}
use Rattle.board_terms.specs.declared.event.Edge.{Edge}
use Rattle.board_terms.specs.Edges.{of_place, last_of}

-- the stamp at which tick n reads the column of a place
abbrev pub read_at : (ℕ → ℕ) → ℕ → ℕ → ℕ
read_at starts place n = starts n + 16 + 16 * (place / 8)

-- whether n is the least number with a property
abbrev pub none_before : (ℕ → Bool) → ℕ → Bool
none_before p zero = true
none_before p (suc n) = not (p n) && none_before p n

abbrev pub is_least : (ℕ → Bool) → ℕ → Bool
is_least p n = p n && none_before p n

-- an edge is seen in the least tick whose read of its column isn't before its stamp
abbrev pub is_seen : (ℕ → ℕ) → ℕ → Edge → Bool
is_seen starts n e = is_least (λ j. nat_le e.stamp (read_at starts e.place j)) n

-- what there is of each place, by rising place
abbrev pub by_place : {X : Type 0} → (ℕ → List X) → ℕ → List X
by_place f zero = []
by_place f (suc k) = by_place f k ++ f k

-- an edge as the keyboard's tick sees it: its place, and whether its key went down
abbrev pub change_of : Edge → ℕ × Bool
change_of e = (e.place, e.down)

-- the edges of tick n: those that are seen in it, by rising place
abbrev pub tick_edges : (ℕ → ℕ) → List Edge → ℕ → List (ℕ × Bool)
tick_edges starts edges n = map change_of (by_place (λ p. filter (is_seen starts n) (of_place p edges)) 96)

-- whether the key at a place is down at a stamp: by its edges up to then
abbrev pub is_down : List Edge → ℕ → ℕ → Bool
is_down edges place stamp = last_of false (filter (λ e. nat_le e.stamp stamp) (of_place place edges))

-- a key that is down, or up, and wasn't held so
abbrev pub change_at : ℕ → Bool → Bool → List (ℕ × Bool)
change_at p true true = []
change_at p false false = []
change_at p held now = (p, now) ∷ []

-- what the columns show against the held keys
abbrev pub shown_at : (ℕ → Bool) → (ℕ → Bool) → ℕ → List (ℕ × Bool)
shown_at held now p = change_at p (held p) (now p)

abbrev pub shown : (ℕ → Bool) → (ℕ → Bool) → List (ℕ × Bool)
shown held now = by_place (shown_at held now) 96

-- which keys are down as tick n reads them, and as the tick before it did
abbrev pub downs_in : (ℕ → ℕ) → List Edge → ℕ → ℕ → Bool
downs_in starts edges n p = is_down edges p (read_at starts p n)

abbrev pub downs_before : (ℕ → ℕ) → List Edge → ℕ → ℕ → Bool
downs_before starts edges zero p = false
downs_before starts edges (suc n) p = downs_in starts edges n p
