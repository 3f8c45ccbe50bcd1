-- Debounced keys: a key's state is what two readings in a row agree on.
use Rattle.std.specs.Prelude.{◌≡◌, ◌<◌, ℕ, Bool, true, false, List, [], ◌∷◌, slice_index_or}
use Rattle.board_terms.specs.Matrix.{all_up, turned}
use Rattle.layout_reader.specs.Layouts.{KeyLayout, HasEntry}
use Rattle.model_link.specs.TickEdges.{shown}

-- which keys were down when the columns were read last, and which are taken to be, by places
pub record Switches : Type 0 where
  pub read : List Bool
  pub settled : List Bool

-- before any reading
abbrev pub all_open : Switches
all_open = record { read = all_up; settled = all_up }

abbrev pub is_down_at : List Bool → ℕ → Bool
is_down_at keys place = slice_index_or keys place false

-- a key that two readings in a row show the same is so; else it is as it was
abbrev pub settles : Bool → Bool → Bool → Bool
settles was true true = true
settles was false false = false
settles was true false = was
settles was false true = was

-- edges turn their keys, one after the other
abbrev pub turned_all : List (ℕ × Bool) → List Bool → List Bool
turned_all [] keys = keys
turned_all ((place, down) ∷ edges) keys = turned_all edges (turned place down keys)

-- the edges that the keyboard takes of those that a reading shows: all of them, or with a debounce those of the keys that
-- this reading and the last agree on
abbrev pub taken : Bool → List (ℕ × Bool) → Switches → List (ℕ × Bool)
taken false edges s = edges
taken true edges s = shown (is_down_at s.settled)
    (λ p. settles (is_down_at s.settled p) (is_down_at s.read p) (is_down_at (turned_all edges s.read) p))

-- the switches after a reading
abbrev pub switched : Bool → List (ℕ × Bool) → Switches → Switches
switched debounce edges s = record {
  read = turned_all edges s.read;
  settled = turned_all (taken debounce edges s) s.settled;
}

-- none is down where the layout has no key
abbrev pub AreKnown : KeyLayout → Switches → Type 0
AreKnown layout s =
    (place : ℕ) → place < 96
    → (is_down_at s.read place ≡ true → HasEntry layout place) × (is_down_at s.settled place ≡ true → HasEntry layout place)
