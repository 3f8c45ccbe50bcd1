-- What is so of a queue, whatever calls are made, for a keyboard with a debounce or without.
use Rattle.std.specs.Prelude.{◌≡◌, ◌≤◌, ◌<◌, ℕ, ◌+◌, Bool, true, false, List, [], ◌∷◌, ◌++◌, map, Ok}
use Rattle.board_terms.specs.declared.event.Edge.{Edge}
use Rattle.key_file.specs.Accepted.{IsLawful}
use Rattle.edge_queue.specs.Calls.{Call, after, edge_of, handed, let_in, ArePlaced}
use Rattle.edge_queue.specs.Queue.{all_released, answer_of, edge_at, empty, is_down, time_of}

-- each edge comes at this stamp or later, and the next when it has had its time
abbrev pub AreSpaced : Bool → ℕ → List Edge → Type 0
AreSpaced debounce ready [] = Unit {0}
AreSpaced debounce ready (e ∷ es) = (ready ≤ e.stamp) × AreSpaced debounce (e.stamp + time_of debounce e.down) es

-- the edges that are handed over each have their time, and are a lawful history
abbrev pub AreLawful : Type 0
AreLawful =
    (debounce : Bool) (calls : List Call) (stop : ℕ) → ArePlaced calls
    → AreSpaced debounce 0 (handed debounce calls empty)
    × IsLawful (record { edges = handed debounce calls empty; host = []; end = stop })

-- an edge by its place and whether its key went down
abbrev pub key_of : Edge → ℕ × Bool
key_of e = (e.place, e.down)

-- what was handed over, and after it what still waits, is what was let in, in that order
abbrev pub AreInCallersOrder : Type 0
AreInCallersOrder =
    (debounce : Bool) (calls : List Call)
    → map key_of (handed debounce calls empty ++ map edge_of (after debounce calls empty).waiting)
    ≡ map key_of (let_in debounce calls empty)

-- a key that is down finds room for its release; so no key is down after all were released
abbrev pub ReleasesFit : Type 0
ReleasesFit =
    (debounce : Bool) (calls : List Call) → ArePlaced calls → (stamp place : ℕ) → place < 96
    → (is_down (after debounce calls empty) place ≡ true
    → answer_of (edge_at stamp place false) (after debounce calls empty) ≡ Ok tt)
    × (is_down (all_released stamp (after debounce calls empty)) place ≡ false)
