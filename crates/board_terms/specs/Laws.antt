-- Laws of the key matrix.
use Rattle.std.specs.Prelude.{◌≡◌, ◌<◌, ℕ, true, false, List, [], ◌∷◌, take, slice_get, slice_index_or, Some}
use Rattle.board_terms.specs.declared.event.Edge.{Edge}
use Rattle.board_terms.specs.Edges.{is_made, is_pressed, AreInOrder}
use Rattle.board_terms.specs.Matrix.{all_up, turned_by, Shows}

-- each edge's place is one of the 96
abbrev pub ArePlaces : List Edge → Type 0
ArePlaces [] = Unit {0}
ArePlaces (e ∷ es) = (e.place < 96) × ArePlaces es

-- at a cycle the first `count` edges are made, and no other
pub record AreFirst (edges : List Edge) (cycle count : ℕ) : Type 0 where
  pub made : (i : ℕ) (e : Edge) → i < count → slice_get edges i ≡ Some e → is_made cycle e ≡ true
  pub left : (e : Edge) → slice_get edges count ≡ Some e → is_made cycle e ≡ false

-- edges made in their order, from all keys up, show each key as its edges say
abbrev pub EdgesShown : Type 0
EdgesShown = (edges : List Edge) → ArePlaces edges → Shows (turned_by edges all_up) edges

-- a matrix to which the edges up to a cycle were applied in order shows the keys that are down at it
abbrev pub FirstEdgesShown : Type 0
FirstEdgesShown =
    (edges : List Edge) (cycle count place : ℕ) → AreInOrder edges → ArePlaces edges → AreFirst edges cycle count
    → place < 96 → slice_index_or (turned_by (take count edges) all_up) place false ≡ is_pressed edges cycle place
