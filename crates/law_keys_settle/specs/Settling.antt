-- Switches that settle late: what contacts show, and which keys without bounces the keyboard sees then.
use Rattle.std.specs.Prelude.{◌≡◌, ◌≤◌, ◌<◌, ℕ, ◌+◌, Bool, true, false, ◌&&◌, nat_le, nat_lt, List, [], ◌∷◌}
use Rattle.std.specs.List.{filter}
use Rattle.board_terms.specs.declared.event.Edge.{Edge}
use Rattle.board_terms.specs.declared.event.HostEvent.{HostEvent}
use Rattle.board_terms.specs.Edges.{of_place, AreInOrder}
use Rattle.board_terms.specs.Cadence.{KeepsCadence}
use Rattle.key_file.specs.Accepted.{Alternates}
use Rattle.layout_reader.specs.Layouts.{KeyLayout}
use Rattle.model_link.specs.Expected.{Whole, whole_at}
use Rattle.model_link.specs.Machine.{LayeredKeyboard, keyboard}
use Rattle.model_link.specs.TickEdges.{is_down}

-- a contact has settled so many cycles after its key's edge: 15 milliseconds
abbrev pub settling : ℕ
settling = 6000

-- two edges of a key are at least so many cycles apart: 25.75 milliseconds
abbrev pub distance : ℕ
distance = 10300

-- the edges of a key whose contact may still show anything at a stamp
abbrev pub is_fresh : ℕ → Edge → Bool
is_fresh stamp e = nat_le e.stamp stamp && nat_lt stamp (e.stamp + settling)

abbrev pub fresh : ℕ → List Edge → List Edge
fresh stamp es = filter (is_fresh stamp) es

-- where a key has no such edge its contact shows it
abbrev pub ShowKeys : List Edge → List Edge → Type 0
ShowKeys contacts keys =
    (place stamp : ℕ) → place < 96 → fresh stamp (of_place place keys) ≡ []
    → is_down contacts place stamp ≡ is_down keys place stamp

-- the edges of a key are so far apart
abbrev pub AreApart : List Edge → Type 0
AreApart [] = Unit {0}
AreApart (e ∷ []) = Unit {0}
AreApart (e ∷ f ∷ es) = (e.stamp + distance ≤ f.stamp) × AreApart (f ∷ es)

-- keys that go down and up in turn, and contacts that show them so
pub record AreSwitches (keys contacts : List Edge) : Type 0 where
  pub alternate : (place : ℕ) → Alternates false (of_place place keys)
  pub apart : (place : ℕ) → AreApart (of_place place keys)
  pub in_order : (place : ℕ) → AreInOrder (of_place place contacts)
  pub shows : ShowKeys contacts keys

-- an edge that comes a little later
pub record IsLater (e f : Edge) : Type 0 where
  pub place : f.place ≡ e.place
  pub down : f.down ≡ e.down
  pub after : e.stamp ≤ f.stamp
  pub soon : f.stamp ≤ e.stamp + distance

-- the same edges of a key, each a little later
abbrev pub AreLater : List Edge → List Edge → Type 0
AreLater [] [] = Unit {0}
AreLater (e ∷ es) (f ∷ fs) = IsLater e f × AreLater es fs
AreLater [] (f ∷ fs) = ⊥
AreLater (e ∷ es) [] = ⊥

-- two keyboards with their PCs that nothing but the switches tells apart
pub record IsLike (w v : Whole LayeredKeyboard) : Type 0 where
  pub keyboard : w.keys.keyboard ≡ v.keys.keyboard
  pub layers : w.keys.layers ≡ v.keys.layers
  pub side : w.side ≡ v.side
  pub lights : w.shown ≡ v.shown

-- the same layout without a debounce
abbrev pub undebounced : KeyLayout → KeyLayout
undebounced layout = record layout { debounce = false }

-- at the start of each tick the keyboard with a debounce under the contacts is the one without under keys that are as
-- clean as the true ones, and a little later. The log is a part of the PC's side
pub record TypesOnce (layout : KeyLayout) (keys contacts : List Edge) (host : List HostEvent) (starts : ℕ → ℕ) : Type 0 where
  pub seen : List Edge
  pub later : (place : ℕ) → place < 96 → AreLater (of_place place keys) (of_place place seen)
  pub like : (n : ℕ) → IsLike (whole_at (keyboard layout) contacts host starts n)
      (whole_at (keyboard (undebounced layout)) seen host starts n)

-- so it is of each layout with a debounce, whatever the host does
abbrev pub SwitchesTypeOnce : Type 0
SwitchesTypeOnce =
    (layout : KeyLayout) (keys contacts : List Edge) (host : List HostEvent) (starts : ℕ → ℕ) → layout.debounce ≡ true
    → KeepsCadence starts → AreSwitches keys contacts → TypesOnce layout keys contacts host starts
