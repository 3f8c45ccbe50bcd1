-- Each edge of a key is taken once, however its contact bounces.
use Rattle.std.specs.Prelude.{◌≡◌, ◌≤◌, ◌<◌, ℕ, suc, ◌+◌, ◌==◌, Bool, nat_le, List, length, map, take}
use Rattle.std.specs.List.{filter}
use Rattle.board_terms.specs.Cadence.{KeepsCadence}
use Rattle.board_terms.specs.Edges.{of_place}
use Rattle.board_terms.specs.declared.event.Edge.{Edge}
use Rattle.board_terms.specs.declared.event.HostEvent.{HostEvent}
use Rattle.layout_reader.specs.Layouts.{KeyLayout}
use Rattle.model_link.specs.Laws.{taken_before}
use Rattle.model_link.specs.TickEdges.{change_of, read_at}
use Rattle.law_keys_settle.specs.Settling.{AreApart, AreLater, distance, undebounced}

-- those of a key among the edges that a keyboard takes
abbrev pub of_key : ℕ → List (ℕ × Bool) → List (ℕ × Bool)
of_key place changes = filter (λ c. c.0 == place) changes

-- what the keyboard has taken of a key after tick n are the key's first edges, each once and in their order: all that were
-- 10,300 cycles old when the tick read its column, and none that hadn't come then
pub record TakesOnce (layout : KeyLayout) (keys seen : List Edge) (host : List HostEvent) (starts : ℕ → ℕ) (place n : ℕ)
    : Type 0 where
  pub count : ℕ
  pub takes : of_key place (taken_before (undebounced layout) seen host starts (suc n))
      ≡ map change_of (take count (of_place place keys))
  pub all_old : length (filter (λ e. nat_le (e.stamp + distance) (read_at starts place n)) (of_place place keys)) ≤ count
  pub none_new : count ≤ length (filter (λ e. nat_le e.stamp (read_at starts place n)) (of_place place keys))

-- so it is of a keyboard without a debounce under the same edges of the key, each a little later
abbrev pub EdgesAreTakenOnce : Type 0
EdgesAreTakenOnce =
    (layout : KeyLayout) (keys seen : List Edge) (host : List HostEvent) (starts : ℕ → ℕ) (place n : ℕ)
    → KeepsCadence starts → place < 96 → AreApart (of_place place keys)
    → AreLater (of_place place keys) (of_place place seen) → TakesOnce layout keys seen host starts place n
