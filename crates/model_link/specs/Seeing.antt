-- How the program judges whether a tick sees an edge: by its own start and that of the tick before.
use Rattle.std.specs.Prelude.{◌≡◌, ◌<◌, ℕ, ◌+◌, ◌*◌, ◌/◌, Bool, false, not, ◌&&◌, nat_le, List, Some, None}
use Rattle.std.specs.List.{filter}
use Rattle.std.proofs.Common.{zero, suc}
use Rattle.std.specs.declared.option.Option.{Option}
use Rattle.board_terms.specs.declared.event.Edge.{Edge}
use Rattle.board_terms.specs.Edges.{of_place}

-- the start of the tick before
abbrev pub start_before : (ℕ → ℕ) → ℕ → Option ℕ
start_before starts zero = None
start_before starts (suc n) = Some (starts n)

-- whether a tick that starts then reads the edge's column in time; without a tick, no
abbrev pub is_read_from : Option ℕ → Edge → Bool
is_read_from None e = false
is_read_from (Some start) e = nat_le e.stamp (start + 16 + 16 * (e.place / 8))

abbrev pub sees : Option ℕ → ℕ → Edge → Bool
sees before now e = is_read_from (Some now) e && not (is_read_from before e)

-- some of the edges have all those that the tick sees
abbrev pub HasSeen : Option ℕ → ℕ → List Edge → List Edge → Type 0
HasSeen before now some all =
    (p : ℕ) → p < 96 → filter (sees before now) (of_place p some) ≡ filter (sees before now) (of_place p all)
