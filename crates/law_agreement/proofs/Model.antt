-- The model's tick by what the columns show, with no list of starts in it.
use Rattle.std.specs.Prelude.{ℕ, ◌+◌, ◌-◌, ◌*◌, ◌/◌, Bool, List}
use Rattle.board_terms.specs.declared.event.Edge.{Edge}
use Rattle.board_terms.specs.declared.event.HostEvent.{HostEvent}
use Rattle.model_controller.specs.ByteTime.{quietly}
use Rattle.model_controller.specs.declared.UnderWay.{UnderWay}
use Rattle.host_turn.specs.Run.{side_at_start}
use Rattle.model_link.specs.Expected.{Whole, whole_tick}
use Rattle.model_link.specs.Machine.{KeyboardMachine}
use Rattle.model_link.specs.TickEdges.{is_down, shown}

-- which keys the columns show as down in a tick that starts at a cycle
abbrev pub columns_in : List Edge → ℕ → ℕ → Bool
columns_in edges cycle p = is_down edges p (cycle - 4096 + 16 + 16 * (p / 8))

-- the model at a first start
abbrev pub at_first : {S : Type 0} → KeyboardMachine S → List HostEvent → ℕ → Whole S
at_first kb events cycle =
    record { keys = kb.start; side = quietly events (cycle - 4096) 4096 (side_at_start UnderWay); shown = 0 }

-- and what the tick from a start to another makes of it
abbrev pub by_columns : {S : Type 0} → KeyboardMachine S → List Edge → List HostEvent → ℕ → ℕ → Whole S → Whole S
by_columns kb edges events from to m =
    whole_tick kb events (shown (kb.held m.keys) (columns_in edges from)) from (to - from - 609) m
