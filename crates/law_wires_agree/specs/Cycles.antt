-- Cycles of the PC's side at its wires, one after another.
use Rattle.std.specs.Prelude.{ℕ, List}
use Rattle.std.proofs.Common.{zero, suc}
use Rattle.board_terms.specs.declared.event.HostEvent.{HostEvent}
use Rattle.board_terms.specs.declared.lines.Lines.{Lines}
use Rattle.ctl_wire.specs.Wires.{Pc, board_cycle}

-- n cycles from this one on, with what the keyboard drives in each
abbrev pub board_cycles : List HostEvent → (ℕ → Lines) → ℕ → ℕ → Pc → Pc
board_cycles events latch zero now b = b
board_cycles events latch (suc n) now b = board_cycles events latch n (suc now) (board_cycle events now (latch now) b)
