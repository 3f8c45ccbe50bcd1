-- Items with a tick.
use Rattle.std.specs.Prelude.{ℕ}
use Rattle.host_turn.specs.declared.stamped.Stamped.{Stamped}
use Rattle.model_link.specs.declared.line.LogLine.{LogLine}

abbrev pub in_tick : ℕ → Stamped → LogLine
in_tick tick s = record { tick = tick; item = s.item }
