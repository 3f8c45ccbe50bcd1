-- The text of a log whose items have stamps: a line an item.
use Rattle.std.specs.Prelude.{ℕ, ◌-◌, nat_lt, List, ◌∷◌, flat_map, if◌then◌else◌}
use Rattle.host_turn.specs.declared.stamped.Stamped.{Stamped}
use Rattle.pc_tables.specs.Items.{line_of}

-- the stamp in decimal, a space, the item, LF; the stamp is the cycle less 4,096, with a minus before it if that is
-- below 0
abbrev pub line_text : Stamped → List ℕ
line_text s = if nat_lt s.cycle 4096 then 45 ∷ line_of (4096 - s.cycle) s.item else line_of (s.cycle - 4096) s.item

abbrev pub log_text : List Stamped → List ℕ
log_text log = flat_map line_text log
