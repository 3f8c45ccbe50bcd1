-- The log's text: a line an item.
use Rattle.std.specs.Prelude.{ℕ, List, flat_map}
use Rattle.pc_tables.specs.Items.{line_of}
use Rattle.model_link.specs.declared.line.LogLine.{LogLine}

-- the tick in decimal, a space, the item, LF
abbrev pub line_text : LogLine → List ℕ
line_text line = line_of line.tick line.item

abbrev pub log_text : List LogLine → List ℕ
log_text lines = flat_map line_text lines
