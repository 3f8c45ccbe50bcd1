-- The key file of what was typed, and its history.
use Rattle.std.specs.Prelude.{ℕ, ◌+◌, List, [], ◌∷◌, ◌++◌, codes, if◌then◌else◌}
use Rattle.board_terms.specs.declared.event.Edge.{Edge}
use Rattle.edge_queue.specs.Calls.{edge_of}
use Rattle.edge_queue.specs.Queue.{due_at}
use Rattle.edge_queue.specs.declared.queue.Pushed.{Pushed}
use Rattle.hex_text.specs.Digits.{hex_byte}
use Rattle.key_file.specs.Histories.{KeyHistory}
use Rattle.key_lines.specs.Lines.{comment_line, end_line, press_line, release_line}
use Rattle.law_typed_log.specs.Typing.{stroke_start}
use Rattle.layout_reader.specs.declared.entry.Entry.{Entry}
use Rattle.capture_keys.specs.Keys.{Keys}
use Rattle.capture_keys.specs.declared.key_line.KeyLine.{KeyLine}
use Rattle.capture_keys.specs.declared.key_line.KeyLine.TheVariants.{Turned, Unsent}

-- a key goes down or up
abbrev pub turn_line : Entry → Pushed → List ℕ
turn_line e p = if p.down then press_line p.stamp e else release_line p.stamp e

-- a line
abbrev pub unsent_text : ℕ → List ℕ
unsent_text code = codes "no key sends " ++ hex_byte code

abbrev pub line_text : KeyLine → List ℕ
line_text (Turned e p) = turn_line e p
line_text (Unsent code) = comment_line (unsent_text code)

abbrev pub lines_text : List KeyLine → List ℕ
lines_text [] = []
lines_text (line ∷ more) = line_text line ++ lines_text more

-- if something found no room, a comment says so
abbrev pub rest_text : Keys → List ℕ
rest_text k = if k.full then comment_line (codes "the rest found no room") else []

-- the end: the last edge has had its time, or the keyboard its test, and ten ticks more pass
abbrev pub end_of : Keys → ℕ
end_of k = due_at k.queue.ready (stroke_start 0) + 20480

-- the key file
abbrev pub key_text : Keys → List ℕ
key_text k = lines_text k.lines ++ rest_text k ++ end_line (end_of k)

-- its history
abbrev pub edges_at : KeyLine → List Edge
edges_at (Turned e p) = edge_of p ∷ []
edges_at (Unsent code) = []

abbrev pub edges_in : List KeyLine → List Edge
edges_in [] = []
edges_in (line ∷ more) = edges_at line ++ edges_in more

abbrev pub history_of_keys : Keys → KeyHistory
history_of_keys k = record { edges = edges_in k.lines; host = []; end = end_of k }
