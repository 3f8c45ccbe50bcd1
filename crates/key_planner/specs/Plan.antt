-- The text of a plan: the key file in which the strokes of a text are made, its lines in the order of their stamps.
use Rattle.std.specs.Prelude.{ℕ, List, [], ◌∷◌, ◌++◌}
use Rattle.std.proofs.Common.{suc}
use Rattle.std.specs.Option.{option_map}
use Rattle.std.specs.declared.option.Option.{Option}
use Rattle.layout_reader.specs.Layouts.{KeyLayout}
use Rattle.key_lines.specs.Lines.{end_line, press_line, release_line, take_line}
use Rattle.law_typed_log.specs.Typing.{Stroke, Plain, Shifted, stroke_start, strokes_of}
use Rattle.law_typed_log.specs.Typing.{first_up, second_down, second_up, word_taken}

-- the lines of the keys of a stroke that begins at a stamp
abbrev pub stroke_key_lines : ℕ → Stroke → List ℕ
stroke_key_lines start (Plain key) = press_line start key ++ release_line (first_up start) key
stroke_key_lines start (Shifted shift key) =
    press_line start shift ++ press_line (second_down start) key
    ++ release_line (second_up start) key ++ release_line (first_up start) shift

-- the lines of a stroke: a character is typed, and its word is taken
abbrev pub stroke_lines : ℕ → Stroke → List ℕ
stroke_lines start stroke = stroke_key_lines start stroke ++ take_line (word_taken start)

-- the lines of strokes, the first of which has this number; the end is where one stroke more would begin
abbrev pub lines_from : ℕ → List Stroke → List ℕ
lines_from number [] = end_line (stroke_start number)
lines_from number (stroke ∷ strokes) = stroke_lines (stroke_start number) stroke ++ lines_from (suc number) strokes

-- the plan of strokes
unfoldable pub plan_of : List Stroke → List ℕ
plan_of strokes = lines_from 0 strokes

-- the plan of a text, if each of its bytes has a key
abbrev pub text_plan : KeyLayout → List ℕ → Option (List ℕ)
text_plan layout text = option_map plan_of (strokes_of layout text)
