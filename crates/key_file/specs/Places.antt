-- Where the cursors of a key file are.
use Rattle.std.specs.Prelude.{◌≡◌, ℕ, List, drop, Ok}
use Rattle.std.specs.Str.Lines.{lines}
use Rattle.layout_reader.specs.Layouts.{KeyLayout}
use Rattle.key_file.specs.Accepted.{IsAccepted}
use Rattle.key_file.specs.Cursors.{edges_in, host_in, history_in}
use Rattle.key_file.specs.KeyFile.{history_of}

-- the file has a history; the lines after each cursor give just what wasn't taken of it
pub record AreCursors (layout : KeyLayout) (text edges_text host_text : List ℕ) (edges_taken host_taken stop : ℕ)
    : Type 0 where
  pub file : history_of layout text ≡ Ok (history_in layout text)
  pub accepted : IsAccepted (history_in layout text)
  pub end : stop ≡ (history_in layout text).end
  pub edges : edges_in layout (lines edges_text) ≡ drop edges_taken (history_in layout text).edges
  pub host : host_in layout (lines host_text) ≡ drop host_taken (history_in layout text).host
