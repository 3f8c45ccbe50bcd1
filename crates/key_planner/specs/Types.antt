-- A key file that types a text.
use Rattle.std.specs.Prelude.{◌≡◌, ◌≤◌, List, ℕ, length, Ok}
use Rattle.layout_reader.specs.Layouts.{KeyLayout}
use Rattle.key_file.specs.Cursors.{history_in}
use Rattle.key_file.specs.KeyFile.{history_of}
use Rattle.law_quiet_log.specs.Quiet.{quiet_log}
use Rattle.law_typed_log.specs.Typed.{IsPlayable, Says}

-- the file is short enough to be run, and has a history; that is accepted for the layout and quiet, and its log says
-- the text: nothing is lost, and the host takes its characters, one after another
pub record Types (layout : KeyLayout) (text file : List ℕ) : Type 0 where
  pub within : length file ≤ 4194304
  pub read : history_of layout file ≡ Ok (history_in layout file)
  pub playable : IsPlayable layout (history_in layout file)
  pub says : Says text (quiet_log layout (history_in layout file))
