-- How long a log is.
use Rattle.std.specs.Prelude.{◌≤◌, ◌<◌, ℕ, ◌+◌, ◌-◌, ◌*◌, List, length}
use Rattle.board_terms.specs.Cadence.{KeepsCadenceTo, IsLast, listed}
use Rattle.layout_reader.specs.Layouts.{KeyLayout}
use Rattle.key_file.specs.Histories.{KeyHistory}
use Rattle.key_file.specs.Accepted.{IsAccepted}
use Rattle.model_link.specs.Expected.{expected_log}

-- whatever the starts: at most four items a tick, those of the lights and of the keyboard's byte with what INT 09h says
-- of it, and four an event of the host, with what the controller puts out for it
abbrev pub LengthLaw : Type 0
LengthLaw =
    (layout : KeyLayout) (history : KeyHistory) (starts : List ℕ)
    → length (expected_log layout history starts) ≤ 4 * (length starts - 1) + 4 * length history.host

-- so the log of an accepted history has fewer than 800,000
abbrev pub LimitLaw : Type 0
LimitLaw =
    (layout : KeyLayout) (history : KeyHistory) (starts : List ℕ) → IsAccepted history
    → KeepsCadenceTo (listed starts) (length starts - 1) → IsLast (listed starts) history.end (length starts - 1)
    → length (expected_log layout history starts) < 800000
