-- Quiet histories, and the one log that each has.
use Rattle.std.specs.Prelude.{◌≡◌, ◌≤◌, ◌<◌, ℕ, ◌+◌, ◌-◌, ◌*◌, ◌/◌, ◌%◌, ◌⊎◌, List, [], ◌∷◌, length, All}
use Rattle.board_terms.specs.declared.event.HostAct.{HostAct}
use Rattle.board_terms.specs.declared.event.HostAct.TheVariants.{Write60, Write64, Read60, Mask, Unmask, Take}
use Rattle.board_terms.specs.declared.event.HostAct.TheVariants.{Status, Flip}
use Rattle.board_terms.specs.declared.event.HostEvent.{HostEvent}
use Rattle.board_terms.specs.Cadence.{KeepsCadence, KeepsCadenceTo, IsLast, listed}
use Rattle.layout_reader.specs.Layouts.{KeyLayout}
use Rattle.key_file.specs.Histories.{KeyHistory}
use Rattle.model_link.specs.declared.line.LogLine.{LogLine}
use Rattle.model_link.specs.Machine.{keyboard}
use Rattle.model_link.specs.Expected.{expected, expected_log}

-- the host takes words from INT 09h's buffer and reads the status; it writes to no port, reads no byte, masks nothing,
-- and no noise turns a bit round
abbrev pub IsQuietAct : HostAct → Type 0
IsQuietAct Take = Unit {0}
IsQuietAct Status = Unit {0}
IsQuietAct (Write60 byte) = ⊥
IsQuietAct (Write64 byte) = ⊥
IsQuietAct Read60 = ⊥
IsQuietAct Mask = ⊥
IsQuietAct Unmask = ⊥
IsQuietAct (Flip bit) = ⊥

-- a stamp in the second half of a tick: after the reads of the columns, the byte, and INT 09h's read of it
abbrev pub IsLate : ℕ → Type 0
IsLate stamp = 1024 ≤ stamp % 2048

-- no two of the host's events have one stamp, so that each is done in its own cycle
abbrev pub AreRising : List HostEvent → Type 0
AreRising [] = Unit {0}
AreRising (e ∷ []) = Unit {0}
AreRising (e ∷ f ∷ es) = (e.stamp < f.stamp) × AreRising (f ∷ es)

-- an end that isn't one of the five cycles after a multiple of 2,048: in these a tick may have started, or not yet
abbrev pub IsClearOfStarts : ℕ → Type 0
IsClearOfStarts stop = (stop % 2048 ≡ 0) ⊎ (6 ≤ stop % 2048)

pub record IsQuiet (history : KeyHistory) : Type 0 where
  pub acts : All (λ event. IsQuietAct event.act) history.host
  pub rising : AreRising history.host
  pub host_late : All (λ event. IsLate event.stamp) history.host
  pub edges_late : All (λ edge. IsLate edge.stamp) history.edges
  pub clear : IsClearOfStarts history.end

-- the starts at the multiples of 2,048 themselves, and the last of them in a run with this end
abbrev pub even : ℕ → ℕ
even n = 2048 * n

abbrev pub last_even : ℕ → ℕ
last_even stop = (stop + 2047) / 2048

-- the expected log at these starts: of layout and history alone
abbrev pub quiet_log : KeyLayout → KeyHistory → List LogLine
quiet_log layout history = expected (keyboard layout) history.edges history.host even (last_even history.end)

-- they are starts of ticks like others
pub record EvenLaw : Type 0 where
  pub cadence : KeepsCadence even
  pub last : (stop : ℕ) → IsLast even stop (last_even stop)

-- a quiet history has as many ticks and says the same, at whatever starts in the cadence
pub record SaysTheSame (layout : KeyLayout) (history : KeyHistory) (starts : ℕ → ℕ) (last : ℕ) : Type 0 where
  pub ticks : last ≡ last_even history.end
  pub log : expected (keyboard layout) history.edges history.host starts last ≡ quiet_log layout history

abbrev pub QuietLaw : Type 0
QuietLaw =
    (layout : KeyLayout) (history : KeyHistory) (starts : ℕ → ℕ) (last : ℕ) → IsQuiet history
    → KeepsCadenceTo starts last → IsLast starts history.end last → SaysTheSame layout history starts last

-- as the law is used: the starts of a run are in a list
abbrev pub ListedLaw : Type 0
ListedLaw =
    (layout : KeyLayout) (history : KeyHistory) (starts : List ℕ) → IsQuiet history
    → KeepsCadenceTo (listed starts) (length starts - 1) → IsLast (listed starts) history.end (length starts - 1)
    → expected_log layout history starts ≡ quiet_log layout history
