-- The link under noise: what the controller does with a byte that came right or wrong, what is sent next, and how it
-- ends.
use Rattle.std.specs.Prelude.{◌≡◌, ◌≤◌, ◌<◌, ℕ, ◌+◌, ◌-◌, ◌==◌, ◌⊎◌, ◌++◌, true, if◌then◌else◌}
use Rattle.std.specs.List.Sorted.{IsPermutation}
use Rattle.std.proofs.Common.{zero, suc}
use Rattle.board_terms.specs.Cadence.{KeepsCadenceTo}
use Rattle.model_controller.specs.declared.UnderWay.{UnderWay}
use Rattle.model_controller.specs.declared.meeting.Meeting.TheVariants.{Got, Idle, Sent}
use Rattle.model_controller.specs.ByteTime.{Arrives, happened_at}
use Rattle.ctl_core.specs.Translation.{after_received}
use Rattle.ctl_link.specs.declared.link.Link.TheVariants.{Hold, Ask}
use Rattle.ctl_link.specs.declared.port.LinkEnd.{LinkEnd}
use Rattle.model_keyboard.specs.Keyboard.{Keyboard}
use Rattle.model_keyboard.specs.Once.{is_reset_due}
use Rattle.key_file.specs.Histories.{KeyHistory}
use Rattle.layout_reader.specs.Layouts.{KeyLayout}
use Rattle.law_quiet_log.specs.Once.{at_tick, meeting_at, all_arrived}
use Rattle.law_noisy_link.specs.Fates.{Fate, NoByte, Right, Again, GivenUp, arrival_in, side_before, wrong_before, fate_at}
use Rattle.law_noisy_link.specs.Fates.{all_right, all_given_up, all_asked_again}

-- a byte that came right is received, and put out or taken for the mark of a break; the link is held
pub record IsReceived (now byte : ℕ) (before after : LinkEnd UnderWay) : Type 0 where
  pub core : after.core ≡ after_received before.core byte true
  pub link : after.link ≡ Hold now

-- a byte that is asked for again: it is counted, nothing else of the controller changes, and FE is to be sent
pub record IsAskedAgain (now : ℕ) (before after : LinkEnd UnderWay) : Type 0 where
  pub core : after.core ≡ record before.core { resends = before.core.resends + 1 }
  pub link : after.link ≡ Ask 0xfe now

-- a byte that is given up: FF is put out with the parity bit set, the count begins anew, nothing else changes; the link
-- is held, and nothing is asked for
pub record IsGivenUp (now : ℕ) (before after : LinkEnd UnderWay) : Type 0 where
  pub core : after.core
      ≡ record before.core { output_full = true; output = 0xff; parity = true; resends = 0 }
  pub link : after.link ≡ Hold now

-- what the arrival of a byte does to the controller, by its fate
abbrev pub Does : Fate → ℕ → LinkEnd UnderWay → Type 0
Does NoByte now p = Unit {0}
Does (Right byte) now p = IsReceived now byte p (happened_at now (Arrives byte) p)
Does (Again byte) now p = IsAskedAgain now p (happened_at now (Arrives byte) p)
Does (GivenUp byte) now p = IsGivenUp now p (happened_at now (Arrives byte) p)

-- so it is in each tick; and the controller's count of resends is that of the bytes that came wrong in a row
abbrev pub DoneByFate : Type 0
DoneByFate =
    (layout : KeyLayout) (history : KeyHistory) (starts : ℕ → ℕ) (n : ℕ)
    → Does (fate_at layout history starts n) (arrival_in layout history starts n)
    (side_before layout history starts n).port

pub record IsCounted (layout : KeyLayout) (history : KeyHistory) (starts : ℕ → ℕ) (n : ℕ) : Type 0 where
  pub at_start : (at_tick layout history starts n).side.port.core.resends ≡ wrong_before layout history starts n
  pub at_arrival : (side_before layout history starts n).port.core.resends ≡ wrong_before layout history starts n
  pub few : wrong_before layout history starts n ≤ 3

abbrev pub ResendsCounted : Type 0
ResendsCounted =
    (layout : KeyLayout) (history : KeyHistory) (starts : ℕ → ℕ) (n : ℕ) → IsCounted layout history starts n

-- for how many ticks nothing passes after what was sent: after the reply of a reset, as long as the test runs
abbrev pub pause : Keyboard → ℕ
pause k = if is_reset_due k.reply then 64 else 0

-- what FE asks for after it: the byte itself; where it was FE, the last one sent that wasn't; after the reply of a
-- reset AA
abbrev pub asked_for : ℕ → Keyboard → ℕ
asked_for byte k = if is_reset_due k.reply then 0xaa else if byte == 0xfe then k.last else byte

module _ (layout : KeyLayout) (history : KeyHistory) (starts : ℕ → ℕ) where
  -- the tick that gets FE for the byte of tick n, and the one after it, which sends again
  abbrev pub asked_in : ℕ → ℕ
  asked_in n = suc (pause (at_tick layout history starts n).keys.keyboard + n)

  abbrev pub next_try : ℕ → ℕ
  next_try n = suc (asked_in n)

  abbrev pub next_byte : ℕ → ℕ → ℕ
  next_byte n byte = asked_for byte (at_tick layout history starts n).keys.keyboard

  -- the keyboard gets FE, before which nothing passes, and sends what that asks for in the tick after it
  pub record ComesAgain (n byte : ℕ) : Type 0 where
    pub idle : (j : ℕ) → n < j → j < asked_in n → meeting_at layout history starts j ≡ Idle
    pub asked : meeting_at layout history starts (asked_in n) ≡ Got 0xfe
    pub sent : meeting_at layout history starts (next_try n) ≡ Sent (next_byte n byte)
    pub counted : wrong_before layout history starts (next_try n) ≡ suc (wrong_before layout history starts n)

  -- how a byte that tick n sends ends, if it may be asked for again so often, and the run's last tick starts at
  -- start `last`: it comes right; or it comes wrong and is given up, or is asked for again and comes again, unless the
  -- run ends before
  abbrev pub Ends : ℕ → ℕ → ℕ → ℕ → Type 0
  Ends last zero n byte =
      (fate_at layout history starts n ≡ Right byte) ⊎ (fate_at layout history starts n ≡ GivenUp byte)
  Ends last (suc left) n byte =
      (fate_at layout history starts n ≡ Right byte)
      ⊎ ((fate_at layout history starts n ≡ Again byte)
      × ((last < next_try n) ⊎ (ComesAgain n byte × Ends last left (next_try n) (next_byte n byte))))

-- so it is of each byte that comes wrong with fewer than three resends before it
abbrev pub WrongComesAgain : Type 0
WrongComesAgain =
    (layout : KeyLayout) (history : KeyHistory) (starts : ℕ → ℕ) (last n byte : ℕ) → KeepsCadenceTo starts last
    → next_try layout history starts n ≤ last → fate_at layout history starts n ≡ Again byte
    → ComesAgain layout history starts n byte

-- and so each byte that is taken off the line ends, in three resends at most
abbrev pub EachEnds : Type 0
EachEnds =
    (layout : KeyLayout) (history : KeyHistory) (starts : ℕ → ℕ) (last n byte : ℕ) → KeepsCadenceTo starts last
    → meeting_at layout history starts n ≡ Sent byte
    → Ends layout history starts last (3 - wrong_before layout history starts n) n byte

-- over any ticks in a row: what was taken off the line came right, or was given up, or was asked for again, once each
abbrev pub ArrivedByFate : Type 0
ArrivedByFate =
    (layout : KeyLayout) (history : KeyHistory) (starts : ℕ → ℕ) (n count : ℕ)
    → IsPermutation (all_arrived layout history starts n count)
    (all_right layout history starts n count
    ++ (all_given_up layout history starts n count ++ all_asked_again layout history starts n count))
