-- What becomes of the byte that a tick takes off the keyboard's line: by its meeting, the flip that its frame took, and
-- how many before it came wrong in a row.
use Rattle.std.specs.Prelude.{ℕ, ◌+◌, nat_lt, List, [], ◌∷◌, ◌++◌, Some, None, if◌then◌else◌}
use Rattle.std.proofs.Common.{zero, suc}
use Rattle.std.specs.declared.option.Option.{Option}
use Rattle.model_controller.specs.declared.UnderWay.{UnderWay}
use Rattle.model_controller.specs.declared.meeting.Meeting.{Meeting}
use Rattle.model_controller.specs.declared.meeting.Meeting.TheVariants.{Got, Inhibited, Idle, Sent, Cut}
use Rattle.model_controller.specs.ByteTime.{sends}
use Rattle.ctl_link.specs.declared.link.Link.{Link}
use Rattle.ctl_link.specs.declared.link.Link.TheVariants.{Free, Hold, Ask, Request, Busy}
use Rattle.host_turn.specs.Run.{Side}
use Rattle.key_file.specs.Histories.{KeyHistory}
use Rattle.layout_reader.specs.Layouts.{KeyLayout}
use Rattle.model_link.specs.Machine.{LayeredKeyboard}
use Rattle.model_link.specs.Expected.{Whole, to_look, to_meeting}
use Rattle.law_quiet_log.specs.Once.{at_tick, meeting_at}

-- no byte was taken off the line; or it came right; or it came wrong, and is asked for again, or is given up
pub data Fate : Type 0 where
  NoByte : Fate
  Right : ℕ → Fate
  Again : ℕ → Fate
  GivenUp : ℕ → Fate

-- one that came wrong, by how many before it came wrong in a row: it is asked for again up to three times
abbrev pub wrong_fate : ℕ → ℕ → Fate
wrong_fate wrong byte = if nat_lt wrong 3 then Again byte else GivenUp byte

abbrev pub flipped_fate : Option ℕ → ℕ → ℕ → Fate
flipped_fate None wrong byte = Right byte
flipped_fate (Some bit) wrong byte = wrong_fate wrong byte

abbrev pub fate_of : Meeting → Option ℕ → ℕ → Fate
fate_of (Got byte) flip wrong = NoByte
fate_of Inhibited flip wrong = NoByte
fate_of Idle flip wrong = NoByte
fate_of (Sent byte) flip wrong = flipped_fate flip wrong byte
fate_of Cut flip wrong = NoByte

-- how many came wrong in a row and were asked for again, with this one
abbrev pub wrong_with : Fate → ℕ → ℕ
wrong_with NoByte wrong = wrong
wrong_with (Right byte) wrong = 0
wrong_with (Again byte) wrong = suc wrong
wrong_with (GivenUp byte) wrong = 0

-- the flip that the frame of the byte under way took, if any
abbrev pub flip_in : Link UnderWay → Option ℕ
flip_in Free = None
flip_in (Hold since) = None
flip_in (Ask byte since) = None
flip_in (Request byte) = None
flip_in (Busy u) = u.flip

-- in the model of a layout and a history, whose ticks start so
module _ (layout : KeyLayout) (history : KeyHistory) (starts : ℕ → ℕ) where
  -- the cycle in which a byte of the keyboard arrives in tick n, at offset 608
  abbrev pub arrival_in : ℕ → ℕ
  arrival_in n = 320 + (288 + (4096 + starts n))

  -- the PC's side before that cycle, if a byte of the keyboard has begun in the tick
  abbrev pub side_before : ℕ → Side UnderWay
  side_before n =
      let w : Whole LayeredKeyboard = at_tick layout history starts n in
      let start : ℕ = 4096 + starts n in
      sends history.host (288 + start)
      (to_meeting history.host start (to_look history.host w.shown w.keys.keyboard.lights start w.side))

  abbrev pub fate_after : ℕ → ℕ → Fate
  fate_after n wrong = fate_of (meeting_at layout history starts n) (flip_in (side_before n).port.link) wrong

  -- how many came wrong in a row and were asked for again before tick n
  abbrev pub wrong_before : ℕ → ℕ
  wrong_before zero = 0
  wrong_before (suc n) = wrong_with (fate_after n (wrong_before n)) (wrong_before n)

  -- the fate of tick n's byte
  abbrev pub fate_at : ℕ → Fate
  fate_at n = fate_after n (wrong_before n)

-- the bytes of each fate
abbrev pub right : Fate → List ℕ
right NoByte = []
right (Right byte) = byte ∷ []
right (Again byte) = []
right (GivenUp byte) = []

abbrev pub given_up : Fate → List ℕ
given_up NoByte = []
given_up (Right byte) = []
given_up (Again byte) = []
given_up (GivenUp byte) = byte ∷ []

abbrev pub asked_again : Fate → List ℕ
asked_again NoByte = []
asked_again (Right byte) = []
asked_again (Again byte) = byte ∷ []
asked_again (GivenUp byte) = []

-- those of so many ticks from one on
module _ (layout : KeyLayout) (history : KeyHistory) (starts : ℕ → ℕ) (n : ℕ) where
  abbrev pub all_right : ℕ → List ℕ
  all_right zero = []
  all_right (suc count) = all_right count ++ right (fate_at layout history starts (count + n))

  abbrev pub all_given_up : ℕ → List ℕ
  all_given_up zero = []
  all_given_up (suc count) = all_given_up count ++ given_up (fate_at layout history starts (count + n))

  abbrev pub all_asked_again : ℕ → List ℕ
  all_asked_again zero = []
  all_asked_again (suc count) = all_asked_again count ++ asked_again (fate_at layout history starts (count + n))
