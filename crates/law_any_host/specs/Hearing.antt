-- What a host that keeps the rules hears of the keyboard, and the keyboard of it.
use Rattle.std.specs.Prelude.{◌≡◌, ℕ, zero, suc, true, List, [], ◌∷◌, ◌++◌, Some}
use Rattle.std.specs.declared.option.Option.{Option}
use Rattle.law_fw_link.specs.Latch.{Frame, NoFrame, SentFrame, CutFrame, ReceivedFrame}
use Rattle.model_keyboard.specs.declared.meeting.Meeting.{Meeting}
use Rattle.model_keyboard.specs.declared.meeting.Meeting.TheVariants.{Got, Idle, Inhibited, Sent, Cut}
use Rattle.law_any_host.specs.Ears.{Counting, ear_to, taken_by}
use Rattle.law_any_host.specs.Rules.{Ends, IsRuleful}
use Rattle.law_any_host.specs.Ticks.{AreTicks}
use Rattle.law_any_host.specs.Wires.{AreWires, Wiring}

-- the byte that a tick's frame sends
abbrev pub sent_by : Frame → List (Option ℕ)
sent_by NoFrame = []
sent_by (SentFrame byte) = Some byte ∷ []
sent_by (CutFrame byte look) = []
sent_by ReceivedFrame = []

-- the byte that a meeting brings
abbrev pub got_by : Meeting → List ℕ
got_by Idle = []
got_by Inhibited = []
got_by Sent = []
got_by Cut = []
got_by (Got byte good) = byte ∷ []

-- those of the ticks before one
abbrev pub sent_before : (ℕ → Frame) → ℕ → List (Option ℕ)
sent_before frames zero = []
sent_before frames (suc n) = sent_before frames n ++ sent_by (frames n)

abbrev pub got_before : (ℕ → Meeting) → ℕ → List ℕ
got_before meetings zero = []
got_before meetings (suc n) = got_before meetings n ++ got_by (meetings n)

-- a byte that is got is got right
abbrev pub IsRight : Meeting → Type 0
IsRight Idle = Unit {0}
IsRight Inhibited = Unit {0}
IsRight Sent = Unit {0}
IsRight Cut = Unit {0}
IsRight (Got byte good) = good ≡ true

-- at each tick start the host has taken the bytes of the sent frames, each once and right, in order; and the keyboard
-- has got what the host sent, each byte once and right, in order. A byte whose frame was cut is none of them
pub record HearsEach (counts : Counting) (w : Wiring) (starts : ℕ → ℕ) (frames : ℕ → Frame) (meetings : ℕ → Meeting) : Type 0
  where
    pub taken : (n : ℕ) → taken_by counts w (starts n) ≡ sent_before frames n
    pub given : (n : ℕ) → (ear_to w (starts n)).given ≡ got_before meetings n
    pub right : (n : ℕ) → IsRight (meetings n)

abbrev pub RulefulLaw : Type 0
RulefulLaw =
    (counts : Counting) (w : Wiring) → AreWires w → IsRuleful w → Ends counts w
    → (starts : ℕ → ℕ) (frames : ℕ → Frame) (meetings : ℕ → Meeting) → AreTicks w starts frames meetings
    → HearsEach counts w starts frames meetings
