-- The ticks of the keyboard on the wires: what it drives in each, and what its looks find.
use Rattle.std.specs.Prelude.{◌≡◌, ◌≤◌, ◌<◌, ◌⊎◌, ℕ, suc, ◌+◌, ◌*◌, true, false}
use Rattle.law_agreement.specs.AnyKeys.{shortest_tick}
use Rattle.board_terms.specs.declared.lines.Lines.{Lines}
use Rattle.law_fw_link.specs.Latch.{Frame, NoFrame, SentFrame, CutFrame, ReceivedFrame, IsLook, tick_latch}
use Rattle.law_fw_link.specs.Reading.{byte_in, right_in}
use Rattle.joint_run.specs.Joint.{latch_of}
use Rattle.model_keyboard.specs.declared.meeting.Meeting.{Meeting}
use Rattle.model_keyboard.specs.declared.meeting.Meeting.TheVariants.{Got, Idle, Inhibited, Sent, Cut}
use Rattle.law_any_host.specs.Wires.{Wiring}

-- what the keyboard drives so many cycles past the start of a tick with this frame
abbrev pub frame_lines : Frame → ℕ → Lines
frame_lines frame o = latch_of (tick_latch 255 255 frame o)

-- what the looks of a tick that starts in this cycle find, by its frame and its meeting
abbrev pub IsFound : (ℕ → Lines) → ℕ → Frame → Meeting → Type 0
IsFound pins start NoFrame meeting = (meeting ≡ Idle) ⊎ (meeting ≡ Inhibited)
IsFound pins start (SentFrame byte) meeting =
    (meeting ≡ Sent) × (byte < 256) × ((pins (start + 258)).dat ≡ true) × ((pins (start + 256)).clk ≡ true)
    × ((look : ℕ) → IsLook look → (pins (start + (260 + look))).clk ≡ true)
IsFound pins start (CutFrame byte look) meeting =
    (meeting ≡ Cut) × IsLook look × ((pins (start + (260 + look))).clk ≡ false)
IsFound pins start ReceivedFrame meeting =
    (meeting ≡ Got (byte_in (λ k. (pins (start + (306 + 32 * k))).dat)) (right_in (λ k. (pins (start + (306 + 32 * k))).dat)))
    × ((pins (start + 256)).clk ≡ true) × ((pins (start + 258)).dat ≡ false)

-- ticks, one after another: up to the first the keyboard lets both wires go, and in each it drives its frame, which is
-- what its looks find
pub record AreTicks (w : Wiring) (starts : ℕ → ℕ) (frames : ℕ → Frame) (meetings : ℕ → Meeting) : Type 0 where
  pub before : (c : ℕ) → c < starts 0 → (w.keyboard c).clk ≡ true
  pub long : (n : ℕ) → starts n + shortest_tick ≤ starts (suc n)
  pub drives : (n o : ℕ) → starts n + o < starts (suc n) → w.keyboard (starts n + o) ≡ frame_lines (frames n) o
  pub found : (n : ℕ) → IsFound w.pins (starts n) (frames n) (meetings n)
