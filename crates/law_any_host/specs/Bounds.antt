-- The 18 cycles at the end of a byte are no larger than they must be.
use Rattle.std.specs.Prelude.{◌≡◌, ℕ, true, false}
use Rattle.law_fw_link.specs.Latch.{Frame}
use Rattle.model_keyboard.specs.declared.meeting.Meeting.{Meeting}
use Rattle.law_any_host.specs.Ears.{Counting, Eleventh, Tenth}
use Rattle.law_any_host.specs.Hearing.{HearsEach}
use Rattle.law_any_host.specs.Rules.{EndsBy, IsRuleful}
use Rattle.law_any_host.specs.Ticks.{AreTicks}
use Rattle.law_any_host.specs.Wires.{AreWires, Wiring}

-- a host that keeps all rules, but at the end of a byte only those for another last look, and still hears other bytes than
-- were sent
pub record Fails (counts : Counting) (last : ℕ) : Type 0 where
  pub wiring : Wiring
  pub wires : AreWires wiring
  pub rules : IsRuleful wiring
  pub ends : EndsBy last counts wiring
  pub starts : ℕ → ℕ
  pub frames : ℕ → Frame
  pub meetings : ℕ → Meeting
  pub ticks : AreTicks wiring starts frames meetings
  pub fails : HearsEach counts wiring starts frames meetings → true ≡ false

-- so does one that counts ten falls and may begin a pull 18 cycles after the tenth, and one that counts eleven and may do so
abbrev pub SharpLaw : Type 0
SharpLaw = Fails Tenth 17 × Fails Eleventh 19
