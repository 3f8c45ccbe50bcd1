-- A tick of a run, with what is known of its frame.
use Rattle.std.proofs.Common.{◌≡◌, ◌≤◌, ◌<◌, ℕ, ◌+◌, false, Some}
use Rattle.law_agreement.specs.Wires.{GoesWith, IsCutBy}
use Rattle.ctl_link.specs.Link.{is_busy}
use Rattle.law_fw_link.proofs.Wired.{IsReleased}
use Rattle.law_fw_link.specs.Latch.{Frame}
use Rattle.joint_feed.specs.Stories.{Story, state_at}
use Rattle.joint_run.specs.Joint.{Beside}
use Rattle.joint_run.specs.Run.{World}
use Rattle.law_wires_heard.proofs.Clock.{Fits, cells}
use Rattle.law_wires_heard.proofs.HeardAtLastCell.{IsWhole}
use Rattle.law_wires_heard.proofs.Pulls.{link_of}
use Rattle.law_wires_heard.proofs.Silent.{IsTick}
use Rattle.law_wires_heard.proofs.Ticks.{beside}

-- the steps from one number to another are a tick, which has 700 cycles at least
pub record IsATick (s : Story) : Type 0 where
  pub from : ℕ
  pub to : ℕ
  pub cycle : ℕ
  pub start : Beside
  pub old : ℕ
  pub lit : ℕ
  pub was : IsReleased old
  pub is : IsReleased lit
  pub frame : Frame
  pub fits : Fits old lit was is frame
  pub idle : is_busy (link_of start) ≡ false
  pub tick : IsTick s from to cycle start old lit was is frame fits idle
  pub whole : cells frame ≡ 11 → IsWhole s.events cycle start old lit was is idle frame fits
  pub goes_with : GoesWith (λ o. (beside s.events cycle start old lit was is frame fits idle o).pc) frame
  pub cut : IsCutBy (λ o. link_of (beside s.events cycle start old lit was is frame fits idle o)) cycle frame
  pub some : from ≤ to
  pub end : World Beside
  pub ends : state_at s to ≡ Some end
  pub long : cycle + 700 ≤ end.cycle

-- and step k is one of them
pub record IsInTick (s : Story) (k : ℕ) : Type 0 where
  pub whole : IsATick s
  pub begun : whole.from ≤ k
  pub within : k < whole.to
