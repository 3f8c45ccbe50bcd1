-- A tick that starts in time and sees four edges at most, on any board, by what its looks find.
use Rattle.std.proofs.Common.{◌≤◌, ◌<◌, ℕ, List, All, length}
use Rattle.fw_kernel.specs.Places.{HasKernel}
use Rattle.fw_kernel.specs.declared.labels.TheConstants.{TICK}
use Rattle.law_fw_keys.proofs.Begun.{any_start}
use Rattle.law_fw_keys.specs.Edges.{IsSilentAlike}
use Rattle.law_fw_keys.specs.Frameless.{IsStarted, IsRepeating, edges_now}
use Rattle.law_fw_link.specs.Latch.{Frame}
use Rattle.law_fw_logic.proofs.Laws.{comes_as}
use Rattle.mcs48_ranges.specs.Sizes.{IsByte}
use Rattle.joint_run.specs.Run.{Board, World}
use Rattle.joint_run.specs.Starts.{Tick}
use Rattle.model_keyboard.specs.declared.meeting.Meeting.{Meeting}
use Rattle.law_agreement.proofs.AnyTick as any
use Rattle.law_agreement.proofs.Happened.{Happened}
use Rattle.law_agreement.proofs.Ran.{Ran, in_time}
use Rattle.law_agreement.specs.Firmware.{Finds, HasWholeCodes}

module _ (d : Board) (bytes : List ℕ) (hk : HasKernel bytes) (alike : IsSilentAlike bytes) (small : All IsByte bytes)
    (low : (p1 p2 c : ℕ) (s : d.State) → (d.pins p1 p2 c s).bus < 256) (w : World d.State)
    (s : IsStarted w.cpu) (repeats : IsRepeating bytes w.cpu.ram) (few : length (edges_now bytes d w) ≤ 4) where
  timely : (meeting : Meeting) (frame : Frame) → Tick d TICK bytes w (Ran d bytes meeting frame w)
      → Tick d TICK bytes w (Happened d bytes meeting frame w)
  timely meeting frame t = record {
    at = t.at;
    first = t.first;
    step = t.step;
    rest = comes_as d TICK bytes (Ran d bytes meeting frame w) (Happened d bytes meeting frame w) t.first
        (λ v r. in_time d bytes meeting frame w v s few r) t.rest;
  }

  -- by what the looks find
  pub every : (frame : Frame) (meeting : Meeting) → HasWholeCodes w.cpu.ram → Finds d w frame meeting
      → Tick d TICK bytes w (Happened d bytes meeting frame w)
  every frame meeting codes q =
      timely meeting frame (any.every d bytes hk alike small low w (any_start w.cpu s) repeats frame meeting codes q)
