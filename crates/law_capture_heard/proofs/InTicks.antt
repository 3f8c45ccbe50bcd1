-- Each step of a run is one of a tick, or of those before the first.
use Rattle.std.proofs.Common.{◌≡◌, ◌≤◌, ◌<◌, ℕ, Some}
use Rattle.law_agreement.proofs.Run.{cleared, every_memory, every_wire}
use Rattle.fw_compile.specs.Image.{image_of}
use Rattle.fw_ticks.specs.JointRun.{KeepsTimeFrom}
use Rattle.joint_feed.specs.Stories.{Story, story, state_at}
use Rattle.joint_run.specs.Joint.{Beside, joint_start_of}
use Rattle.joint_run.specs.Run.{World}
use Rattle.key_file.specs.Accepted.{IsLawfulFor}
use Rattle.key_file.specs.Histories.{KeyHistory}
use Rattle.layout_reader.specs.Layouts.{KeyLayout, IsKeyLayout}
use Rattle.model_link.specs.Machine.{keyboard}
use Rattle.mcs48_core.specs.Reset.{reset_cpu}
use Rattle.law_wires_heard.proofs.ATick.{IsATick, IsInTick}
use Rattle.law_wires_heard.proofs.OverTicks.{each_step}

-- the run of a layout
module _ (layout : KeyLayout) (history : KeyHistory) (fine : IsKeyLayout layout) (ok : IsLawfulFor layout history) where
  abbrev s : Story
  s = story (image_of layout) history

  time : KeepsTimeFrom (joint_start_of s.held) s.bytes s.edges s.events
  time = (every_memory layout history fine ok reset_cpu cleared).0

  -- it goes on
  pub some_state : (k : ℕ) → (w : World Beside) × (state_at s k ≡ Some w)
  some_state k = time.goes_on k

  -- over the ticks
  pub over_ticks : (AtStart AtStep : ℕ → Type 0) → AtStart 0
      → ((t : IsATick s) → AtStart t.from → AtStart t.to × ((k : ℕ) → t.from ≤ k → k < t.to → AtStep k)) → (k : ℕ) → AtStep k
  over_ticks AtStart AtStep begins leads =
      each_step s time AtStart AtStep begins leads (keyboard layout) (every_wire layout history fine ok reset_cpu cleared)

  -- and each step is one of a tick
  pub in_tick : (k : ℕ) → IsInTick s k
  in_tick =
      over_ticks (λ k. Unit {0}) (IsInTick s) tt (λ t at. (tt, λ k a b. record { whole = t; begun = a; within = b }))
