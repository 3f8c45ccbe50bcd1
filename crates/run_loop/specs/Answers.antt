-- What is answered of a machine is so of the state that it is at.
use Rattle.std.specs.Prelude.{◌≡◌, ℕ, ◌+◌, Bool, false, nat_le}
use Rattle.fw_ticks.specs.JointRun.{DecidesTick}
use Rattle.joint_feed.specs.Stories.{Story}
use Rattle.joint_run.specs.Joint.{Beside}
use Rattle.joint_run.specs.Run.{World}
use Rattle.joint_run.specs.declared.machine.Machine.{Machine}
use Rattle.run_loop.specs.declared.ending.Ending.{Ending}
use Rattle.run_loop.specs.declared.ending.Ending.TheVariants.{TickStart, Stamp}
use Rattle.run_loop.specs.Running.{is_over}

-- whether a run with this end stamp is over there
abbrev pub DecidesOver : Ending → Machine → ℕ → Bool → Type 0
DecidesOver e m stop answer =
    (s : Story) (w : World Beside) → s.stop ≡ stop → w.cpu ≡ m.mcu → w.cycle ≡ m.cycle → answer ≡ is_over e s w

-- what is answered of a machine is whether steps halt there: if the run is to end at a tick start, whether a tick starts
-- there, and else whether the end stamp is reached
abbrev pub DecidesHalt : Ending → Machine → ℕ → Bool → Type 0
DecidesHalt TickStart m stop answer = DecidesTick m answer
DecidesHalt Stamp m stop answer = answer ≡ nat_le (4096 + stop) m.cycle

-- if the run is to end at a tick start, no tick starts there
abbrev pub MeetsNoTick : Ending → Machine → Type 0
MeetsNoTick TickStart m = DecidesTick m false
MeetsNoTick Stamp m = Unit {0}
