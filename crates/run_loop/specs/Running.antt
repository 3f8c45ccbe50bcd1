-- A run of a program under a history, from power-on to its end.
use Rattle.std.specs.Prelude.{◌≡◌, ◌≤◌, ◌<◌, ℕ, zero, suc, ◌+◌, ◌%◌, Bool, true, false, ◌&&◌, nat_le, List, [], ◌∷◌}
use Rattle.std.specs.Prelude.{length, drop, slice_index, Some, None}
use Rattle.std.specs.declared.option.Option.{Option}
use Rattle.run_probes.specs.Stuck.{sticks}
use Rattle.host_turn.specs.declared.stamped.Stamped.{Stamped}
use Rattle.joint_feed.specs.Stories.{Story, state_at, starts_tick}
use Rattle.joint_run.specs.Joint.{Beside, log_of}
use Rattle.joint_run.specs.Run.{World}
use Rattle.mcs48_core.specs.Cpu.{Cpu}
use Rattle.mcs48_core.specs.declared.stepping.Stuck.{Stuck as Place}
use Rattle.run_loop.specs.declared.ending.End.{End}
use Rattle.run_loop.specs.declared.ending.End.TheVariants.{Reached, Stuck}
use Rattle.run_loop.specs.declared.ending.Ending.{Ending}
use Rattle.run_loop.specs.declared.ending.Ending.TheVariants.{TickStart, Stamp}
pub use Rattle.run_loop.specs.Starts.{start_stamp, starts_among}

-- a run is over at a state: a tick starts there at or after the end stamp; or a step from there would begin at or after
-- it
abbrev pub is_over : Ending → Story → World Beside → Bool
is_over TickStart s w = starts_tick s w && nat_le (4096 + s.stop) w.cycle
is_over Stamp s w = nat_le (4096 + s.stop) w.cycle

-- each of the first k states is there, and the run isn't over at it
abbrev pub GoesOnTo : Ending → Story → ℕ → Type 0
GoesOnTo e s zero = Unit {0}
GoesOnTo e s (suc k) = GoesOnTo e s k × (w : World Beside) × (state_at s k ≡ Some w) × (is_over e s w ≡ false)

-- the program counter, and the byte there
abbrev pub place_of : List ℕ → Cpu → Place
place_of bytes m = record { pc = m.pc; byte = slice_index bytes (m.pc % 2048) }

-- the run is stuck at the state after the first k steps: it isn't over there, and its next step would execute the
-- byte at the counter, which begins no instruction. So no state follows
pub record IsStuckAt (e : Ending) (s : Story) (k : ℕ) (w : World Beside) (place : Place) : Type 0 where
  pub before_end : is_over e s w ≡ false
  pub no_row : sticks s.bytes w.cpu ≡ true
  pub none : state_at s (suc k) ≡ None
  pub at : place ≡ place_of s.bytes w.cpu

-- the run ends at the state after the first k steps
abbrev pub EndsAt : Ending → Story → ℕ → World Beside → End → Type 0
EndsAt e s k w Reached = is_over e s w ≡ true
EndsAt e s k w (Stuck place) = IsStuckAt e s k w place

-- the run ends after the first k steps, and goes on at each state before
pub record IsEndAfter (e : Ending) (s : Story) (k : ℕ) (end : End) : Type 0 where
  pub goes_on : GoesOnTo e s k
  pub world : World Beside
  pub reached : state_at s k ≡ Some world
  pub ends : EndsAt e s k world end

-- it is over there
abbrev pub IsOverAfter : Ending → Story → ℕ → Type 0
IsOverAfter e s k = IsEndAfter e s k Reached

-- what was said up to the state after the first k steps; nothing if there is no such state
abbrev pub logged : Option (World Beside) → List Stamped
logged None = []
logged (Some w) = log_of w.board

abbrev pub log_at : Story → ℕ → List Stamped
log_at s k = logged (state_at s k)

-- what the step after the first k says
abbrev pub step_says : Story → ℕ → List Stamped
step_says s k = drop (length (log_at s k)) (log_at s (suc k))

-- items were said in these cycles
abbrev pub AreIn : ℕ → ℕ → List Stamped → Type 0
AreIn from to [] = Unit {0}
AreIn from to (s ∷ more) = ((from ≤ s.cycle) × (s.cycle < to)) × AreIn from to more
