-- Steps that are made one after another as long as nothing of them has to be reported.
use Rattle.std.specs.Prelude.{◌≡◌, ◌≤◌, ◌<◌, ℕ, suc, Bool, true, false, List, Some, None, Ok, Err}
use Rattle.std.specs.declared.option.Option.{Option}
use Rattle.std.specs.declared.result.Result.{Result}
use Rattle.board_terms.specs.declared.lines.Lines.{Lines}
use Rattle.run_probes.specs.Looks.{looks}
use Rattle.run_probes.specs.Probes.{Watch, sight_in}
use Rattle.fw_ticks.specs.JointRun.{KeepsTimeFrom}
use Rattle.joint_feed.specs.Course.{IsOnCourse}
use Rattle.joint_feed.specs.Stories.{Story, state_at}
use Rattle.joint_feed.specs.declared.course.Course.{Course}
use Rattle.joint_run.specs.Due.{due_step, IsJointStep}
use Rattle.joint_run.specs.History.{IsStepOfRun}
use Rattle.joint_run.specs.Joint.{Beside, joint_start_of}
use Rattle.joint_run.specs.Run.{World}
use Rattle.key_file.specs.Accepted.{IsAccepted}
use Rattle.key_file.specs.Histories.{KeyHistory}
use Rattle.mcs48_core.specs.declared.stepping.Stuck.{Stuck}
use Rattle.run_loop.specs.declared.ending.Ending.{Ending}
use Rattle.run_loop.specs.declared.ending.Ending.TheVariants.{TickStart, Stamp}
use Rattle.run_loop.specs.declared.ending.Halt.{Halt}
use Rattle.run_loop.specs.Running.{GoesOnTo, is_over, log_at}
use Rattle.run_loop.specs.Starts.{starts_among}

-- the history of what is run
abbrev pub history_of : Story → KeyHistory
history_of s = record { edges = s.edges; host = s.events; end = s.stop }

-- a program whose run is to end at a tick start keeps its time, so it comes to one; any program reaches its end stamp
abbrev pub IsTimely : Ending → Story → Type 0
IsTimely TickStart s = KeepsTimeFrom (joint_start_of s.held) s.bytes s.edges s.events
IsTimely Stamp s = Unit {0}

-- the machine is at the run's state after as many steps, and the run goes on at each state before it
pub record HasRunSoFar (e : Ending) (s : Story) (c : Course) : Type 0 where
  pub on : IsOnCourse s c
  pub goes_on : GoesOnTo e s c.joint.steps

-- the run goes on at its present state
pub record IsGoing (u : Halt) (s : Story) (c : Course) : Type 0 where
  pub stop : s.stop ≡ u.stop
  pub accepted : IsAccepted (history_of s)
  pub timely : IsTimely u.ending s
  pub run_so_far : HasRunSoFar u.ending s c
  pub not_over : is_over u.ending s run_so_far.on.world ≡ false

-- the wires at a state, if there is one
abbrev pub lines_in : Option (World Beside) → Option Lines
lines_in None = None
lines_in (Some w) = Some (sight_in w).lines

abbrev pub lines_at : Story → ℕ → Option Lines
lines_at s k = lines_in (state_at s k)

-- if a run is to end at a tick start, no tick starts at the states after state k up to state n
abbrev pub AreSameStarts : Ending → Story → ℕ → ℕ → Type 0
AreSameStarts TickStart s k n = starts_among s (suc n) ≡ starts_among s (suc k)
AreSameStarts Stamp s k n = Unit {0}

-- nothing is to be reported of the steps after step k up to step n: they said nothing and led to no tick start; and if
-- the wires are sampled, these kept their levels
pub record IsSilent (e : Ending) (wires : Bool) (s : Story) (k n : ℕ) : Type 0 where
  pub later : k ≤ n
  pub log : log_at s n ≡ log_at s k
  pub starts : AreSameStarts e s k n
  pub levels : wires ≡ true → (j : ℕ) → k ≤ j → j ≤ n → lines_at s j ≡ lines_at s k

-- the run goes on at its present state, and the probes have looked at each state up to it
pub record IsUnderWay (u : Halt) (s : Story) (first : List Watch) (c : Course) (probes : List Watch) : Type 0 where
  pub going : IsGoing u s c
  pub looked : probes ≡ looks s c.joint.steps first

-- a step was made; what it took of the events isn't counted yet
pub record IsStepped (old new : Course) : Type 0 where
  pub step : IsJointStep old.ahead.due old.joint (due_step old.ahead.due old.joint) (Ok new.seen) new.joint
  pub run : IsStepOfRun old.ahead.due old.joint (Ok new.seen) new.joint
  pub some : 0 < new.seen.cycles
  pub few : new.seen.cycles < 3
  pub ahead : new.ahead ≡ old.ahead

-- steps were made, none of which took an event, and of which nothing is to be reported
pub record IsOnward (u : Halt) (s : Story) (old new : Course) : Type 0 where
  pub going : IsGoing u s new
  pub ahead : new.ahead ≡ old.ahead
  pub cycle : old.joint.cycle ≤ new.joint.cycle
  pub quiet : IsSilent u.ending u.wires s old.joint.steps new.joint.steps

-- steps of this kind were made, and then one of any kind; the probes are as after a look at each
pub record HasGlided (u : Halt) (s : Story) (first : List Watch) (old new : Course) (probes : List Watch) : Type 0 where
  pub last : Course
  pub onward : IsOnward u s old last
  pub stepped : IsStepped last new
  pub looked : probes ≡ looks s new.joint.steps first

-- steps of this kind were made, and then the processor was stuck: the machine has not changed since
pub record IsHeldUp (u : Halt) (s : Story) (first : List Watch) (old new : Course) (probes : List Watch) (stuck : Stuck)
    : Type 0 where
  pub last : Course
  pub onward : IsOnward u s old last
  pub joint : new.joint ≡ last.joint
  pub ahead : new.ahead ≡ last.ahead
  pub step : IsJointStep last.ahead.due last.joint (due_step last.ahead.due last.joint) (Err stuck) new.joint
  pub run : IsStepOfRun last.ahead.due last.joint (Err stuck) new.joint
  pub looked : probes ≡ looks s new.joint.steps first

-- a glide goes on up to such a step
abbrev pub IsGlide : Halt → Story → List Watch → Course → Result (Unit {0}) Stuck → Course → List Watch → Type 0
IsGlide u s first old (Ok done) new probes = HasGlided u s first old new probes
IsGlide u s first old (Err stuck) new probes = IsHeldUp u s first old new probes stuck
