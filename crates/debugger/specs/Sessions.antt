-- A session: the joint run of an image under a history, made step by step, with probes that look at each step.
use Rattle.std.specs.Prelude.{ℕ, zero, suc, ◌+◌, Bool, ◌&&◌, ◌||◌, nat_le, List, map}
use Rattle.std.specs.Prelude.{Some, None, is_none, if◌then◌else◌}
use Rattle.std.specs.declared.option.Option.{Option}
use Rattle.joint_run.specs.Filled.{filled}
use Rattle.joint_run.specs.Joint.{Beside}
use Rattle.joint_run.specs.Run.{World}
use Rattle.joint_feed.specs.Stories.{Story, state_at, starts_tick}
use Rattle.run_probes.specs.Probes.{Watch, looked, first_met, sight_in}

-- what is debugged: a program with its history, and by how much the cycle in which its run ends at the latest is
-- greater than the end stamp
pub record Debuggee : Type 0 where
  pub story : Story
  pub latest : ℕ

-- the cycle in which an image that keeps its time has begun a tick is so much greater than the end stamp: stamp 0 is
-- cycle 4,096, and tick starts are less than 2,056 cycles apart
abbrev pub latest_start : ℕ
latest_start = 6152

-- a layout's image, whose run ends at a tick start
abbrev pub of_layout : Story → Debuggee
of_layout story = record { story = story; latest = latest_start }

-- any program: its run ends at the end stamp itself
abbrev pub of_program : Story → Debuggee
of_program story = record { story = story; latest = 4096 }

-- the same in a part that held this byte at power-on
abbrev pub with_fill : ℕ → Debuggee → Debuggee
with_fill fill d = record { story = record d.story { held = filled fill }; latest = d.latest }

-- a session without its probes: what is debugged, and how many steps are made
pub record Sitting : Type 0 where
  pub debuggee : Debuggee
  pub steps : ℕ

abbrev pub sitting : Debuggee → ℕ → Sitting
sitting s steps = record { debuggee = s; steps = steps }

-- the steps made, and the probes
pub record Debug : Type 0 where
  pub steps : ℕ
  pub probes : List Watch

abbrev pub debug : Sitting → List Watch → Debug
debug sitting probes = record { steps = sitting.steps; probes = probes }

-- the run ends before a step that begins at a tick start at or after the end stamp, or that begins at its latest end
abbrev pub session_is_over : Debuggee → World Beside → Bool
session_is_over s w =
    (starts_tick s.story w && nat_le (4096 + s.story.stop) w.cycle) || nat_le (s.story.stop + s.latest) w.cycle

abbrev pub next_from : Debuggee → ℕ → Option (World Beside) → Option (World Beside)
next_from s steps None = None
next_from s steps (Some w) = if session_is_over s w then None else state_at s.story (suc steps)

-- the state after one more step, if the run goes on; it ends before a step that would be stuck, too
abbrev pub next_state : Debuggee → ℕ → Option (World Beside)
next_state s steps = next_from s steps (state_at s.story steps)

-- whether the run has ended
abbrev pub has_ended : Debuggee → ℕ → Bool
has_ended s steps = is_none (next_state s steps)

-- after a step that leads to this state each probe looks once
abbrev pub stepped_to : World Beside → Debug → Debug
stepped_to w d = record { steps = suc d.steps; probes = map (looked (suc d.steps) (sight_in w)) d.probes }

-- so many steps, or as many as the run still has
abbrev pub walk : Debuggee → ℕ → Debug → Debug
walk s zero d = d
walk s (suc n) d = elim (next_state s d.steps) [ None ↦ d | Some w ↦ walk s n (stepped_to w d) ]

-- where a hunt ends, and the first of the probes that its last step hit
pub record Hunted : Type 0 where
  pub debug : Debug
  pub hit : Option ℕ

-- so many steps, or as many as the run still has, but none after the first one whose state meets a probe
abbrev pub hunt : Debuggee → ℕ → Debug → Hunted
hunt s zero d = record { debug = d; hit = None }
hunt s (suc n) d =
    elim (next_state s d.steps) [
      | None ↦ record { debug = d; hit = None }
      | Some w ↦ elim (first_met 0 (sight_in w) d.probes) [
        | Some probe ↦ record { debug = stepped_to w d; hit = Some probe }
        | None ↦ hunt s n (stepped_to w d)
      ]
    ]
