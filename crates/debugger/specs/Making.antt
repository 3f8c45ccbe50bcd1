-- Some steps of a session at once, with the looks of its probes.
use Rattle.std.specs.Prelude.{◌≡◌, ◌≤◌, ◌<◌, ℕ, ◌+◌, ◌-◌, true, List, map, Some, None}
use Rattle.std.specs.declared.option.Option.{Option}
use Rattle.joint_run.specs.Joint.{Beside}
use Rattle.joint_run.specs.Run.{World}
use Rattle.joint_feed.specs.Stories.{state_at}
use Rattle.run_probes.specs.Probes.{Watch, first_met, looked, sight_in}
use Rattle.run_probes.specs.Resting.{all_rest}
use Rattle.debugger.specs.declared.stepping.Made.{Made}
use Rattle.debugger.specs.Sessions.{Debug, Debuggee, Hunted, hunt, next_state, walk}

-- a hunt after steps of which the last hit this probe first; if it hit none, the hunt goes on
abbrev pub hunt_after : Debuggee → ℕ → Debug → Option ℕ → Hunted
hunt_after s more d None = hunt s more d
hunt_after s more d (Some probe) = record { debug = d; hit = Some probe }

-- so many steps lead from one time of a session to another, and the last of them hit this probe first, and those
-- before it none: whoever makes more steps comes from the first time to where he comes from the second
pub record LeadsTo (s : Debuggee) (count : ℕ) (old new : Debug) (hit : Option ℕ) : Type 0 where
  pub walked : (more : ℕ) → walk s (count + more) old ≡ walk s more new
  pub hunted : (more : ℕ) → hunt s (count + more) old ≡ hunt_after s more new hit

-- probes rest at the state after so many steps
abbrev pub RestAt : Debuggee → ℕ → List Watch → Type 0
RestAt s k probes = (w : World Beside) → state_at s.story k ≡ Some w → all_rest (sight_in w).lines.clk probes ≡ true

-- at most so many steps were made, and none only if the run has ended; one look at the state that the last of them
-- led to leaves these probes as a look at each
pub record IsAdvanced (s : Debuggee) (left old : ℕ) (before : List Watch) (new : ℕ) : Type 0 where
  pub later : old ≤ new
  pub within : new ≤ old + left
  pub ended : new ≡ old → next_state s new ≡ None
  pub led : old < new → (w : World Beside) → state_at s.story new ≡ Some w
      → LeadsTo s (new - old) (record { steps = old; probes = before })
      (record { steps = new; probes = map (looked new (sight_in w)) before }) (first_met 0 (sight_in w) before)

-- at most so many steps were made, and none only if the run has ended; and where they lead to
pub record IsMade (s : Debuggee) (left : ℕ) (old : Debug) (made : Made) (new : Debug) : Type 0 where
  pub within : made.steps ≤ left
  pub ended : made.steps ≡ 0 → next_state s new.steps ≡ None
  pub led : LeadsTo s made.steps old new made.hit
