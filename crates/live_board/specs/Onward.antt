-- The run from where a keyboard is, whatever past it has, and if it has none: one joint step after another.
use Rattle.std.specs.Prelude.{◌≡◌, ◌≤◌, ◌<◌, ◌^◌, ◌+◌, ◌-◌, ℕ, zero, suc, Bool, true, false, [], ◌∷◌, ◌++◌, drop, map}
use Rattle.std.specs.Prelude.{None, Ok, Err}
use Rattle.std.specs.declared.option.Option.{Option}
use Rattle.std.specs.declared.result.Result.{Result}
use Rattle.board_terms.specs.declared.event.HostAct.{HostAct}
use Rattle.joint_run.specs.Cycle.{outside_wires}
use Rattle.joint_run.specs.Due.{due_step, IsJointStep}
use Rattle.joint_run.specs.declared.due.Due.{Due}
use Rattle.live_board.specs.Calls.{place_of}
use Rattle.live_board.specs.Heard.{heard_all, rise, said_so}
use Rattle.live_board.specs.Passing.{at_fall, passed_by}
use Rattle.live_board.specs.Rising.{irq_of}
use Rattle.live_board.specs.Running.{AreFew, IsAtLimit, IsWithin, is_met, met_by}
use Rattle.live_board.specs.declared.parts.Parts.{Parts as Keyboard}
use Rattle.live_board.specs.declared.ran.RunEnd.{RunEnd}
use Rattle.live_board.specs.declared.ran.RunEnd.TheVariants as ends
use Rattle.live_board.specs.declared.refused.Refused.{Refused}
use Rattle.live_board.specs.declared.refused.Refused.TheVariants as R
use Rattle.live_board.specs.declared.stops.Met.{Met}
use Rattle.live_board.specs.declared.stops.Stops.{Stops}

-- one joint step by these events: the edges that were made wait no longer, what happened is kept, and a rise of the line is
-- counted
pub record IsStepBy (due : Due) (old new : Keyboard) : Type 0 where
  pub step : IsJointStep due old.joint (due_step due old.joint) (Ok new.seen) new.joint
  pub edges : new.due.edges.items ≡ drop new.seen.edges due.edges.items
  pub kept : new.heard ≡ heard_all old.heard
      (passed_by (at_fall old.joint.outside) old.joint.cycle new.joint.outside.clock ++ map said_so new.seen.items.items)
  pub risen : new.rises ≡ old.rises + rise (irq_of old.joint.outside.desk.port) (irq_of new.joint.outside.desk.port)

-- a step of a run: it begins before this cycle, and is made by what waits. What the host does still waits after it
pub record IsNextStep (to : ℕ) (old new : Keyboard) : Type 0 where
  pub soon : old.joint.cycle < to
  pub by_what_waits : IsStepBy old.due old new
  pub host : new.due.host ≡ old.due.host

-- so many steps, one after another, each of which is so
abbrev pub AreSteps : (Keyboard → Keyboard → Type 0) → ℕ → Keyboard → Keyboard → Type 0
AreSteps is_so zero old new = new ≡ old
AreSteps is_so (suc n) old new = (k : Keyboard) × AreSteps is_so n old k × is_so k new

-- the processor is stuck, and the keyboard is as it was, but that nothing of use is said of its last step
pub record IsStuckAt (k new : Keyboard) : Type 0 where
  pub none : due_step k.due k.joint ≡ None
  pub joint : new.joint ≡ k.joint
  pub due : new.due ≡ k.due
  pub heard : new.heard ≡ k.heard
  pub rises : new.rises ≡ k.rises

-- a run as it begins: no rise of the line is counted yet
abbrev pub begun : Keyboard → Keyboard
begun k = record k { rises = 0 }

-- what a step does of what the run is to stop for
abbrev pub met_in : Stops → Keyboard → Keyboard → Met
met_in stops old new =
    met_by stops (irq_of old.joint.outside.desk.port) (outside_wires old.joint.mcu.p2 old.joint.outside) new

-- the step does nothing of it
abbrev pub IsUnmetStep : Stops → ℕ → Keyboard → Keyboard → Type 0
IsUnmetStep stops to old new = IsNextStep to old new × (is_met (met_in stops old new) ≡ false)

-- such steps, which begin before so many cycles have passed
abbrev pub AreUnmetSteps : Stops → Keyboard → ℕ → ℕ → Keyboard → Type 0
AreUnmetSteps stops old cycles n new = AreSteps (IsUnmetStep stops (old.joint.cycle + cycles)) n (begun old) new

-- the run from there: such steps, until a limit is reached; or the next step, within the limits, does this; or, within both
-- limits, the count of cycles is at its end, or the processor is stuck
abbrev pub RunsOn : Stops → Keyboard → ℕ → Option ℕ → RunEnd → Keyboard → Type 0
RunsOn stops old cycles steps ends.Passed new =
    (n : ℕ) × AreUnmetSteps stops old cycles n new × AreFew old steps new × IsAtLimit old cycles steps new
RunsOn stops old cycles steps (ends.Met what) new =
    (n : ℕ) × (k : Keyboard) × AreUnmetSteps stops old cycles n k × IsNextStep (old.joint.cycle + cycles) k new
    × (met_in stops k new ≡ what) × (is_met what ≡ true) × AreFew old steps new
RunsOn stops old cycles steps ends.LastCycle new =
    (n : ℕ) × AreUnmetSteps stops old cycles n new × (2 ^ 62 ≤ new.joint.cycle) × IsWithin old cycles steps new
RunsOn stops old cycles steps (ends.Stuck place) new =
    (n : ℕ) × (k : Keyboard) × AreUnmetSteps stops old cycles n k × IsStuckAt k new × (place ≡ place_of new.joint)
    × IsWithin old cycles steps new

-- the edges that wait, and what the host does now
abbrev pub due_of : HostAct → Keyboard → Due
due_of act k = record {
  edges = k.due.edges;
  host = record { items = record { stamp = k.joint.cycle - 4096; act = act } ∷ [] };
}

-- no step is made because the processor is stuck
abbrev pub IsNoStep : HostAct → Keyboard → Refused → Type 0
IsNoStep act old R.Early = Unit {0}
IsNoStep act old R.LastCycle = Unit {0}
IsNoStep act old R.Full = Unit {0}
IsNoStep act old (R.Stuck place) = due_step (due_of act old) old.joint ≡ None

-- the host's call from there: one step by its event and by the edges that wait, and then no event waits; or none, and the
-- edges wait as they did
abbrev pub IsStepped : {X : Type 0} → HostAct → Keyboard → Result X Refused → Keyboard → Type 0
IsStepped act old (Ok answer) new = IsStepBy (due_of act old) (begun old) new × (new.due.host.items ≡ [])
IsStepped act old (Err refused) new = IsNoStep act old refused × (new.due.edges ≡ old.due.edges)

-- an edge of a key more waits, stamped now
abbrev pub with_edge : ℕ → Bool → Keyboard → Keyboard
with_edge place down k = record k {
  due = record k.due {
    edges = record { items = k.due.edges.items ++ record { stamp = k.joint.cycle - 4096; place = place; down = down } ∷ [] };
  };
}
