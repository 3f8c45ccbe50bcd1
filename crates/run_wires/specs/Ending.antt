-- What a sink has of the trace of a run.
use Rattle.std.specs.Prelude.{◌≡◌, ◌⊎◌, ℕ, suc, Bool, List}
use Rattle.run_probes.specs.Probes.{Watch}
use Rattle.io_edge.specs.Said.{IsBrokenOff, IsSaid, Shown}
use Rattle.joint_feed.specs.Stories.{Story, state_at}
use Rattle.run_loop.specs.declared.ending.Ending.{Ending}
use Rattle.run_loop.specs.declared.ending.Ending.TheVariants.{TickStart}
use Rattle.run_loop.specs.Looking.{BrokeOff}
use Rattle.run_loop.specs.Running.{IsOverAfter}
use Rattle.run_loop.specs.Reports.{IsBrokenAfter}
use Rattle.run_wires.specs.Text.{header}
use Rattle.run_wires.specs.Trace.{changes_to, text_in, trace_to}
use Rattle.law_wires_heard.specs.Hearing.{heard_to}

-- the trace of a run is said, up to the first tick start at or after the end stamp
pub record IsTraceSaid (seen : Bool) (s : Story) (before after : Shown) : Type 0 where
  pub steps : ℕ
  pub is_over : IsOverAfter TickStart s steps
  pub said : IsSaid before after (trace_to seen s steps)

-- its saying is broken off
pub record IsTraceBrokenOff (seen : Bool) (s : Story) (before after : Shown) : Type 0 where
  pub steps : ℕ
  pub is_over : IsOverAfter TickStart s steps
  pub broken : IsBrokenOff before after (trace_to seen s steps)

-- the saying of what the samples add is broken off in what that of the step after the first k adds
abbrev pub AreChangesBrokenAt : Bool → Story → Shown → Shown → ℕ → Type 0
AreChangesBrokenAt seen s before after k =
    IsBrokenAfter before after (changes_to seen s k) (text_in seen (state_at s (suc k)) (heard_to s k))

-- it is broken off after the header, in what a step adds, and the probes have looked at the states up to the one that
-- this step led to
pub record BrokeOffAfterHeader (seen : Bool) (e : Ending) (s : Story) (before after : Shown) (first probes : List Watch) : Type 0 where
  pub afterwards : Shown
  pub said : IsSaid before afterwards (header seen)
  pub broke : BrokeOff e s (AreChangesBrokenAt seen s afterwards after) first probes

-- or it is in the header, before the first step, and the probes have looked at nothing
pub record BrokeOffInHeader (seen : Bool) (before after : Shown) (first probes : List Watch) : Type 0 where
  pub broken : IsBrokenOff before after (header seen)
  pub looked : probes ≡ first

abbrev pub HaveTracedToBreak : Bool → Ending → Story → Shown → Shown → List Watch → List Watch → Type 0
HaveTracedToBreak seen e s before after first probes =
    BrokeOffInHeader seen before after first probes ⊎ BrokeOffAfterHeader seen e s before after first probes
