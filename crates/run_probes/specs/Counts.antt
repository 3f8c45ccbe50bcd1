-- What a probe has counted between two steps of a run.
use Rattle.std.specs.Prelude.{ℕ, zero, suc, ◌+◌, ◌-◌, ◌^◌, Bool, false, List, [], ◌∷◌, ◌++◌, length, min, slice_get}
use Rattle.std.specs.Prelude.{Some, None, if◌then◌else◌}
use Rattle.std.specs.declared.option.Option.{Option}
use Rattle.joint_run.specs.Joint.{Beside}
use Rattle.joint_run.specs.Run.{World}
use Rattle.joint_feed.specs.Stories.{Story, state_at}
use Rattle.run_probes.specs.declared.tally.Arms.{Arms}
use Rattle.run_probes.specs.Probes.{Watch, listening, met_as, sight_in}
use Rattle.run_probes.specs.Transfers.{Ear}

-- whether a state, if there is one, meets arms of a kind, if so much was heard before
abbrev pub meets_if : ℕ → Option Arms → Ear → Option (World Beside) → Bool
meets_if kind arms ear None = false
meets_if kind arms ear (Some w) = met_as kind arms ear (sight_in w)

-- what is heard after a look at a state, if there is one
abbrev pub hears_if : ℕ → Option (World Beside) → Ear → Ear
hears_if kind None ear = ear
hears_if kind (Some w) ear = listening kind (sight_in w) ear

-- of so many steps from one on those whose state meets arms of a kind, in their order; each of them is looked at, so
-- the ear is at each as the steps before it left it
abbrev pub met_from : Story → ℕ → Option Arms → ℕ → ℕ → Ear → List ℕ
met_from s kind arms step zero ear = []
met_from s kind arms step (suc more) ear =
    (if meets_if kind arms ear (state_at s step) then step ∷ [] else [])
    ++ met_from s kind arms (step + 1) more (hears_if kind (state_at s step) ear)

-- what is heard after so many steps from one on
abbrev pub ear_from : Story → ℕ → ℕ → ℕ → Ear → Ear
ear_from s kind step zero ear = ear
ear_from s kind step (suc more) ear = ear_from s kind (step + 1) more (hears_if kind (state_at s step) ear)

-- the steps after step k up to step n whose state meets a probe, in their order
abbrev pub met_between : Story → ℕ → ℕ → Watch → List ℕ
met_between s k n watch = met_from s watch.kind watch.counted.arms (k + 1) (n - k) watch.ear

-- what it has heard after them
abbrev pub ear_between : Story → ℕ → ℕ → Watch → Ear
ear_between s k n watch = ear_from s watch.kind (k + 1) (n - k) watch.ear

-- a count with so many more, which stays at the greatest 64-bit number
abbrev pub grown : ℕ → ℕ → ℕ
grown count zero = count
grown count (suc more) = min (count + suc more) (2 ^ 64 - 1)

-- a first step, or else a later one
abbrev pub or_later : Option ℕ → Option ℕ → Option ℕ
or_later None later = later
or_later (Some first) later = Some first

-- a probe that has met these steps more, and has heard this: its kind and its arms stay
abbrev pub with_met : List ℕ → Ear → Watch → Watch
with_met steps ear watch = record {
  kind = watch.kind;
  counted = record {
    arms = watch.counted.arms;
    count = grown watch.counted.count (length steps);
    first = or_later watch.counted.first (slice_get steps 0);
  };
  ear = ear;
}

-- a probe of step k, as it is at step n
abbrev pub counted_between : Story → ℕ → ℕ → Watch → Watch
counted_between s k n watch = with_met (met_between s k n watch) (ear_between s k n watch) watch
