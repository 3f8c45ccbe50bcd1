-- What a probe was armed with, and what it counted since then.
use Rattle.std.specs.Prelude.{ℕ, ◌+◌, ◌-◌, ◌^◌, Bool, ◌==◌, nat_lt, min, Some, None, if◌then◌else◌}
use Rattle.std.specs.declared.option.Option.{Option}
use Rattle.run_probes.specs.declared.tally.Arms.{Arms}

-- the arms, if there are any; how many steps met them, and the first of these
pub record Counted : Type 0 where
  pub arms : Option Arms
  pub count : ℕ
  pub first : Option ℕ

-- nothing was armed yet
abbrev pub unarmed : Counted
unarmed = record { arms = None; count = 0; first = None }

-- armed, which counts anew
abbrev pub armed : ℕ → ℕ → Counted
armed a b = record { arms = Some (record { a = a; b = b }); count = 0; first = None }

-- a count with one more, which stays at the greatest 64-bit number
abbrev pub one_more : ℕ → ℕ
one_more count = min (count + 1) (2 ^ 64 - 1)

-- the first of the steps so far and this one
abbrev pub or_step : Option ℕ → ℕ → Option ℕ
or_step None step = Some step
or_step (Some first) step = Some first

-- after a step of this number, which led to a state that meets the arms or not
abbrev pub noted : ℕ → Bool → Counted → Counted
noted step met c = record {
  arms = c.arms;
  count = if met then one_more c.count else c.count;
  first = if met then or_step c.first step else c.first;
}

-- there is a first step exactly if one was counted
abbrev pub first_fits : ℕ → Option ℕ → Bool
first_fits count None = count == 0
first_fits count (Some first) = nat_lt 0 count
