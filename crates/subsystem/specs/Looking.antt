-- Probes that ride on a run.
use Rattle.std.specs.Prelude.{List}
use Rattle.run_probes.specs.Probes.{Watch}
use Rattle.joint_feed.specs.Stories.{Story}
use Rattle.run_loop.specs.declared.ending.Ending.TheVariants.{TickStart}
use Rattle.run_loop.specs.Looking as run

-- they have looked at the states that some first steps of the run lead to, of which there may be none
abbrev pub HaveLookedAtSome : Story → List Watch → List Watch → Type 0
HaveLookedAtSome s before after = run.HaveLookedAtSome TickStart s before after
