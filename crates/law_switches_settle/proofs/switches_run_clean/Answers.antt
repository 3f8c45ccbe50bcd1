use Rattle.law_switches_settle.proofs.Runs.{bounces_run_clean, run_clean}
use Rattle.law_switches_settle.proofs.switches_run_clean.Goals as goal

pub returns : goal.returns
returns c = record {
  run = run_clean c.goes_on_from_any_start.ensures.as_shown;
  bounces = bounces_run_clean c.goes_on_from_any_start.ensures.as_shown c.keys_may_bounce.ensures.few;
}
