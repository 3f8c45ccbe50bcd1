use Rattle.std.proofs.Common.{◌≡◌, ◌≤◌, ◌*◌}
use Rattle.app_answers.specs.Stepping.{after_steps, WentOn}
use Rattle.app_answers.proofs.stepping.run.Given as goal

abbrev pub invariant-loop-step : goal.invariant-loop-step
invariant-loop-step l = (after_steps l.image.bytes l._step ≡ WentOn l.mcu l.cycles) × (l.cycles ≤ 2 * l._step)
