use Rattle.std.proofs.Common.{refl, arith}
use Rattle.run_loop.proofs.Timekeeping.{none_halts, soon}
use Rattle.run_loop.proofs.stretching.make_steps.Goals as goal

pub step_inlined-requires : goal.step_inlined-requires
step_inlined-requires g c =
    let near = soon c.args.halt c.requires.going.0 c.args.course.now c.requires.going.1 in
    record { near = omega (arith, near) }

pub returns-then-rest-clause-made : goal.returns-then-rest-clause-made
returns-then-rest-clause-made g c = record {
  place = c.reach-tick_pc.result.0;
  most = c.reach-tick_pc.result.1;
  before_halt = c.reach-tick_pc.ensures.none;
  gone = c.go_on.ensures.gone;
  alone = λ off. absurd (cc (off, c.if-rest.true));
  ahead = refl;
}

pub returns-clause-made : goal.returns-clause-made
returns-clause-made g c =
    let old = c.args.course.now in
    record {
      place = _;
      most = 0;
      before_halt = none_halts c.args.halt c.requires.going.0 old c.requires.going.1;
      gone = record {
        count = 0;
        last = old.joint;
        quiet = refl;
        within = omega arith;
        step = c.step_inlined.ensures.step;
        run = c.step_inlined.ensures.run;
      };
      alone = λ off. refl;
      ahead = refl;
    }
