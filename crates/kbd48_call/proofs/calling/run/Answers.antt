use Rattle.std.proofs.Common.{refl, rules}
use Rattle.kbd48_call.proofs.Saying.{has_said}
use Rattle.kbd48_call.proofs.calling.run.Goals as goal

pub returns : goal.returns
returns c = record {
  said = (
    c.in_ok-sink.sink,
    c.kbd48-exit.new.out,
    c.kbd48-exit.result,
    search rules,
    has_said _ _ _ _ _ _ _ _ _ (search rules) c.kbd48-exit.ensures.says,
    refl,
    refl,
  );
}
