use Rattle.std.proofs.Common.{refl}
use Rattle.fw_compile.specs.Image.{image_of}
use Rattle.joint_feed.specs.Stories.{story}
use Rattle.subsystem.proofs.Ends.{comes_to, outcome_at}
use Rattle.law_runs_agree.proofs.runs_come_to_outcomes.Goals as goal

pub returns : goal.returns
returns c = record {
  outcomes = λ layout history steps sound lawful over.
      let s = story (image_of layout) history in
      let time = (c.run_and_model_agree.ensures.agreement layout history sound lawful).0 in
      (outcome_at s steps over.world, comes_to s time steps over, refl);
}
