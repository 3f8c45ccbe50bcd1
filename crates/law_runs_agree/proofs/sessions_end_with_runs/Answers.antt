use Rattle.fw_compile.specs.Image.{image_of}
use Rattle.joint_feed.specs.Stories.{story}
use Rattle.law_runs_agree.proofs.Sessions.{ends_afterwards}
use Rattle.law_runs_agree.proofs.sessions_end_with_runs.Goals as goal

pub returns : goal.returns
returns c = record {
  ends = λ layout history run sound lawful is.
      ends_afterwards (story (image_of layout) history) (c.run_and_model_agree.ensures.agreement layout history sound lawful).0 run is;
}
