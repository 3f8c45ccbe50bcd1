use Rattle.fw_compile.specs.Image.{image_of}
use Rattle.joint_feed.specs.Stories.{story}
use Rattle.law_runs_agree.proofs.SaysBeginning.{says_so}
use Rattle.law_runs_agree.proofs.boards_say_runs.Goals as goal

pub returns : goal.returns
returns c = record {
  report = λ layout history board run sound lawful is ran.
      says_so (story (image_of layout) history) (c.run_and_model_agree.ensures.agreement layout history sound lawful).0 board run is ran;
}
