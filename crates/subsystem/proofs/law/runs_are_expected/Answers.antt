use Rattle.std.proofs.Common.{◌<◌, length, subst, sym, ◌∙◌}
use Rattle.law_agreement.proofs.Run.{cleared}
use Rattle.board_terms.specs.Cadence.{listed}
use Rattle.fw_compile.specs.Image.{image_of}
use Rattle.joint_feed.specs.Stories.{story}
use Rattle.model_link.specs.Machine.{keyboard}
use Rattle.mcs48_core.specs.Reset.{reset_cpu}
use Rattle.subsystem.proofs.Agreed.{log_as_expected}
use Rattle.subsystem.proofs.Timekeeping.{keeps_cadence, starts_at}
use Rattle.subsystem.proofs.law.runs_are_expected.Goals as goal

pub returns : goal.returns
returns c = record {
  expected =
      λ layout history run sound lawful is.
      let law = c.run_and_model_agree.ensures.agreement layout history sound lawful in
      let s = story (image_of layout) history in
      let log = log_as_expected (keyboard layout) s law.0 law.1 run is in
      let cadence = keeps_cadence s law.0 run is in
      record {
        log = log;
        cadence = cadence;
        prompt = λ n within.
            c.run_and_model_agree.ensures.prompt layout history sound lawful reset_cpu cleared n (listed run.starts n)
            (starts_at s law.0 run is n within);
        quiet = λ quiet. log ∙ c.quiet_histories.ensures.listed layout history run.starts quiet cadence is.last;
        few = λ accepted. subst (λ items. length items < 800000) (sym log)
            (c.logs_are_limited.ensures.limit layout history run.starts accepted cadence is.last);
      };
}
