use Rattle.std.proofs.Common.{◌≡◌, refl, ap, subst, sym, ◌∙◌}
use Rattle.std.proofs.lemmas.List.{append-nil}
use Rattle.fw_compile.specs.Image.{image_of}
use Rattle.joint_feed.specs.Stories.{Story, story}
use Rattle.run_loop.specs.declared.ending.Ending.TheVariants.{TickStart}
use Rattle.run_loop.specs.Gliding.{IsTimely}
use Rattle.subsystem.specs.LayoutOutcomes.{IsOutcome, Outcome}
use Rattle.subsystem.specs.Looking.{HaveLookedAtSome}
use Rattle.subsystem.proofs.Begun.{begins}
use Rattle.subsystem.proofs.Came.{by_name, came_kept, looked_by_name}
use Rattle.subsystem.proofs.Timekeeping.{serves_at_end}
use Rattle.key_file.proofs.Lawful.{lawful_for}
use Rattle.subsystem.proofs.running.run.Given as given
use Rattle.subsystem.proofs.running.run.Goals as goal
use Rattle.subsystem.proofs.running.run.Goals.{In_ok-ready}

-- what is run, by the layout and the history
is_story : (g : given.Over) (c : In_ok-ready g) → c.in_ok-ready.ready ≡ story (image_of c.args.layout.now) c.args.history.now
is_story g c = c.in_ok-ready.ensures.run ∙ ap (λ f. story (image_of c.args.layout.now) f.history) c.new-feed.ensures

timely : (g : given.Over) (c : In_ok-ready g) → IsTimely TickStart c.in_ok-ready.ready
timely g c =
    subst (λ (s : Story). IsTimely TickStart s) (sym (is_story g c))
    (c.run_and_model_agree.ensures.agreement c.args.layout.now c.args.history.now c.of_layout.ensures.layout (lawful_for c.requires)).0

pub make-requires : goal.make-requires
make-requires g c =
    let it = (goal.at.make-requires g c).In_ok-ready in
    record {
      timely = timely g it;
      reported = (
        begins c.in_ok-ready.ready (timely g it) (record { stamps = c.new-stamps.result }) c.new-stamps.ensures.items,
        sym (append-nil c.new-log.result.items),
      );
    }

pub returns : goal.returns
returns g c =
    let ready = (goal.at.returns g c).In_ok-ready in
    let r = c.in_ok-made.ensures in
    let it = c.make.new.reporter.starts in
    let run : Outcome =
    record {
      log = c.make.new.out.items;
      starts = it.stamps.items;
      end = c.copied.result;
      steps = c.steps.result;
      cycles = c.cycles.result;
    } in
    let steps = c.steps.ensures.steps in
    let s = c.in_ok-ready.ready in
    let t = story (image_of c.args.layout.now) c.args.history.now in
    let to = is_story g ready in
    let came =
    came_kept s (timely g ready) c.in_ok-made.made r.finished it c.new-log.result.items c.make.new.out.items c.new-log.ensures.items
    r.reported run refl refl (c.copied.ensures.copy ∙ c.mcu.ensures.processor) steps c.cycles.ensures.cycles in
    let ran = subst (λ (v : Story). IsOutcome v run) to came in
    let expected =
    c.runs_are_expected.ensures.expected c.args.layout.now c.args.history.now run c.of_layout.ensures.layout (lawful_for c.requires) ran in
    let serving = serves_at_end s (timely g ready) run came in
    record {
      layout = c.of_layout.ensures.layout;
      run = ran;
      agrees = expected.log;
      quiet = expected.quiet;
      cadence = expected.cadence;
      few = expected.few c.requires.accepted;
      serves = serving.0;
      bank = serving.1;
      looked = looked_by_name s t to _ _ _ run.steps steps r.looked;
      looked_so_far = by_name HaveLookedAtSome s t to _ _ r.looked_so_far;
    }

pub returns-in_err-made-clause-looked_so_far : goal.returns-in_err-made-clause-looked_so_far
returns-in_err-made-clause-looked_so_far g c =
    by_name HaveLookedAtSome c.in_ok-ready.ready (story (image_of c.args.layout.now) c.args.history.now)
    (is_story g (goal.at.returns-in_err-made-clause-looked_so_far g c).In_ok-ready) _ _ c.in_err-made.ensures.looked_so_far
