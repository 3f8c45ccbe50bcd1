use Rattle.std.proofs.Common.{refl, ap, ◌∙◌}
use Rattle.fw_compile.specs.Image.{image_of}
use Rattle.joint_feed.specs.Stories.{story}
use Rattle.subsystem.specs.Ending.{ending}
use Rattle.subsystem.specs.Looking.{HaveLookedAtSome}
use Rattle.subsystem.specs.Starts.{AreStartsOf}
use Rattle.subsystem.proofs.Came.{by_name}
use Rattle.subsystem.proofs.ticking.tick_starts.Goals as goal

pub returns-clause-starts : goal.returns-clause-starts
returns-clause-starts g c =
    let r = c.in-Ok.ensures in
    let to = c.in_ok-engine.ensures.engine ∙ ap (λ f. story (image_of c.args.layout.now) f.history) c.new-feed.ensures in
    by_name (λ s before after. AreStartsOf s c.in-Ok.ended.starts.items before after) c.in_ok-engine.engine
    (story (image_of c.args.layout.now) c.args.history.now) to _ _
    (record { run = ending c.in_ok-engine.engine c.in-Ok.ended; is = r.run; same = refl; looked = r.looked })

pub returns-clause-looked_so_far : goal.returns-clause-looked_so_far
returns-clause-looked_so_far g c =
    let to = c.in_ok-engine.ensures.engine ∙ ap (λ f. story (image_of c.args.layout.now) f.history) c.new-feed.ensures in
    by_name HaveLookedAtSome c.in_ok-engine.engine (story (image_of c.args.layout.now) c.args.history.now) to _ _
    c.run_to.ensures.looked_so_far
