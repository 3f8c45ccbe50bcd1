use Rattle.joint_feed.specs.Filled.{filled_story}
use Rattle.joint_feed.proofs.Beginning.{begins}
use Rattle.joint_feed.proofs.course.Course.begin_filled.Goals as goal

pub returns-clause-on : goal.returns-clause-on
returns-clause-on g c =
    begins (filled_story c.args.fill c.args.image.now.bytes (g.F.Feed.feeds c.args.feed.now).history)
    (record { joint = c.power_on_filled.result; ahead = c.new.result; seen = c.nothing.result; fill = c.args.fill })
    c.power_on_filled.ensures.parts c.power_on_filled.ensures.run c.new.ensures.fed c.new.ensures.made c.new.ensures.done
