use Rattle.run_loop.proofs.Loop.{ready_at_start, same_story}
use Rattle.run_loop.proofs.ready.ReadyRun.of_program.Goals as goal

pub invariant_of-result : goal.invariant_of-result
invariant_of-result g c =
    let e = c.begin_filled-course.ensures in
    ready_at_start c.args.fill c.args.image.now.bytes (g.F.Feed.feeds c.args.feed).history (g.F.Feed.feeds c.begin_filled-course.new.feed)
    c.begin_filled-course.result e.on e.fill e.history e.steps e.taken c.requires.accepted

pub returns : goal.returns
returns g c =
    let e = c.begin_filled-course.ensures in
    record {
      run = same_story c.begin_filled-course.result c.args.fill c.args.image.now.bytes (g.F.Feed.feeds c.begin_filled-course.new.feed).history
          (g.F.Feed.feeds c.args.feed).history e.fill e.on.image e.history;
    }
