use Rattle.std.proofs.Common.{◌≡◌, ℕ, List, subst}
use Rattle.std.specs.Prelude.{IfOk}
use Rattle.joint_feed.specs.Stories.{story}
use Rattle.run_loop.proofs.ready.ReadyRun.of_layout.Goals as goal

pub returns-clause-run : goal.returns-clause-run
returns-clause-run g c =
    subst (λ (bytes : List ℕ). IfOk c.of_program.result (λ run. run ≡ story bytes (g.F.Feed.feeds c.args.feed).history))
    c.compile.ensures.image c.of_program.ensures.run
