use Rattle.std.proofs.Common.{ℕ, List, ap}
use Rattle.joint_feed.specs.Stories.{story}
use Rattle.debugger.specs.Sessions.{of_layout}
use Rattle.debugger.proofs.debuggee.Debuggee.of_layout.Goals as goal

pub returns : goal.returns
returns c = ap (λ (bytes : List ℕ). of_layout (story bytes c.args.history)) c.compile-image.ensures.image
