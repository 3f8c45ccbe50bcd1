-- The interrupt line, and when it rises.
use Rattle.std.specs.Prelude.{ℕ, suc, Bool, false, not, ◌&&◌, ◌||◌, ◌==◌, Some, None}
use Rattle.std.specs.declared.option.Option.{Option}
use Rattle.ctl_link.specs.declared.port.LinkEnd.{LinkEnd}
use Rattle.ctl_wire.specs.declared.wire.Wire.{Wire}
use Rattle.joint_feed.specs.Stories.{state_at}
use Rattle.joint_run.specs.Joint.{Beside}
use Rattle.joint_run.specs.Run.{World}
use Rattle.live_board.specs.Answers.{raises}
use Rattle.live_board.specs.Pasts.{Past, story_of}
use Rattle.live_board.specs.declared.irq.Irq.{Irq}

-- whether it is up, and the cycle in which the output buffer was last filled
abbrev pub irq_of : LinkEnd Wire → Irq
irq_of p = record { up = raises p.core; filled = p.filled }

abbrev pub irq_in : Option (World Beside) → Irq
irq_in None = record { up = false; filled = 0 }
irq_in (Some w) = irq_of w.board.pc.side.port

-- it rises in a step: it is up after it, and was down before it, or in it, since the output buffer, which was full, was
-- read and filled again
abbrev pub rose : Irq → Irq → Bool
rose was is = is.up && (not was.up || not (was.filled == is.filled))

-- the step after the first j steps raises it
abbrev pub rises : Past → ℕ → Bool
rises p j = rose (irq_in (state_at (story_of p) j)) (irq_in (state_at (story_of p) (suc j)))
