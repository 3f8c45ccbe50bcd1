-- The joint machine in the run of a history, as the layers above see it.
use Rattle.std.specs.Prelude.{◌≡◌, ◌≤◌, ◌-◌, [], length, drop}
use Rattle.joint_run.specs.Due.{made_first}
use Rattle.joint_run.specs.History.{IsInRunFrom}
use Rattle.joint_run.specs.Joint.{Beside}
use Rattle.joint_run.specs.Run.{World}
use Rattle.joint_feed.specs.declared.course.Course.{Course}
use Rattle.joint_feed.specs.Ahead.{IsFed}
use Rattle.joint_feed.specs.Stories.{Story}

-- the machine's state is that of the run after as many steps, and the events that are handed in are the next ones
pub record IsOnCourse (s : Story) (c : Course) : Type 0 where
  pub world : World Beside
  pub image : c.joint.image.bytes ≡ s.bytes
  pub few : c.joint.steps ≤ c.joint.cycle
  pub in_run : IsInRunFrom s.held s.edges s.events c.joint c.ahead.made world
  pub unreached : made_first (world.cycle - 2) (drop c.ahead.made s.edges) ≡ []
  pub fed : IsFed s.edges s.events c.ahead
  pub done : c.ahead.done ≡ world.board.pc.side.done
  pub done_within : c.ahead.done ≤ length s.events
  pub made_within : c.ahead.made ≤ length s.edges
