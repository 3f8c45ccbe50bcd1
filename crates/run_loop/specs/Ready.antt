-- A run before its first step.
use Rattle.std.specs.Prelude.{◌≡◌}
use Rattle.joint_feed.specs.Ahead.{HasTaken}
use Rattle.joint_feed.specs.Course.{IsOnCourse}
use Rattle.joint_feed.specs.Stories.{Story}
use Rattle.joint_feed.specs.declared.course.Course.{Course}
use Rattle.key_file.specs.Accepted.{IsAccepted}
use Rattle.key_file.specs.Feeds.{Fed}

-- the machine is at power-on, and the events that the feed has handed out are those that it has in hand
pub record IsReady (s : Story) (fed : Fed) (c : Course) : Type 0 where
  pub accepted : IsAccepted fed.history
  pub on : IsOnCourse s c
  pub steps : c.joint.steps ≡ 0
  pub taken : HasTaken fed c.ahead
