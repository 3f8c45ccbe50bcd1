-- What is run in a part that holds one byte all over when it is switched on.
use Rattle.std.specs.Prelude.{ℕ, List}
use Rattle.joint_run.specs.Filled.{filled}
use Rattle.key_file.specs.Histories.{KeyHistory}
use Rattle.joint_feed.specs.Stories.{Story, story_from}
use Rattle.joint_feed.specs.declared.course.Course.{Course}

-- a program under a history, with this byte in data memory, in A and in T
abbrev pub filled_story : ℕ → List ℕ → KeyHistory → Story
filled_story fill bytes history = story_from (filled fill) bytes history

-- what a course runs under a history
abbrev pub run_of : Course → KeyHistory → Story
run_of c history = filled_story c.fill c.joint.image.bytes history
