-- The exit statuses.
use Rattle.std.specs.Prelude.{ℕ}
use Rattle.app_words.specs.declared.exit.Exit.{Exit}
use Rattle.app_words.specs.declared.exit.Exit.TheVariants.{Done, Words, Input, Timing, Read, Write, Memory, Stuck}

-- 1 is no exit of the program
abbrev pub status_of : Exit → ℕ
status_of Done = 0
status_of Words = 2
status_of Input = 3
status_of Timing = 4
status_of Read = 5
status_of Write = 6
status_of Memory = 7
status_of Stuck = 8
