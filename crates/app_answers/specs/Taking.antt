-- How much of what a call has to say its sink takes.
use Rattle.io_edge.specs.Said.{Shown}
use Rattle.app_words.specs.declared.exit.Exit.{Exit}
use Rattle.app_words.specs.declared.exit.Exit.TheVariants.{Done, Words, Input, Timing, Read, Write, Memory, Stuck}

-- all of it; or a put failed, and then the sink had this before the call, and this after that put
pub data Taking : Type 0 where
  Whole : Taking
  CutOff : Shown → Shown → Taking

-- a put failed if the call ends with Write
abbrev pub taking_of : Exit → Shown → Shown → Taking
taking_of Done before after = Whole
taking_of Words before after = Whole
taking_of Input before after = Whole
taking_of Timing before after = Whole
taking_of Read before after = Whole
taking_of Write before after = CutOff before after
taking_of Memory before after = Whole
taking_of Stuck before after = Whole
