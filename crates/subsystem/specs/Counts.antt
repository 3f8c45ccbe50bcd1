-- How many bytes reached port 60h, how many words into the buffer and how many beeps a log has.
use Rattle.std.specs.Prelude.{◌+◌, Bool, true, false, List, count_by}
use Rattle.pc_tables.specs.declared.item.Item.TheVariants.{Port, Word, Beep}
use Rattle.model_link.specs.declared.line.LogLine.{LogLine}
use Rattle.subsystem.specs.declared.counts.Counts.{Counts}

abbrev pub is_port : LogLine → Bool
is_port line = elim line.item [ Port byte ↦ true | _ ↦ false ]

abbrev pub is_word : LogLine → Bool
is_word line = elim line.item [ Word word ↦ true | _ ↦ false ]

abbrev pub is_beep : LogLine → Bool
is_beep line = elim line.item [ Beep ↦ true | _ ↦ false ]

-- the counts with those of more lines
abbrev pub with_lines : Counts → List LogLine → Counts
with_lines counts lines = record {
  ports = counts.ports + count_by is_port lines;
  words = counts.words + count_by is_word lines;
  beeps = counts.beeps + count_by is_beep lines;
}

abbrev pub none_counted : Counts
none_counted = record { ports = 0; words = 0; beeps = 0 }
