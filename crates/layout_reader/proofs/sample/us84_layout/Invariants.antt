use Rattle.std.proofs.Common.{◌≡◌, map}
use Rattle.std.specs.List.{range_with_len}
use Rattle.layout_reader.specs.Layouts.{sample_entry}
use Rattle.layout_reader.proofs.sample.us84_layout.Given as goal

abbrev pub invariant-loop-number : goal.invariant-loop-number
invariant-loop-number l = l.entries.items ≡ map sample_entry (range_with_len 0 l.number)
