use Rattle.std.proofs.Common.{◌≡◌, [], drop}
use Rattle.toml.specs.View.{items_view}
use Rattle.layout_reader.specs.Layouts.{AreEntries}
use Rattle.layout_reader.specs.Documents.{entries_from}
use Rattle.layout_reader.proofs.reading.read_entries.Given as goal

abbrev pub invariant-loop-element : goal.invariant-loop-element
invariant-loop-element l = record {
  rest : entries_from l.format l.entries.items (items_view (drop l.element-index l.elements))
      ≡ entries_from l.format [] (items_view l.elements);
  sound : AreEntries l.entries.items;
}
