use Rattle.std.proofs.Common.{◌≡◌}
use Rattle.std.specs.List.{list_any}
use Rattle.toml.specs.View.{table_view}
use Rattle.layout_reader.specs.Fields.{has_other_field}
use Rattle.layout_reader.proofs.Names.{is_other}
use Rattle.layout_reader.proofs.fields.has_other_field.Given as goal

abbrev pub invariant-loop-name : goal.invariant-loop-name
invariant-loop-name l = list_any (is_other l.level) l.name-iterator ≡ has_other_field l.level (table_view l.fields)
