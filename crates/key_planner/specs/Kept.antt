-- A stroke as the program keeps it.
use Rattle.law_typed_log.specs.Typing.{Stroke, Plain, Shifted}
use Rattle.key_planner.specs.declared.stroke.Stroke.{Stroke as Kept}
use Rattle.key_planner.specs.declared.stroke.Stroke.TheVariants as kept

abbrev pub meant : Kept → Stroke
meant (kept.Plain key) = Plain key
meant (kept.Shifted shift key) = Shifted shift key
