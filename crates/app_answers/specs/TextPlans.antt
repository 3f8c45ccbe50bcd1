-- `type`: the key file that types a text on a layout.
use Rattle.std.specs.Prelude.{◌≡◌, ℕ, List, None, Some}
use Rattle.key_planner.specs.Plan.{text_plan}
use Rattle.key_planner.specs.Types.{Types}
use Rattle.layout_reader.specs.Layouts.{KeyLayout}
use Rattle.law_typed_log.specs.Typing.{first_without}

-- what is said is the plan of a text of which each byte has a key; and it types the text: read again it is a history
-- that is accepted for the layout, nothing is lost in it, and the host takes just the text's characters
pub record IsPlanText (layout : KeyLayout) (text said : List ℕ) : Type 0 where
  pub keys : first_without layout text ≡ None
  pub plan : text_plan layout text ≡ Some said
  pub types : Types layout text said
