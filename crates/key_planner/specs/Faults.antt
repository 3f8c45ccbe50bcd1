-- Why a text has no plan.
use Rattle.std.specs.Prelude.{◌≡◌, ℕ, List, Some, None}
use Rattle.layout_reader.specs.Layouts.{KeyLayout}
use Rattle.law_typed_log.specs.Typing.{first_without}
use Rattle.key_planner.specs.declared.fault.PlanFault.{PlanFault}
use Rattle.key_planner.specs.declared.fault.PlanFault.TheVariants.{NoKey, Memory}

-- the first byte of the text that has no key, by its number from 1 and the byte; or want of memory, if each byte has a key
abbrev pub IsFaultOf : KeyLayout → List ℕ → PlanFault → Type 0
IsFaultOf layout text (NoKey at byte) = first_without layout text ≡ Some (at, byte)
IsFaultOf layout text Memory = first_without layout text ≡ None
