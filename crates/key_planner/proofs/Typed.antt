-- The plan of a text types it.
use Rattle.std.proofs.Common.{◌≡◌, ◌≤◌, ℕ, List, length, None, Some, Ok, refl, ap, sym, subst, ◌∙◌, arith}
use Rattle.std.specs.Option.{option_map}
use Rattle.std.specs.declared.option.Option.{Option}
use Rattle.layout_reader.specs.Layouts.{KeyLayout, IsKeyLayout}
use Rattle.key_file.specs.Cursors.{found_history, history_in}
use Rattle.law_quiet_log.specs.Quiet.{quiet_log}
use Rattle.law_typed_log.specs.Typing.{Stroke, strokes_of, planned}
use Rattle.law_typed_log.specs.Typed.{IsPlayable, Says, StrokesArePlayable, StrokesSayText}
use Rattle.law_typed_log.proofs.Struck.{strokes_are, lengths}
use Rattle.key_planner.specs.Plan.{plan_of, text_plan}
use Rattle.key_planner.specs.Types.{Types}
use Rattle.key_planner.proofs.Back.{strokes-own, plan-back}
use Rattle.key_planner.proofs.Sizes.{plan-size}

-- the plan is of the text's strokes
pub record IsOf (layout : KeyLayout) (text plan : List ℕ) : Type 0 where
  pub strokes : List Stroke
  pub strokes_are : strokes_of layout text ≡ Some strokes
  pub plan_is : plan_of strokes ≡ plan

is_of : (layout : KeyLayout) (text plan : List ℕ) (o : Option (List Stroke))
    → strokes_of layout text ≡ o → option_map plan_of o ≡ Some plan → IsOf layout text plan
is_of layout text plan None are is = absurd cc
is_of layout text plan (Some strokes) are is = record { strokes = strokes; strokes_are = are; plan_is = cc }

module _ (layout : KeyLayout) (text : List ℕ) (playable : StrokesArePlayable) (say : StrokesSayText)
    (sound : IsKeyLayout layout) (few : length text ≤ 10000) where
  module _ (strokes : List Stroke) (are : strokes_of layout text ≡ Some strokes) where
    -- what a plan of strokes comes to
    back : history_in layout (plan_of strokes) ≡ planned strokes
    back =
        let made = strokes_are layout sound text strokes are in
        let count : length strokes ≤ 10000 = omega (arith, lengths layout.entries text strokes made) in
        ap found_history
        (plan-back layout strokes (strokes-own layout text strokes sound made) count
        (playable layout text strokes sound few are).accepted.accepted)

    types : Types layout text (plan_of strokes)
    types =
        let made = strokes_are layout sound text strokes are in
        let own = strokes-own layout text strokes sound made in
        let count : length strokes ≤ 10000 = omega (arith, lengths layout.entries text strokes made) in
        let plays = playable layout text strokes sound few are in
        record {
          within = plan-size layout strokes own count;
          read = plan-back layout strokes own count plays.accepted.accepted ∙ ap Ok (sym back);
          playable = subst (IsPlayable layout) (sym back) plays;
          says = subst (λ history. Says text (quiet_log layout history)) (sym back) (say layout text strokes sound few are);
        }

  -- the plan of a text types the text
  pub plan-types : (plan : List ℕ) → text_plan layout text ≡ Some plan → Types layout text plan
  plan-types plan is =
      let of = is_of layout text plan (strokes_of layout text) refl is in
      subst (Types layout text) of.plan_is (types of.strokes of.strokes_are)

  -- the plan of a text, read as a key file, is the history of its strokes
  pub plan-history : (plan : List ℕ)
      → text_plan layout text ≡ Some plan → option_map planned (strokes_of layout text) ≡ Some (history_in layout plan)
  plan-history plan is =
      let of = is_of layout text plan (strokes_of layout text) refl is in
      ap (option_map planned) of.strokes_are ∙ ap Some (sym (back of.strokes of.strokes_are) ∙ ap (history_in layout) of.plan_is)
