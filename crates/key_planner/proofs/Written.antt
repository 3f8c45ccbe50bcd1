-- The text of a plan, as far as the bytes so far go.
use Rattle.std.proofs.Common.{◌≡◌, ◌<◌, ℕ, suc, ◌+◌, List, [], ◌∷◌, ◌++◌, length, get_or, drop, cond, None}
use Rattle.std.proofs.Common.{Some, refl, ap, sym, subst, ◌∙◌, append_assoc, add-one, drop-cons}
use Rattle.std.specs.Prelude.{is_none}
use Rattle.std.specs.Option.{option_map}
use Rattle.std.specs.declared.option.Option.{Option}
use Rattle.layout_reader.specs.Layouts.{KeyLayout}
use Rattle.law_typed_log.specs.Typing.{Stroke, character, stroke_of, before, strokes_of, without_from, first_without, stroke_start}
use Rattle.key_planner.specs.Plan.{stroke_lines, lines_from, plan_of, text_plan}

-- the plan is the lines so far and those of the other bytes, and none so far has no key
pub record IsSoFar (layout : KeyLayout) (text : List ℕ) (number : ℕ) (plan : List ℕ) : Type 0 where
  pub plan_is : text_plan layout text ≡ option_map (λ strokes. plan ++ lines_from number strokes) (strokes_of layout (drop number text))
  pub keys_are : first_without layout text ≡ without_from layout (suc number) (drop number text)

-- before the first byte of a text its plan has no line yet
pub so_far-first : (layout : KeyLayout) (text : List ℕ) → IsSoFar layout text 0 []
unfolding plan_of
so_far-first layout text = record { plan_is = refl; keys_are = refl }

module _ (layout : KeyLayout) (text : List ℕ) (number : ℕ) (plan : List ℕ) (far : IsSoFar layout text number plan) where
  -- a byte with a key
  so_far-suc : (stroke : Stroke) → number < length text → stroke_of layout (character (get_or text number 0)) ≡ Some stroke
      → IsSoFar layout text (suc number) (plan ++ stroke_lines (stroke_start number) stroke)
  so_far-suc stroke within is =
      let byte = get_or text number 0 in
      let rest = drop (suc number) text in
      let cut : drop number text ≡ byte ∷ rest = drop-cons text number 0 within in
      record {
        plan_is =
            far.plan_is ∙ ap (λ t. option_map (λ strokes. plan ++ lines_from number strokes) (strokes_of layout t)) cut
            ∙ ap (λ s. option_map (λ strokes. plan ++ lines_from number strokes) (before s (strokes_of layout rest))) is
            ∙ onward stroke (strokes_of layout rest);
        keys_are =
            far.keys_are ∙ ap (without_from layout (suc number)) cut
            ∙ ap (λ s. cond (is_none s) (Some (suc number, byte)) (without_from layout (suc (suc number)) rest)) is;
      }
    where
      onward : (stroke : Stroke) (more : Option (List Stroke))
          → option_map (λ strokes. plan ++ lines_from number strokes) (before (Some stroke) more)
          ≡ option_map (λ strokes. (plan ++ stroke_lines (stroke_start number) stroke) ++ lines_from (suc number) strokes) more
      onward stroke None = refl
      onward stroke (Some strokes) =
          ap Some (sym (append_assoc plan (stroke_lines (stroke_start number) stroke) (lines_from (suc number) strokes)))

  -- after the next byte the plan has the lines of its stroke too
  pub so_far-next : (stroke : Stroke) → number < length text → stroke_of layout (character (get_or text number 0)) ≡ Some stroke
      → IsSoFar layout text (number + 1) (plan ++ stroke_lines (stroke_start number) stroke)
  so_far-next stroke within is =
      subst (λ n. IsSoFar layout text n (plan ++ stroke_lines (stroke_start number) stroke))
      (sym (add-one number)) (so_far-suc stroke within is)
