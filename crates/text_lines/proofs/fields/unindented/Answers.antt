use Rattle.std.proofs.Common.{ℕ, ◌∙◌, sym, arith}
use Rattle.std.proofs.lemmas.List.{length-take, length-drop}
use Rattle.text_lines.proofs.FirstField.{fields-rest}
use Rattle.text_lines.proofs.fields.unindented.Goals as goal

pub loop-rest-preserved : goal.loop-rest-preserved
loop-rest-preserved c =
    let blank = sym c.is_blank.ensures.blank ∙ c.if-is_blank.true in (
      c.loop-rest.invariant.0
          ∙ fields-rest c.loop-rest.rest.now c.in-len1-up.len_at_least blank,
      omega (arith, length-take {A = ℕ}, length-drop {A = ℕ}),
    )
