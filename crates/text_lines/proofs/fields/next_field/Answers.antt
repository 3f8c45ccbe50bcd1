use Rattle.std.proofs.Common.{◌≡◌, ◌<◌, [], ◌-◌, length, take, drop, ◌∙◌, arith}
use Rattle.std.proofs.lemmas.Grind.{common_steps}
use Rattle.std.proofs.lemmas.Bool.Decides.{nat_tests}
use Rattle.text_lines.specs.Fields.{fields}
use Rattle.text_lines.proofs.FirstField.{fields-empty, fields-first, fields-last}
use Rattle.text_lines.proofs.fields.next_field.Goals as goal

pub returns-then-is_empty-clause-fields : goal.returns-then-is_empty-clause-fields
returns-then-is_empty-clause-fields c =
    c.unindented-fields.ensures.fields
    ∙ fields-empty c.unindented-fields.result.now (grind (arith, nat_tests, c.if-is_empty.true, c.if-is_empty.ensures))

pub returns-in-Some-clause-fields : goal.returns-in-Some-clause-fields
returns-in-Some-clause-fields c =
    let text = c.unindented-fields.result.now in
    let some : 0 < length text = grind (arith, nat_tests, c.if-is_empty.false, c.if-is_empty.ensures) in
    c.unindented-fields.ensures.fields
    ∙ fields-first text c.in-Some.parts.0.now c.in-Some.parts.1.now c.unindented-fields.ensures.first some c.in-Some.ensures.pieces

pub returns-in-None-clause-fields : goal.returns-in-None-clause-fields
returns-in-None-clause-fields c =
    let text = c.unindented-fields.result.now in
    let some : 0 < length text = grind (arith, nat_tests, c.if-is_empty.false, c.if-is_empty.ensures) in
    let none : fields (take (length text - length text) (drop (length text) text))
    ≡ [] = fields-empty (take (length text - length text) (drop (length text) text)) (grind (arith, common_steps)) in
    rw none (c.unindented-fields.ensures.fields ∙ fields-last text c.unindented-fields.ensures.first some c.in-None.ensures.pieces)
