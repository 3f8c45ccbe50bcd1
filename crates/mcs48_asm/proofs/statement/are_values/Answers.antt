use Rattle.std.proofs.Common.{◌&&◌, sym, ap, ◌∙◌, is_some}
use Rattle.mcs48_asm.specs.Tokens.{tokens_of, parts_of}
use Rattle.mcs48_asm.specs.Statements.{values_of}
use Rattle.mcs48_asm.proofs.Commutes.{parts-turn, parts-end}
use Rattle.mcs48_asm.proofs.statement.are_values.Goals as goal

pub returns-then-not-is_value : goal.returns-then-not-is_value
returns-then-not-is_value c =
    sym (c.loop-part.invariant
    ∙ parts-turn c.loop-part.rest.now c.in-Some.part.now c.in-Some.more.now c.in-Some.ensures.pieces
    ∙ ap (λ b. b && is_some (values_of (parts_of (tokens_of c.in-Some.more.now)))) (sym c.is_value.ensures ∙ c.if-not-is_value.true))

pub loop-part-preserved : goal.loop-part-preserved
loop-part-preserved c =
    c.loop-part.invariant
    ∙ parts-turn c.loop-part.rest.now c.in-Some.part.now c.in-Some.more.now c.in-Some.ensures.pieces
    ∙ ap (λ b. b && is_some (values_of (parts_of (tokens_of c.in-Some.more.now)))) (sym c.is_value.ensures ∙ c.if-not-is_value.false)

pub returns : goal.returns
returns c = c.is_value-2.ensures ∙ sym (c.loop-part.invariant ∙ parts-end c.loop-part.rest.now c.in_default.ensures.pieces)
