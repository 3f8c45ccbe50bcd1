use Rattle.std.proofs.Common.{◌≡◌, true, false, [], ◌∷◌, string_bytes, refl, sym, ◌∙◌}
use Rattle.std.proofs.lemmas.Map.Iter.{rest_more, rest_all}
use Rattle.std.specs.Map.Iter.{deref}
use Rattle.layout_reader.specs.Fields.{is_field}
use Rattle.layout_reader.proofs.Names.{other_names}
use Rattle.layout_reader.proofs.fields.has_other_field.Goals as goal

pub loop-name-init : goal.loop-name-init
loop-name-init c = rw (c.into_iter-name-iterator.ensures.into_iter_gives, c.keys-name-items.ensures.rest)
    (other_names c.args.level c.args.fields.now.entries)

pub returns-then-not-has : goal.returns-then-not-has
returns-then-not-has c =
    let step : c.loop-name.name-iterator
    ≡ c.in-Some.name.now ∷ c.next.new.self = rest_more deref _ _ _ _ c.in-Some.is c.next.ensures.steps in
    let other : is_field c.args.level (string_bytes c.in-Some.name.now)
    ≡ false = rw (← c.as_str.ensures.value) (sym c.has.ensures ∙ c.if-not-has.true) in
    sym (sym c.loop-name.invariant ∙ rw (step, other) refl)

pub loop-name-preserved : goal.loop-name-preserved
loop-name-preserved c =
    let step : c.loop-name.name-iterator
    ≡ c.in-Some.name.now ∷ c.next.new.self = rest_more deref _ _ _ _ c.in-Some.is c.next.ensures.steps in
    let known : is_field c.args.level (string_bytes c.in-Some.name.now)
    ≡ true = rw (← c.as_str.ensures.value) (sym c.has.ensures ∙ c.if-not-has.false) in
    rw (step, known) at c.loop-name.invariant

pub returns : goal.returns
returns c =
    let end : c.loop-name.name-iterator ≡ [] = rest_all deref _ _ _ c.in-None.is c.next.ensures.steps in
    sym (sym c.loop-name.invariant ∙ rw end refl)
