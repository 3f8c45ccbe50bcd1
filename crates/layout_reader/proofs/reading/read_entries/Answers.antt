use Rattle.std.proofs.Common.{◌≡◌, ◌+◌, true, false, ◌&&◌, [], ◌∷◌, ◌++◌, drop, Ok, refl, sym, ap, ◌∙◌, arith}
use Rattle.std.proofs.lemmas.List.{drop_more}
use Rattle.std.specs.Prelude.{is_ok}
use Rattle.toml.specs.View.{view}
use Rattle.layout_reader.specs.Entries.{entry_from, is_fn, is_place_taken, is_key_named, has_fn}
use Rattle.toml.specs.declared.value.Value.{Value}
use Rattle.layout_reader.proofs.Laws.{AreEntries-push, AreEntries-nil}
use Rattle.layout_reader.proofs.Steps.{entries_step, ok_unless_err}
use Rattle.layout_reader.proofs.reading.read_entries.Goals as goal

pub loop-element-init : goal.loop-element-init
loop-element-init c = rw c.new-entries.ensures.items (record { rest = refl; sound = AreEntries-nil })

pub loop-element-preserved : goal.loop-element-preserved
loop-element-preserved c =
    let elements = c.args.elements.now in
    let i = c.loop-element.element-index in
    let element = c.element-item.result in
    let earlier = c.loop-element.entries.items in
    let entry = c.in-Ok.entry in
    let here : drop i elements ≡ element ∷ drop (i + 1) elements = drop_more elements i element (omega arith)
    ∙ ap (λ (y : Value). y ∷ drop (i + 1) elements) (sym c.element-item.is) in
    let pushed : is_ok c.push.result ≡ true = ok_unless_err c.push.result (sym c.is_err.ensures.value ∙ c.if-is_err.false) in
    let grown : c.push.new.self.items ≡ earlier ++ entry ∷ [] = rw pushed at c.push.ensures.items in
    let gives : entry_from c.args.format earlier (view element) ≡ Ok entry = rw (← c.as_slice.ensures.value) (sym c.in-Ok.ensures.entry) in
    let place : is_place_taken earlier entry.place ≡ false = rw (← c.as_slice.ensures.value) c.in-Ok.ensures.own_place in
    let key : is_key_named earlier entry.key ≡ false = rw (← c.as_slice.ensures.value) c.in-Ok.ensures.own_key in
    let one : (is_fn entry && has_fn earlier) ≡ false = rw (← c.as_slice.ensures.value) c.in-Ok.ensures.one_fn in
    record {
      rest = rw grown (sym (entries_step c.args.format earlier elements
          (drop (i + 1) elements) i element entry here gives) ∙ c.loop-element.invariant.rest);
      sound = rw grown (AreEntries-push earlier entry c.loop-element.invariant.sound c.in-Ok.ensures.sound place key one);
    }
