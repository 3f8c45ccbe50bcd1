use Rattle.std.proofs.Common.{List, ℕ, Bool, sym, subst, ◌∙◌}
use Rattle.std.specs.Prelude.{All}
use Rattle.layout_reader.specs.Layouts.{HasEntry, is_fn_place}
use Rattle.model_keyboard.specs.declared.edge.TickEdge.{TickEdge}
use Rattle.model_link.specs.Debounce.{Switches, AreKnown}
use Rattle.model_link.specs.Expected.{Whole}
use Rattle.model_link.specs.Machine.{LayeredKeyboard}
use Rattle.model_link.proofs.Known.{layered_known}
use Rattle.model_link.proofs.Taken.{taken_known, switched_known}
use Rattle.model_link.proofs.whole.Together.tick.Goals as goal

pub advance-requires-clause-edges : goal.advance-requires-clause-edges
advance-requires-clause-edges c =
    let layout = c.args.layout.now in
    let known : AreKnown layout c.self.inside.switches =
    subst (λ (w : Whole LayeredKeyboard). AreKnown layout w.keys.switches) (sym c.self.view_is) c.requires.switches in
    subst (λ (es : List TickEdge). All (λ e. HasEntry layout e.place) es)
    (sym (c.as_slice-2.ensures.value ∙ c.in_ok-edges.ensures.edges))
    (layered_known (HasEntry layout) (is_fn_place layout) _ _
    (subst (λ (es : List (ℕ × Bool)). All (λ (e : ℕ × Bool). HasEntry layout e.0) es)
    (sym (c.as_slice.ensures.value ∙ c.in_ok-taken.ensures.edges))
    (taken_known layout c.debounces.result c.args.changes.now c.self.inside.switches c.requires.edges known)))

pub returns-clause-keys : goal.returns-clause-keys
returns-clause-keys c =
    let layout = c.args.layout.now in
    let known : AreKnown layout c.self.inside.switches =
    subst (λ (w : Whole LayeredKeyboard). AreKnown layout w.keys.switches) (sym c.self.view_is) c.requires.switches in
    subst (λ (s : Switches). AreKnown layout s) (sym c.in_ok-taken.ensures.switches)
    (switched_known layout c.debounces.result c.args.changes.now c.self.inside.switches c.requires.edges known)
