use Rattle.std.proofs.Common.{◌≡◌, ap, ◌∙◌, subst}
use Rattle.fw_compile.specs.Image.{image_of}
use Rattle.io_edge.specs.Said.{IsBrokenOff, IsSaid}
use Rattle.joint_feed.specs.Stories.{story}
use Rattle.key_file.specs.Accepted.{IsAcceptedFor}
use Rattle.layout_reader.specs.Layouts.{IsKeyLayout}
use Rattle.std.specs.Prelude.{IfOk, OnErr, OnOk}
use Rattle.app_runs.specs.Sampling.{sample_history, sample_layout, sample_story}
use Rattle.app_runs.proofs.RunsAreSaid.{said_sample, sampled}
use Rattle.app_runs.proofs.sampling.sample.Goals as goal

pub new-requires-2-clause-accepted : goal.new-requires-2-clause-accepted
new-requires-2-clause-accepted g c =
    let own = sample_layout c.args.debounced in
    let layout : c.in_ok-layout.layout ≡ own = subst (λ r. IfOk r (λ l. l ≡ own)) c.in_ok-layout.ensures c.sample_layout.ensures.layout in
    let accepted : IsAcceptedFor own c.in_ok-history.history =
    subst (λ r. IfOk r (IsAcceptedFor own)) c.in_ok-history.ensures (c.sample_history.ensures.accepted c.args.debounced) in
    rw (layout, c.new.ensures) accepted

pub returns-clause-says : goal.returns-clause-says
returns-clause-says g c =
    let x = g.K.Sink.shown c.args.out.now in
    let y = g.K.Sink.shown c.say.new.out in
    let count = c.args.count in
    let own = sample_layout c.args.debounced in
    let layout : c.in_ok-layout.layout ≡ own = subst (λ r. IfOk r (λ l. l ≡ own)) c.in_ok-layout.ensures c.sample_layout.ensures.layout in
    let history : c.in_ok-history.history ≡ sample_history count =
    subst (λ r. IfOk r (λ h. h ≡ sample_history count)) c.in_ok-history.ensures c.sample_history.ensures.history in
    let engine : c.in_ok-engine.engine ≡ story (image_of c.in_ok-layout.layout) c.in_ok-history.history =
    subst (λ r. IfOk r (λ e. e ≡ story (image_of c.in_ok-layout.layout) c.new.result.history)) c.in_ok-engine.ensures c.new-2.ensures.engine
    ∙ ap (λ f. story (image_of c.in_ok-layout.layout) f.history) c.new.ensures in
    let this : c.in_ok-engine.engine ≡ sample_story count c.args.debounced =
    engine ∙ ap (λ l. story (image_of l) c.in_ok-history.history) layout ∙ ap (λ h. story (image_of own) h) history in
    said_sample count c.args.debounced c.say.result c.sample_line-line.result.items x y _ _
    (sampled count c.args.debounced c.requires.few c.runs_are_expected.ensures.expected (subst IsKeyLayout layout c.new-2.ensures.layout)
    c.in_ok-engine.engine this c.sample_line-line.result.items _ _ c.sample_line-line.ensures.line)
    (subst (λ t. OnOk c.say.result (IsSaid x y t)) c.deref.ensures.0 c.say.ensures.said)
    (subst (λ t. OnErr c.say.result (IsBrokenOff x y t)) c.deref.ensures.0 c.say.ensures.broken)
