use Rattle.std.proofs.Common.{◌∙◌, ap, subst}
use Rattle.capture_lines.specs.Captures.{capture_text}
use Rattle.io_edge.specs.Said.{IsBrokenOff, IsSaid}
use Rattle.app_answers.proofs.CapturesAreSaid.{broken_off, faultless}
use Rattle.app_answers.proofs.capturing.say_capture.Goals as goal

pub returns-in-Err-clause-says : goal.returns-in-Err-clause-says
returns-in-Err-clause-says g c =
    let x = g.K.Sink.shown c.args.out.now in
    let z = g.K.Sink.shown c.say.new.out in
    broken_off c.args.clk.now c.args.dat.now c.args.dump.now x z c.in-Err.failed
    (subst (λ t. IsBrokenOff x z t)
    (c.deref.ensures.value ∙ c.in-Ok.ensures.text
    ∙ ap (λ clk. capture_text clk c.as_bytes-2.result.now c.args.dump.now) c.as_bytes.ensures.value
    ∙ ap (λ dat. capture_text c.args.clk.now dat c.args.dump.now) c.as_bytes-2.ensures.value) c.in-Err.ensures.broken)

pub returns-clause-says : goal.returns-clause-says
returns-clause-says g c =
    let x = g.K.Sink.shown c.args.out.now in
    let z = g.K.Sink.shown c.say.new.out in
    let clk = c.as_bytes.ensures.value in
    let dat = c.as_bytes-2.ensures.value in
    let text = c.in-Ok.ensures.text in
    let value = c.deref.ensures.value in
    let fault = c.in-Ok.ensures.fault in
    let none = c.in-None.is in
    faultless c.args.clk.now c.args.dat.now c.args.dump.now x z (cc)
    (subst (λ t. IsSaid x z t) (cc) c.in-Ok-say.ensures.said)
