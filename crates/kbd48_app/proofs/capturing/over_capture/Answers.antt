use Rattle.kbd48_app.proofs.CapturesAreSaid.{capture_spoken}
use Rattle.kbd48_app.proofs.capturing.over_capture.Goals as goal

pub returns-clause-ends : goal.returns-clause-ends
returns-clause-ends g c = λ probes.
    capture_spoken c.args.clk.now c.args.dat.now c.args.dump.now (g.F.Shelf.in_memory c.args.shelf.now) _ c.in_ok-file.file _
    c.in_ok-file.ensures.gives c.in_ok-file.ensures.fetched c.deref.ensures.value probes c.say_capture.result
    (g.K.Sink.shown c.args.out.now)
    (g.K.Sink.shown c.say_capture.new.out) c.say_capture.ensures.says
