use Rattle.std.proofs.Common.{Ok, map, subst, sym}
use Rattle.app_words.specs.declared.words.BoardCommand.{BoardCommand}
use Rattle.app_answers.specs.Spoken.{IsSpoken}
use Rattle.app_boards.proofs.BoardsAreSaid.{MayBoard}
use Rattle.app_boards.proofs.boarding.put_board.Goals as goal

pub returns-in-Log : goal.returns-in-Log
returns-in-Log g c =
    let x = g.K.Sink.shown c.args.out.now in
    let y = g.K.Sink.shown c.put_log.new.out in
    record {
      says = subst (λ (w : BoardCommand). IsSpoken (MayBoard w c.args.board
          (map (λ b. (goal.Probe-dyn g (b.vtable, b.value)).watch b.value) c.args.probes.now.items)
          (map (λ b. (goal.Probe-dyn g (b.vtable, b.value)).watch b.value) c.put_log.new.probes.items)) (Ok c.put_log.result) x y)
          (sym c.in-Log.is) c.put_log.ensures.says;
    }

pub returns-in-Trace : goal.returns-in-Trace
returns-in-Trace g c =
    let x = g.K.Sink.shown c.args.out.now in
    let y = g.K.Sink.shown c.put_trace.new.out in
    record {
      says = subst (λ (w : BoardCommand). IsSpoken (MayBoard w c.args.board
          (map (λ b. (goal.Probe-dyn g (b.vtable, b.value)).watch b.value) c.args.probes.now.items)
          (map (λ b. (goal.Probe-dyn g (b.vtable, b.value)).watch b.value) c.put_trace.new.probes.items)) (Ok c.put_trace.result) x y)
          (sym c.in-Trace.is) c.put_trace.ensures.says;
    }
