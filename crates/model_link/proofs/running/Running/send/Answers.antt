use Rattle.std.proofs.Common.{◌≡◌, ◌+◌, ◌-◌, ap, ◌∙◌, arith}
use Rattle.host_turn.specs.Run.{Side}
use Rattle.model_controller.specs.declared.UnderWay.{UnderWay}
use Rattle.model_controller.specs.ByteTime.{Arrives, sends, sent_or_cut}
use Rattle.model_link.proofs.Carried.{sent_by, ends_by}
use Rattle.model_link.proofs.running.Running.send.Goals as goal

pub returns : goal.returns
returns c =
    let last : c.run_on-2.new.self ≡ sends c.args.events.now c.args.now c.args.self.now =
    sent_by c.args.events.now (c.args.now + 288 - c.args.now) (c.args.now + 320 - (c.args.now + 288)) c.args.now
    (c.args.now + 288) c.args.self.now c.begin_sending.new.self c.run_on.new.self c.close.new.self c.run_on-2.new.self
    (omega arith) (omega arith) (omega arith) (c.begin_sending.ensures c.args.now) c.in_ok-run_on.ensures
    (c.close.ensures (c.args.now + 288)) c.in_ok-run_on-2.ensures in
    record {
      side = ends_by c.args.events.now (c.args.now + 320 + 1 - (c.args.now + 320)) c.args.now (c.args.now + 320)
          (Arrives c.args.byte) (sends c.args.events.now c.args.now c.args.self.now) c.run_on-2.new.self
          c.arrive.new.self c.run_on-3.new.self (omega arith) (omega arith) last c.arrive.ensures
          c.in_ok-run_on-3.ensures;
      meeting = c.sent_or_cut.ensures.meeting
          ∙ ap (λ l. sent_or_cut c.args.byte l)
          (c.link-last.ensures ∙ ap (λ (v : Side UnderWay). v.port.link) last);
    }
