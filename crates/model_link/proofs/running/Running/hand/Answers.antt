use Rattle.std.proofs.Common.{◌+◌, ◌-◌, ap, ◌∙◌, arith}
use Rattle.ctl_link.specs.Link.{is_busy}
use Rattle.host_turn.specs.Run.{Side}
use Rattle.model_controller.specs.declared.UnderWay.{UnderWay}
use Rattle.model_link.proofs.Carried.{quiet_handing, handed_by}
use Rattle.model_link.proofs.running.Running.hand.Goals as goal

pub hand_over-requires : goal.hand_over-requires
hand_over-requires c =
    ap (λ (v : Side UnderWay). is_busy v.port.link) c.in_ok-run_on.ensures
    ∙ ap is_busy
    (quiet_handing c.args.events.now (c.args.now + 320 - c.args.now) c.args.now c.begin_handing.new.self
    (ap (λ (v : Side UnderWay). v.port.link) (c.begin_handing.ensures 0)))

pub returns : goal.returns
returns c = λ byte.
    handed_by c.args.events.now (c.args.now + 320 - c.args.now) (c.args.now + 320 + 1 - (c.args.now + 320)) c.args.now
    (c.args.now + 320) byte c.args.self.now c.begin_handing.new.self c.run_on.new.self c.hand_over.new.self
    c.run_on-2.new.self (omega arith) (omega arith) (omega arith) (c.begin_handing.ensures c.args.now)
    c.in_ok-run_on.ensures (c.hand_over.ensures (c.args.now + 320)) c.in_ok-run_on-2.ensures
