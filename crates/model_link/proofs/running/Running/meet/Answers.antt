use Rattle.std.proofs.Common.{◌≡◌, ℕ, ◌+◌, ◌-◌, ap, ◌∙◌, sym, subst, arith}
use Rattle.ctl_link.specs.declared.link.Link.{Link}
use Rattle.ctl_link.specs.declared.link.Link.TheVariants.{Request}
use Rattle.host_turn.specs.Run.{Side}
use Rattle.model_controller.specs.declared.UnderWay.{UnderWay}
use Rattle.model_controller.specs.declared.meeting.Meeting.{Meeting}
use Rattle.model_link.specs.Passing.{MayBegin}
use Rattle.model_link.proofs.Carried.{may_begin, quiet_request, meets_so, comes_so}
use Rattle.model_link.proofs.running.Running.meet.Goals as goal

pub carry-requires-clause-may_begin : goal.carry-requires-clause-may_begin
carry-requires-clause-may_begin c =
    let stays : (byte : ℕ) → c.link-earlier.result ≡ Request byte → c.link.result ≡ Request byte = λ byte e.
    c.link.ensures ∙ ap (λ (v : Side UnderWay). v.port.link) c.in_ok-run_on.ensures
    ∙ quiet_request c.args.events.now (c.args.start + 288 - (c.args.start + 256))
    (c.args.start + 256) c.args.self.now byte (sym c.link-earlier.ensures ∙ e) in
    subst (λ (l : Link UnderWay). MayBegin c.meeting_of-begins.result l) c.link.ensures
    (subst (λ (m : Meeting). MayBegin m c.link.result) (sym c.meeting_of-begins.ensures.meeting)
    (may_begin c.args.tested c.args.offer c.link-earlier.result c.link.result stays))

pub returns : goal.returns
returns c = record {
  meeting = meets_so c.args.events.now c.args.tested c.args.offer c.args.start (c.args.end - c.args.start - 609)
      c.args.self.now c.run_on.new.self c.carry.new.self c.run_on-2.new.self c.link-earlier.result c.link.result
      c.meeting_of-begins.result c.in_ok-meeting.meeting (c.args.start + 288 - (c.args.start + 256))
      (c.args.end - (c.args.start + 609)) (c.args.start + 256) (c.args.start + 288) (c.args.start + 609)
      (omega arith) (omega arith) (omega arith) (omega arith) (omega arith) c.link-earlier.ensures
      c.in_ok-run_on.ensures
      c.link.ensures c.meeting_of-begins.ensures.meeting c.in_ok-meeting.ensures.meeting;
  side = comes_so c.args.events.now c.args.tested c.args.offer c.args.start (c.args.end - c.args.start - 609)
      c.args.self.now c.run_on.new.self c.carry.new.self c.run_on-2.new.self c.link-earlier.result c.link.result
      c.meeting_of-begins.result c.in_ok-meeting.meeting (c.args.start + 288 - (c.args.start + 256))
      (c.args.end - (c.args.start + 609)) (c.args.start + 256) (c.args.start + 288) (c.args.start + 609)
      (omega arith) (omega arith) (omega arith) (omega arith) (omega arith) c.link-earlier.ensures
      c.in_ok-run_on.ensures
      c.link.ensures c.meeting_of-begins.ensures.meeting c.in_ok-meeting.ensures.side c.in_ok-run_on-2.ensures;
}
