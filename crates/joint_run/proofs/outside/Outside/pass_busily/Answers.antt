use Rattle.std.proofs.Common.{◌≡◌, ap, sym, ◌∙◌, arith}
use Rattle.joint_run.specs.Due.{outside_of, passed}
use Rattle.joint_run.specs.Joint.{latch_of, Beside}
use Rattle.ctl_wire.specs.Wires.{wires}
use Rattle.joint_run.proofs.Passing.{pass_one, pass_two}
use Rattle.joint_run.proofs.outside.Outside.pass_busily.Goals as goal

pub returns-then-cycles-eq1 : goal.returns-then-cycles-eq1
returns-then-cycles-eq1 c =
    let one = pass_one c.args.host.now c.args.p2 c.args.now c.args.self.now c.cycle-first_done.new.self c.cycle-first_done.result
    c.args.items.now.items c.cycle-first_done.new.items.items c.next_of.result c.requires.none c.next_of.ensures
    c.cycle-first_done.ensures.outside c.cycle-first_done.ensures.done c.cycle-first_done.ensures.items in
    let all = ap (λ k. passed k c.args.now c.args.p2 c.args.host.now c.args.self.now) c.if-cycles-eq1.true ∙ one in
    record {
      passed = record {
        outside = ap outside_of (sym all);
        items = ap (λ (s : Beside). s.pc.side.log) (sym all);
        done = ap (λ (s : Beside). s.pc.side.done) (sym all);
        first = c.wires-first.ensures ∙ ap (λ (s : Beside). wires (latch_of c.args.p2) s.pc) (sym one);
        last = c.wires-first.ensures ∙ ap (λ (s : Beside). wires (latch_of c.args.p2) s.pc) (sym all);
      };
      empty = c.cycle-first_done.ensures.empty;
    }

pub returns : goal.returns
returns c =
    let one = pass_one c.args.host.now c.args.p2 c.args.now c.args.self.now c.cycle-first_done.new.self c.cycle-first_done.result
    c.args.items.now.items c.cycle-first_done.new.items.items c.next_of.result c.requires.none c.next_of.ensures
    c.cycle-first_done.ensures.outside c.cycle-first_done.ensures.done c.cycle-first_done.ensures.items in
    let two = pass_two c.args.host.now c.args.p2 c.args.now c.args.self.now c.cycle-first_done.new.self c.cycle-first_done.result
    c.args.items.now.items c.cycle-first_done.new.items.items c.next_of.result c.requires.none c.next_of.ensures
    c.cycle-first_done.ensures.outside c.cycle-first_done.ensures.done c.cycle-first_done.ensures.items
    c.cycle-last_done.new.self c.cycle-last_done.result c.cycle-last_done.new.items.items c.next_of-2.result c.next_of-2.ensures
    c.cycle-last_done.ensures.outside c.cycle-last_done.ensures.done c.cycle-last_done.ensures.items in
    let count : c.args.cycles ≡ 2 = omega (arith, c.requires.some, c.requires.few, c.if-cycles-eq1.false) in
    let all = ap (λ k. passed k c.args.now c.args.p2 c.args.host.now c.args.self.now) count ∙ two in
    record {
      passed = record {
        outside = ap outside_of (sym all);
        items = ap (λ (s : Beside). s.pc.side.log) (sym all);
        done = ap (λ (s : Beside). s.pc.side.done) (sym all);
        first = c.wires-first.ensures ∙ ap (λ (s : Beside). wires (latch_of c.args.p2) s.pc) (sym one);
        last = c.wires-last.ensures ∙ ap (λ (s : Beside). wires (latch_of c.args.p2) s.pc) (sym all);
      };
      empty = c.cycle-last_done.ensures.empty;
    }
