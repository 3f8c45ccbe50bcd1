use Rattle.std.proofs.Common.{◌∷◌, [], refl, ap, ◌∙◌}
use Rattle.ctl_wire.specs.Wires.{wires}
use Rattle.joint_run.specs.Due.{ended, machine_after, passed}
use Rattle.joint_run.specs.Edgeless.{without_edges}
use Rattle.joint_run.specs.Joint.{latch_of}
use Rattle.joint_run.proofs.Ending.{passed_by}
use Rattle.joint_run.proofs.machine.Machine.end_step.Goals as goal

pub returns-clause-ended : goal.returns-clause-ended
returns-clause-ended c =
    let m = c.args.self.now in
    let due = c.args.due.now in
    let is =
    passed_by m due c.args.cycles c.port_2-p2.result c.as_slice.result.now c.pass-host.new.self c.pass-host.new.items.items
    c.pass-host.result c.port_2-p2.ensures c.as_slice.ensures.value
    c.pass-host.ensures.passed in
    ap (λ o. record (machine_after (without_edges due) m (ended c.args.cycles due m)) { outside = o }) is.outside

pub returns-clause-seen : goal.returns-clause-seen
returns-clause-seen c =
    let m = c.args.self.now in
    let due = c.args.due.now in
    let is =
    passed_by m due c.args.cycles c.port_2-p2.result c.as_slice.result.now c.pass-host.new.self c.pass-host.new.items.items
    c.pass-host.result c.port_2-p2.ensures c.as_slice.ensures.value
    c.pass-host.ensures.passed in
    record {
      cycles = refl;
      edges = refl;
      host = is.done;
      items = is.items;
      lines = ap (λ l. l ∷ c.pass-host.result.2 ∷ []) is.first
          ∙ ap (λ l. wires (latch_of m.mcu.p2) (passed 1 m.cycle m.mcu.p2 due.host.items m.outside).pc ∷ l ∷ []) is.last;
    }
