use Rattle.std.proofs.Common.{◌++◌, ap, ◌∙◌}
use Rattle.host_turn.specs.Cycle.{cycled}
use Rattle.model_controller.specs.ByteTime.{is_open}
use Rattle.model_link.proofs.Steps.{cycle_ends}
use Rattle.model_link.proofs.running.Running.cycle.Goals as goal

pub returns : goal.returns
returns c =
    cycle_ends c.args.events.now c.args.now c.args.self.now c.self.inside.desk c.go_on-was_done.new.self c.self.inside.done
    c.counted-self-inside.result c.self.inside.log.items c.log_items.new.log.items c.next-next.result c.go_on-was_done.result
    c.as_slice.result.now c.self.view_is c.next-next.ensures c.go_on-was_done.ensures.desk c.go_on-was_done.ensures.done
    (c.as_slice.ensures.value ∙ c.go_on-was_done.ensures.items
    ∙ ap (λ v. v ++ (cycled is_open c.args.now c.next-next.result c.self.inside.desk).items) c.new-items.ensures)
    c.counted-self-inside.ensures c.in_ok-log_items.ensures
