use Rattle.std.proofs.Common.{rules}
use Rattle.kbd48_c.specs.Items.{HasHandedOut}
use Rattle.kbd48_c.proofs.Through.{through_call}
use Rattle.kbd48_c.proofs.items.kbd48_next.Goals as goal

pub returns-in-Some-clause-handed : goal.returns-in-Some-clause-handed
returns-in-Some-clause-handed c =
    through_call (HasHandedOut c.args.item.now c.put_next-status.new.item)
    c.args.handle.now.keyboard c.holding.result.keyboard
    c.put_next-status.result c.deref_mut.result.now c.in-Some.keyboard.value c.put_next-status.new.keyboard (search rules)
    c.deref_mut.ensures.value c.in-Some.ensures.taken c.holding.ensures c.put_next-status.ensures.handed
