use Rattle.std.proofs.Common.{rules}
use Rattle.board_terms.specs.declared.event.HostAct.TheVariants.{Read60}
use Rattle.kbd48_c.specs.Exports.{HasRead}
use Rattle.kbd48_c.proofs.Through.{through_call}
use Rattle.kbd48_c.proofs.calls.kbd48_read60.Goals as goal

pub returns-in-Some-clause-read : goal.returns-in-Some-clause-read
returns-in-Some-clause-read c =
    through_call (HasRead Read60 (λ t. t.read) c.args.byte.now c.read_port-status.new.byte)
    c.args.handle.now.keyboard c.holding.result.keyboard
    c.read_port-status.result c.deref_mut.result.now c.in-Some.keyboard.value c.read_port-status.new.keyboard (search rules)
    c.deref_mut.ensures.value c.in-Some.ensures.taken c.holding.ensures c.read_port-status.ensures.read
