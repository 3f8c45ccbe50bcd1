use Rattle.std.proofs.Common.{rules}
use Rattle.board_terms.specs.declared.event.HostAct.TheVariants.{Status}
use Rattle.kbd48_c.specs.Exports.{HasRead}
use Rattle.kbd48_c.proofs.Through.{through_call}
use Rattle.kbd48_c.proofs.calls.kbd48_status.Goals as goal

pub returns-in-Some-clause-read : goal.returns-in-Some-clause-read
returns-in-Some-clause-read c =
    through_call (HasRead Status (λ t. t.status) c.args.byte.now c.read_status-status.new.byte)
    c.args.handle.now.keyboard c.holding.result.keyboard
    c.read_status-status.result c.deref_mut.result.now c.in-Some.keyboard.value c.read_status-status.new.keyboard (search rules)
    c.deref_mut.ensures.value c.in-Some.ensures.taken c.holding.ensures c.read_status-status.ensures.read
