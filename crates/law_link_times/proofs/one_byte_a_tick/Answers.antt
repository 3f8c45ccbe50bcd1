use Rattle.law_link_times.proofs.Flowing as flow
use Rattle.law_link_times.proofs.QuietFlow.{quiet_byte_a_tick, quiet_sends, quiet_sends_from}
use Rattle.law_link_times.proofs.one_byte_a_tick.Goals as goal

pub returns-clause-flows : goal.returns-clause-flows
returns-clause-flows c = flow.one_byte_a_tick

pub returns-clause-sends : goal.returns-clause-sends
returns-clause-sends c = quiet_sends

pub returns-clause-sends_from : goal.returns-clause-sends_from
returns-clause-sends_from c = quiet_sends_from

pub returns-clause-quiet : goal.returns-clause-quiet
returns-clause-quiet c = quiet_byte_a_tick
