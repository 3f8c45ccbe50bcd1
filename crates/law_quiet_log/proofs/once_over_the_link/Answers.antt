use Rattle.law_quiet_log.proofs.Once.{arrival_law, arrives_as_offered, cut_offered}
use Rattle.law_quiet_log.proofs.Silent.{silent_in_test}
use Rattle.law_quiet_log.proofs.EachOnce.{each_byte_once}
use Rattle.law_quiet_log.proofs.Counted.{all_counted}
use Rattle.law_quiet_log.proofs.InLine.{line_in_order}
use Rattle.law_quiet_log.proofs.InOrder.{all_in_order}
use Rattle.law_quiet_log.proofs.once_over_the_link.Goals as goal

pub returns-clause-arrival : goal.returns-clause-arrival
returns-clause-arrival c = arrival_law

pub returns-clause-offered : goal.returns-clause-offered
returns-clause-offered c = arrives_as_offered

pub returns-clause-silent : goal.returns-clause-silent
returns-clause-silent c = silent_in_test

pub returns-clause-tick : goal.returns-clause-tick
returns-clause-tick c = each_byte_once

pub returns-clause-cut : goal.returns-clause-cut
returns-clause-cut c = cut_offered

pub returns-clause-run : goal.returns-clause-run
returns-clause-run c = all_counted

pub returns-clause-line : goal.returns-clause-line
returns-clause-line c = line_in_order

pub returns-clause-plain : goal.returns-clause-plain
returns-clause-plain c = all_in_order
