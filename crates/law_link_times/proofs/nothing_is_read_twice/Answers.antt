use Rattle.law_link_times.proofs.ReadOnce.{each_is_read_once, port_lines_are_arrivals}
use Rattle.law_link_times.proofs.nothing_is_read_twice.Goals as goal

pub returns-clause-once : goal.returns-clause-once
returns-clause-once c = each_is_read_once

pub returns-clause-lines : goal.returns-clause-lines
returns-clause-lines c = port_lines_are_arrivals
