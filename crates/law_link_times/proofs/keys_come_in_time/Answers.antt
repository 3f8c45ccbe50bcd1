use Rattle.law_link_times.proofs.Among.{edge_among}
use Rattle.law_link_times.proofs.Latency as latency
use Rattle.law_link_times.proofs.Meeting.{latency_is_met}
use Rattle.law_link_times.proofs.Reading.{reads_what_arrives}
use Rattle.law_link_times.proofs.keys_come_in_time.Goals as goal

pub returns-clause-reads : goal.returns-clause-reads
returns-clause-reads c = reads_what_arrives

pub returns-clause-soon : goal.returns-clause-soon
returns-clause-soon c = latency.keys_come_in_time

pub returns-clause-soon_from : goal.returns-clause-soon_from
returns-clause-soon_from c = latency.keys_come_in_time_from

pub returns-clause-among : goal.returns-clause-among
returns-clause-among c = edge_among

pub returns-clause-met : goal.returns-clause-met
returns-clause-met c = latency_is_met
