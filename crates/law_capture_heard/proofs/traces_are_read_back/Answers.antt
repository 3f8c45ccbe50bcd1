use Rattle.law_capture_heard.proofs.Timed.{every_seen_trace, every_trace}
use Rattle.law_capture_heard.proofs.traces_are_read_back.Goals as goal

pub returns : goal.returns
returns c = record { read_back = every_trace; seen_back = every_seen_trace }
