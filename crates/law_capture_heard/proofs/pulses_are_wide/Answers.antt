use Rattle.law_capture_heard.proofs.Widths.{every_pulse}
use Rattle.law_capture_heard.proofs.pulses_are_wide.Goals as goal

pub returns : goal.returns
returns c = record { pulses = every_pulse }
