use Rattle.law_wires_heard.proofs.Probing.{every_probe_counts}
use Rattle.law_wires_heard.proofs.wire_probes_count.Goals as goal

pub returns : goal.returns
returns c = record { counted = every_probe_counts }
