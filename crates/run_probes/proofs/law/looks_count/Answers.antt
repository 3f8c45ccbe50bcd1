use Rattle.run_probes.proofs.Counting.{counts_from_none}
use Rattle.run_probes.proofs.Looked.{looks_count}
use Rattle.run_probes.proofs.law.looks_count.Goals as goal

pub returns : goal.returns
returns c = record { looks = looks_count; from_none = counts_from_none }
