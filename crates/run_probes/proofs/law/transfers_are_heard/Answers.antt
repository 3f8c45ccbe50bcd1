use Rattle.run_probes.proofs.Hearing.{completes_by_falls, keeps_eleven_falls}
use Rattle.run_probes.proofs.law.transfers_are_heard.Goals as goal

pub returns : goal.returns
returns c = record { kept = keeps_eleven_falls; completed = completes_by_falls }
