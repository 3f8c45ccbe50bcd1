use Rattle.law_any_host.proofs.Hosted.{any_host}
use Rattle.law_any_host.proofs.Latch.{wirings}
use Rattle.law_any_host.proofs.works_at_any_host.Goals as goal

pub returns : goal.returns
returns c = record { host = any_host; wirings = wirings }
