use Rattle.debugger.proofs.Counted.{walk_counts, hunt_counts}
use Rattle.debugger.proofs.Asked.{lines_are_obeyed}
use Rattle.debugger.proofs.Lasting.{lines_count, counts_since_armed}
use Rattle.debugger.proofs.law.probes_count.Goals as goal

pub returns : goal.returns
returns c = record { walk = walk_counts; hunt = hunt_counts; lines = lines_count; armed = counts_since_armed; script = lines_are_obeyed }
