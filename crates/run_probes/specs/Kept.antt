-- What the code keeps of the last sample.
use Rattle.std.specs.Prelude.{true, Some, None}
use Rattle.std.specs.declared.option.Option.{Option}
use Rattle.board_terms.specs.declared.lines.Lines.{Lines}
use Rattle.run_probes.specs.declared.heard.Kept.{Kept}
use Rattle.run_probes.specs.declared.heard.Kept.TheVariants.{Silence, High, Whole}
use Rattle.run_probes.specs.declared.heard.Sample.{Sample}
use Rattle.run_probes.specs.Transfers.{sample}

-- both wires are high
abbrev pub both_high : Lines
both_high = record { clk = true; dat = true }

-- the sample of which it was kept
abbrev pub sample_kept : Kept → Option Sample
sample_kept Silence = None
sample_kept (High cycle) = Some (sample cycle both_high)
sample_kept (Whole s) = Some s
