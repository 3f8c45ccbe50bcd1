use Rattle.std.proofs.Common.{◌≡◌, ◌+◌, ◌≤◌, List, map, length}
use Rattle.std.specs.Str.Lines.{lines}
use Rattle.mcs48_asm.specs.Places.{Placed}
use Rattle.mcs48_asm.specs.Capped.{kept_places}
use Rattle.mcs48_asm.specs.Kept.{kept_line, kept_value}
use Rattle.mcs48_asm.proofs.Passes.{IsPassed}
use Rattle.mcs48_asm.proofs.assembling.outcome_of.Given as goal

-- what the pass has made of the lines before the rest, of which there are so many
abbrev pub invariant-loop-line : goal.invariant-loop-line
invariant-loop-line l = record {
  memory : length l.bytes ≡ 2048;
  lines_left : l.number + length l.rest ≤ length l.text;
  pass : (earlier : List Placed)
      × IsPassed (kept_value l.names.entries) (kept_places 0 (map kept_line (lines l.text)))
      (kept_places l.place (map kept_line (lines l.rest))) (kept_value l.seen.entries) l.filled l.bytes l.number earlier;
}

abbrev pub decreases-loop-line : goal.decreases-loop-line
decreases-loop-line l = length l.rest
