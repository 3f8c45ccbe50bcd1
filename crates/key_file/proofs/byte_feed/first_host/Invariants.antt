use Rattle.std.proofs.Common.{◌≡◌, length}
use Rattle.std.specs.Str.Lines.{lines}
use Rattle.key_file.specs.Cursors.{host_in}
use Rattle.key_file.proofs.byte_feed.first_host.Given as goal

-- the lines so far give none
abbrev pub invariant-loop-line : goal.invariant-loop-line
invariant-loop-line l = host_in l.layout (lines l.text) ≡ host_in l.layout (lines l.rest)

abbrev pub decreases-loop-line : goal.decreases-loop-line
decreases-loop-line l = length l.rest
