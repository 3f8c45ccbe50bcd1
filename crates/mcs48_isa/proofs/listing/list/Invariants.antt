use Rattle.std.proofs.Common.{◌-◌, ◌≤◌}
use Rattle.mcs48_isa.specs.Listing.{end_of, listing_of}
use Rattle.mcs48_isa.proofs.Lines.{Continues}
use Rattle.mcs48_isa.proofs.listing.list.Given as goal

abbrev pub invariant-loop-place : goal.invariant-loop-place
invariant-loop-place l = record {
  within : l.place ≤ 2048;
  text : Continues l.image.bytes (end_of l.image.bytes) l.place l.text.items (listing_of l.image.bytes);
}

abbrev pub decreases-loop-place : goal.decreases-loop-place
decreases-loop-place l = l.end - l.place
