use Rattle.std.proofs.Common.{◌≡◌, ◌≤◌, take}
use Rattle.mcs48_isa.specs.Listing.{end_of}
use Rattle.mcs48_isa.proofs.listing.listing_end.Given as goal

abbrev pub invariant-loop-place : goal.invariant-loop-place
invariant-loop-place l = record { end : l.end ≡ end_of (take l.place l.bytes); within : l.end ≤ l.place }
