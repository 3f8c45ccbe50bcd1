-- What bytes lack first, by the tests.
use Rattle.std.proofs.Common.{◌≡◌, ◌%◌, ◌^◌, ◌==◌, ℕ, Bool, true, false, List, length, Ok, Err, sym}
use Rattle.std.specs.Prelude.{not, nat_le, slice_index, slice_range, if◌then◌else◌}
use Rattle.std.specs.declared.result.Result.{Result}
use Rattle.joint_bytes.specs.Lists.{have_places}
use Rattle.mcs48_bytes.specs.Numbers.{number_at}
use Rattle.queue_bytes.specs.Saved.{checked, have_ways, magic}
use Rattle.queue_bytes.specs.declared.no_queue.NoQueue.{NoQueue}
use Rattle.queue_bytes.specs.declared.no_queue.NoQueue.TheVariants as N

-- what is found by the tests, in their order
abbrev pub judged : Bool → Bool → Bool → Bool → Bool → Bool → Result (Unit {0}) NoQueue
judged whole name version few places ways =
    if not whole then Err N.Length
    else if not name then Err N.Format
    else if not version then Err N.Version
    else if not few then Err N.Count
    else if not places then Err N.Place
    else if not ways then Err N.Way
    else Ok tt

module _ (b : List ℕ) (whole : (length b == 1629) ≡ true) (name : (number_at 0 b % 2 ^ 56 == magic) ≡ true)
    (version : (slice_index b 7 == 1) ≡ true) (few : nat_le (slice_index b 16) 160 ≡ true) where
  -- an edge is at no place
  pub no_place : have_places (slice_index b 16) (slice_range b 29 1629) ≡ false → Err N.Place ≡ checked b
  no_place places =
      let lacks : checked b ≡ Err N.Place = λ i. judged (whole i) (name i) (version i) (few i) (places i)
      (have_ways (slice_index b 16) (slice_range b 29 1629)) in
      sym lacks

  -- an edge goes neither down nor up
  pub no_way : have_places (slice_index b 16) (slice_range b 29 1629) ≡ true
      → have_ways (slice_index b 16) (slice_range b 29 1629) ≡ false → Err N.Way ≡ checked b
  no_way places ways =
      let lacks : checked b ≡ Err N.Way = λ i. judged (whole i) (name i) (version i) (few i) (places i) (ways i) in
      sym lacks

  -- nothing is lacking
  pub no_fault : have_places (slice_index b 16) (slice_range b 29 1629) ≡ true
      → have_ways (slice_index b 16) (slice_range b 29 1629) ≡ true → Ok tt ≡ checked b
  no_fault places ways =
      let has_all : checked b ≡ Ok tt = λ i. judged (whole i) (name i) (version i) (few i) (places i) (ways i) in
      sym has_all
