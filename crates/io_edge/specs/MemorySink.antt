-- What a sink in memory holds.
use Rattle.std.specs.Prelude.{ℕ, ◌-◌, Bool, ◌||◌, nat_eq, nat_le, min, List, [], ◌++◌, length, take, if◌then◌else◌}
use Rattle.std.specs.Prelude.{Ok, Err}
use Rattle.std.specs.List.{list_any}
use Rattle.std.specs.declared.result.Result.{Result}
use Rattle.io_edge.specs.Faults.{one_more}
use Rattle.io_edge.specs.declared.sink.SinkFault.{SinkFault}
use Rattle.io_edge.specs.declared.sink.SinkFault.TheVariants.{Failed}

-- the bytes taken, how many it has room for, how many a put takes at most, how many puts it has had, the numbers of the
-- puts, from 1, that fail, and its count of faults
pub record HeldBytes : Type 0 where
  pub taken : List ℕ
  pub room : ℕ
  pub at_most : ℕ
  pub puts : ℕ
  pub fails : List ℕ
  pub faults : ℕ

-- one that has had no put
abbrev pub empty_sink : ℕ → List ℕ → ℕ → HeldBytes
empty_sink room fails at_most =
    record { taken = []; room = room; at_most = at_most; puts = 0; fails = fails; faults = 0 }

-- a put fails exactly if its number is one that fails, or the room was full before it
abbrev pub put_fails : HeldBytes → Bool
put_fails sink = list_any (nat_eq (one_more sink.puts)) sink.fails || nat_le sink.room (length sink.taken)

-- how much of a piece a put takes: as much as there is room for, but no more than a put takes at most
abbrev pub put_size : HeldBytes → List ℕ → ℕ
put_size sink piece = min (min (length piece) (sink.room - length sink.taken)) sink.at_most

-- what a put answers
abbrev pub put_answer : HeldBytes → List ℕ → Result ℕ SinkFault
put_answer sink piece = if put_fails sink then Err Failed else Ok (put_size sink piece)

-- the sink after a put; the put counts whatever it answers, and raises the count of faults exactly if it fails
abbrev pub after_put : HeldBytes → List ℕ → HeldBytes
after_put sink piece =
    if put_fails sink then record sink { puts = one_more sink.puts; faults = one_more sink.faults }
    else record sink { puts = one_more sink.puts; taken = sink.taken ++ take (put_size sink piece) piece }
