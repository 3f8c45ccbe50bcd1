-- A saved queue of edges: 1,629 bytes. Numbers of more than a byte have their lowest byte first; a truth value is 1 or 0.
-- The places after the last edge are zeros.
--
-- | from | bytes | what it is |
-- | 0 | 8 | KBD48QU, and the version, 1 |
-- | 8 | 8 | the stamp from which on the next edge may be handed over |
-- | 16 | 1 | how many edges wait |
-- | 17 | 12 | the keys that are down after them, as columns of the matrix: bit k is row k, 0 for down |
-- | 29 | 1600 | the edges that wait, 160 places of 10 bytes (joint_bytes, Lists) |
use Rattle.std.specs.Prelude.{ℕ, zero, suc, ◌%◌, ◌^◌, ◌==◌, ◌&&◌, Bool, true, not, nat_le, nat_lt, if◌then◌else◌}
use Rattle.std.specs.Prelude.{List, [], ◌∷◌, ◌++◌, drop, length, map, slice_index, slice_range, Ok, Err}
use Rattle.std.specs.declared.result.Result.{Result}
use Rattle.std.specs.Int.{w64, to_le_bytes}
use Rattle.board_terms.specs.Columns.{keys_in}
use Rattle.board_terms.specs.declared.event.Edge.{Edge}
use Rattle.edge_queue.specs.Calls.{edge_of}
use Rattle.edge_queue.specs.Queue.{Queue, edge_at}
use Rattle.edge_queue.specs.declared.queue.Pushed.{Pushed}
use Rattle.joint_bytes.specs.Lists.{edges_bytes, edges_in, have_places}
use Rattle.joint_saved.specs.Saved.{columns_of}
use Rattle.mcs48_bytes.specs.Numbers.{number_at}
use Rattle.queue_bytes.specs.declared.no_queue.NoQueue.{NoQueue}
use Rattle.queue_bytes.specs.declared.no_queue.NoQueue.TheVariants as N

-- all but the edges
abbrev pub head_bytes : Queue → List ℕ
head_bytes q =
    0x4B ∷ 0x42 ∷ 0x44 ∷ 0x34 ∷ 0x38 ∷ 0x51 ∷ 0x55 ∷ 1 ∷ to_le_bytes w64 q.ready
    ++ length q.waiting ∷ columns_of q.down

abbrev pub saved_bytes : Queue → List ℕ
saved_bytes q = head_bytes q ++ edges_bytes 160 (map edge_of q.waiting)

-- KBD48QU as a number of 7 bytes
abbrev pub magic : ℕ
magic = 0x5551383444424B

-- the first of these edges go down or up: 1 or 0
abbrev pub have_ways : ℕ → List ℕ → Bool
have_ways zero s = true
have_ways (suc n) s = nat_lt (slice_index s 9) 2 && have_ways n (drop 10 s)

-- the first of these faults that bytes have
abbrev pub checked : List ℕ → Result (Unit {0}) NoQueue
checked b =
    if not (length b == 1629) then Err N.Length
    else if not (number_at 0 b % 2 ^ 56 == magic) then Err N.Format
    else if not (slice_index b 7 == 1) then Err N.Version
    else if not (nat_le (slice_index b 16) 160) then Err N.Count
    else if not (have_places (slice_index b 16) (slice_range b 29 1629)) then Err N.Place
    else if not (have_ways (slice_index b 16) (slice_range b 29 1629)) then Err N.Way
    else Ok tt

abbrev pub pushed_of : Edge → Pushed
pushed_of e = edge_at e.stamp e.place e.down

-- the queue of bytes without a fault
abbrev pub queue_in : List ℕ → Queue
queue_in b = record {
  waiting = map pushed_of (edges_in (slice_index b 16) (slice_range b 29 1629));
  down = keys_in (slice_range b 17 29);
  ready = number_at 8 b;
}

abbrev pub loaded_by : Result (Unit {0}) NoQueue → List ℕ → Result Queue NoQueue
loaded_by (Ok done) b = Ok (queue_in b)
loaded_by (Err fault) b = Err fault

-- what bytes mean
abbrev pub loaded : List ℕ → Result Queue NoQueue
loaded b = loaded_by (checked b) b

-- the edges are at places of the matrix, as all are that a queue took
abbrev pub are_placed : List Pushed → Bool
are_placed [] = true
are_placed (e ∷ es) = nat_lt e.place 96 && are_placed es

-- what the bytes of a queue mean
abbrev pub loaded_again : Queue → Result Queue NoQueue
loaded_again q = if are_placed q.waiting then Ok q else Err N.Place
