-- A queue of edges as bytes in a buffer of the caller's, and back.
use Rattle.std.specs.Prelude.{◌≡◌, ◌⊎◌, ℕ, ℤ, List, ◌++◌, drop, Ok, Err}
use Rattle.edge_queue.specs.Queue.{Queue, queue_of}
use Rattle.edge_queue.specs.declared.queue.EdgeQueue.{EdgeQueue}
use Rattle.queue_bytes.specs.Saved.{loaded, loaded_again, saved_bytes}
use Rattle.queue_bytes.specs.declared.no_queue.NoQueue.{NoQueue}
use Rattle.queue_bytes.specs.declared.no_queue.NoQueue.TheVariants as N
use Rattle.kbd48_c.specs.Saving.{bad_size, bad_state, not_saved, other_version}
use Rattle.kbd48_c.specs.Statuses.{done}

-- the status of bytes that mean no queue
abbrev pub no_queue_status : NoQueue → ℤ
no_queue_status N.Length = bad_size
no_queue_status N.Format = not_saved
no_queue_status N.Version = other_version
no_queue_status N.Count = bad_state
no_queue_status N.Place = bad_state
no_queue_status N.Way = bad_state

-- the buffer begins with the queue's bytes, which are loaded as this queue if its edges are at places of the matrix, and its
-- other bytes stay
abbrev pub HasFilledKeys : Queue → List ℕ → ℤ → List ℕ → Type 0
HasFilledKeys q before status after =
    (status ≡ done) × (after ≡ saved_bytes q ++ drop 1629 before) × (loaded (saved_bytes q) ≡ loaded_again q)

-- the queue is that of the bytes; or they were refused for what they lack first, and the queue is as it was
abbrev pub HasLoadedKeys : List ℕ → EdgeQueue → ℤ → EdgeQueue → Type 0
HasLoadedKeys bytes before status after =
    ((status ≡ done) × (loaded bytes ≡ Ok (queue_of after)))
    ⊎ ((fault : NoQueue) × (loaded bytes ≡ Err fault) × (status ≡ no_queue_status fault) × (after ≡ before))
