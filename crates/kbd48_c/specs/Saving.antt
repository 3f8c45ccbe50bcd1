-- A keyboard as bytes in a buffer of the caller's, and back.
use Rattle.std.specs.Prelude.{◌≡◌, ◌<◌, ◌≤◌, ◌⊎◌, ℕ, ℤ, pos, List, ◌++◌, drop, length, Option, None, Some, Ok}
use Rattle.joint_saved.specs.Saved.{IsUnloaded, loaded, saved_bytes}
use Rattle.joint_saved.specs.declared.unloaded.Unloaded.{Unloaded}
use Rattle.joint_saved.specs.declared.unloaded.Unloaded.TheVariants as U
use Rattle.live_board.specs.Pasts.{Past}
use Rattle.live_board.specs.Saved.{kept}
use Rattle.live_board.specs.States.{HasPast}
use Rattle.live_board.specs.declared.parts.Parts.{Parts as Keyboard}
use Rattle.kbd48_c.specs.Statuses.{done, no_memory, not_open}

abbrev pub bad_size : ℤ
bad_size = pos 20

abbrev pub not_saved : ℤ
not_saved = pos 21

abbrev pub other_version : ℤ
other_version = pos 22

abbrev pub bad_state : ℤ
bad_state = pos 23

-- the status of bytes that mean no keyboard
abbrev pub unloaded_status : Unloaded → ℤ
unloaded_status U.Length = bad_size
unloaded_status U.Format = not_saved
unloaded_status U.Version = other_version
unloaded_status U.Counts = bad_state
unloaded_status U.Keys = bad_state
unloaded_status U.Processor = bad_state
unloaded_status U.Link = bad_state
unloaded_status U.State = bad_state
unloaded_status U.Memory = no_memory

-- the buffer begins with the keyboard's bytes, of which this keyboard is loaded again, and its other bytes stay
abbrev pub HasFilled : Keyboard → List ℕ → ℤ → List ℕ → Type 0
HasFilled k before status after =
    (status ≡ done) × (after ≡ saved_bytes (kept k) ++ drop 3077 before) × (loaded (saved_bytes (kept k)) ≡ Ok (kept k))

-- so it is of a keyboard, if the buffer is long enough; else it stays as it was, as it does with an empty handle
abbrev pub HasSaved : Option Keyboard → List ℕ → ℤ → List ℕ → Type 0
HasSaved None before status after = (status ≡ not_open) × (after ≡ before)
HasSaved (Some k) before status after =
    (3077 ≤ length before → HasFilled k before status after)
    × (length before < 3077 → (status ≡ bad_size) × (after ≡ before))

-- a keyboard that these bytes mean: it is in every past in which one with these bytes was
pub record IsLoaded (bytes : List ℕ) (k : Keyboard) : Type 0 where
  pub same : loaded bytes ≡ Ok (kept k)
  pub has_past : (p : Past) (old : Keyboard) → loaded bytes ≡ Ok (kept old) → HasPast p old → HasPast p k

-- the handle has it; or the bytes were refused, for what they lack first or for want of memory, and it has what it had
abbrev pub HasLoaded : List ℕ → Option Keyboard → ℤ → Option Keyboard → Type 0
HasLoaded bytes before status after =
    ((status ≡ done) × (k : Keyboard) × (after ≡ Some k) × IsLoaded bytes k)
    ⊎ ((fault : Unloaded) × IsUnloaded bytes fault × (status ≡ unloaded_status fault) × (after ≡ before))
