-- The key queue. It has sixteen places; codes enter it whole, and leave it byte by byte.
use Rattle.std.specs.Prelude.{ℕ, ◌+◌, ◌==◌, nat_lt, Bool, true, false, not, ◌&&◌, ◌||◌, if◌then◌else◌}
use Rattle.std.specs.Prelude.{List, [], ◌∷◌, ◌++◌, length, Some, None}
use Rattle.std.specs.declared.option.Option.{Option}

-- the bytes, the one to be sent next first; whether a code found no room; whether a break is started, so that its F0
-- is sent and its code is next
pub record KeyQueue : Type 0 where
  pub bytes : List ℕ
  pub overrun : Bool
  pub break_started : Bool

abbrev pub empty : KeyQueue
empty = record { bytes = []; overrun = false; break_started = false }

-- a code enters whole or not at all. If one found no room there is an overrun; all codes are lost until it is reported
abbrev pub enter : List ℕ → KeyQueue → KeyQueue
enter code q =
    if q.overrun || nat_lt 16 (length q.bytes + length code) then record q { overrun = true }
    else record q { bytes = q.bytes ++ code }

-- the byte to be sent next; an overrun is reported by 00, once the queue is empty
abbrev pub first_of : List ℕ → Bool → Option ℕ
first_of [] overrun = if overrun then Some 0x00 else None
first_of (byte ∷ rest) overrun = Some byte

abbrev pub first : KeyQueue → Option ℕ
first q = first_of q.bytes q.overrun

-- the queue once that byte is sent. F0 starts a break, and the byte after it ends it
abbrev pub without_first : List ℕ → KeyQueue → KeyQueue
without_first [] q = record q { overrun = false }
without_first (byte ∷ rest) q = record q { bytes = rest; break_started = (byte == 0xf0) && not q.break_started }

abbrev pub drop_first : KeyQueue → KeyQueue
drop_first q = without_first q.bytes q

-- a cleared queue is empty, but for the code of a break that is started
abbrev pub kept : Bool → List ℕ → List ℕ
kept false bytes = []
kept true [] = []
kept true (byte ∷ rest) = byte ∷ []

abbrev pub clear : KeyQueue → KeyQueue
clear q = record { bytes = kept q.break_started q.bytes; overrun = false; break_started = q.break_started }
