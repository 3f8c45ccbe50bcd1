-- What a sink has of a piece, and of a text that is said to it line by line.
use Rattle.std.specs.Prelude.{◌≡◌, ℕ, zero, suc, ◌+◌, ◌≤◌, ◌==◌, Bool, true, false, List, [], ◌∷◌, length, drop}
use Rattle.std.specs.Prelude.{Some, IfSome, if◌then◌else◌}
use Rattle.std.specs.declared.option.Option.{Option}
use Rattle.io_edge.specs.Faults.{Rose}
use Rattle.io_edge.specs.MemorySink.{HeldBytes, after_put, put_fails, put_size}
use Rattle.io_edge.specs.Sink.{Takes}

-- the whole text
abbrev pub TakesAll : Option (List ℕ) → Option (List ℕ) → List ℕ → Type 0
TakesAll before after text = Takes before after text (length text)

-- a prefix of the text
abbrev pub TakesPart : Option (List ℕ) → Option (List ℕ) → List ℕ → Type 0
TakesPart before after text = (n : ℕ) × (n ≤ length text) × Takes before after text n

-- a sink in memory to which something was offered, and whether a put failed, which ends the offering
pub record Offered : Type 0 where
  pub sink : HeldBytes
  pub failed : Bool

-- a piece is put; if a part of it was taken, the rest is put, until nothing is left or a put fails. So many puts are
-- made at most
abbrev pub offered_by : ℕ → List ℕ → HeldBytes → Offered
offered_by zero piece sink = record { sink = sink; failed = false }
offered_by (suc puts) [] sink = record { sink = sink; failed = false }
offered_by (suc puts) (byte ∷ bytes) sink =
    let piece = byte ∷ bytes in
    if put_fails sink then record { sink = after_put sink piece; failed = true }
    else offered_by puts (drop (put_size sink piece) piece) (after_put sink piece)

-- no more puts than the piece has bytes are made, since each takes one at least
abbrev pub offered : List ℕ → HeldBytes → Offered
offered piece sink = offered_by (length piece) piece sink

-- the pieces one after another, up to the first put that fails
abbrev pub all_offered : List (List ℕ) → HeldBytes → Offered
all_offered [] sink = record { sink = sink; failed = false }
all_offered (piece ∷ pieces) sink =
    let here = offered piece sink in if here.failed then here else all_offered pieces here.sink

-- a byte before the first line
abbrev pub onto_first : ℕ → List (List ℕ) → List (List ℕ)
onto_first byte [] = (byte ∷ []) ∷ []
onto_first byte (line ∷ lines) = (byte ∷ line) ∷ lines

-- a text's lines, each with its LF
abbrev pub lines_in : List ℕ → List (List ℕ)
lines_in [] = []
lines_in (byte ∷ text) = if byte == 10 then (byte ∷ []) ∷ lines_in text else onto_first byte (lines_in text)

-- a text is said: its lines are offered
abbrev pub said : List ℕ → HeldBytes → Offered
said text sink = all_offered (lines_in text) sink

-- how long the first line of a text is, with its LF
abbrev pub line_length : List ℕ → ℕ
line_length [] = 0
line_length (byte ∷ text) = if byte == 10 then 1 else 1 + line_length text

-- what a sink shows of itself: the bytes that it took, and all else, if it shows them, and its count of faults
pub record Shown : Type 0 where
  pub taken : Option (List ℕ)
  pub in_memory : Option HeldBytes
  pub faults : ℕ

-- a text is said whole: the sink has taken all of it, line by line, and no put failed
pub record IsSaid (before after : Shown) (text : List ℕ) : Type 0 where
  pub all : TakesAll before.taken after.taken text
  pub steady : after.faults ≡ before.faults
  pub lines : IfSome before.in_memory (λ sink. (after.in_memory ≡ Some (said text sink).sink) × ((said text sink).failed ≡ false))

-- the saying of a text is broken off: a put of its lines failed, and the sink has what it took before
pub record IsBrokenOff (before after : Shown) (text : List ℕ) : Type 0 where
  pub part : TakesPart before.taken after.taken text
  pub failed : Rose before.faults after.faults
  pub lines : IfSome before.in_memory (λ sink. (after.in_memory ≡ Some (said text sink).sink) × ((said text sink).failed ≡ true))
