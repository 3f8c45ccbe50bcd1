-- What a host hears on the wires: it counts the falls of the clock, eleven a byte. It takes the byte at the eleventh, or at
-- the tenth already.
use Rattle.std.specs.Prelude.{ℕ, zero, suc, ◌==◌, Bool, true, false, not, ◌&&◌, List, [], ◌∷◌, ◌++◌, length}
use Rattle.std.specs.Prelude.{if◌then◌else◌}
use Rattle.std.specs.declared.option.Option.{Option}
use Rattle.board_terms.specs.Frame.{byte_of}
use Rattle.law_any_host.specs.Wires.{Wiring}

-- what the host has under way: the bits of a byte of the keyboard, or a byte that it sends, with the falls it has seen
pub data Mode : Type 0 where
  Takes : List Bool → Mode
  Gives : ℕ → ℕ → Mode

-- and the bytes that it took, None for one that came wrong, and those that it has sent, in order
pub record Ear : Type 0 where
  pub mode : Mode
  pub taken : List (Option ℕ)
  pub given : List ℕ

abbrev pub no_byte : Ear
no_byte = record { mode = Takes []; taken = []; given = [] }

-- a fall of the clock: the eleventh ends the byte
abbrev pub with_bit : List Bool → Bool → Ear → Ear
with_bit bits bit e =
    if length bits == 10 then record e { mode = Takes []; taken = e.taken ++ byte_of (bits ++ bit ∷ []) ∷ [] }
    else record e { mode = Takes (bits ++ bit ∷ []) }

abbrev pub with_fall : ℕ → ℕ → Ear → Ear
with_fall byte falls e =
    if falls == 10 then record e { mode = Takes []; given = e.given ++ byte ∷ [] }
    else record e { mode = Gives byte (suc falls) }

-- a cycle in which the host lets the clock go, by its data, whether the clock fell, the bit, and the byte that it wants to
-- send: data that is pulled while nothing is sent is a request to send
abbrev pub moved : Mode → Bool → Bool → Bool → ℕ → Ear → Ear
moved (Takes bits) false fell bit want e = record e { mode = Gives want 0 }
moved (Takes bits) true false bit want e = e
moved (Takes bits) true true bit want e = with_bit bits bit e
moved (Gives byte falls) dat false bit want e = e
moved (Gives byte falls) dat true bit want e = with_fall byte falls e

-- its own pull of the clock drops what is under way, and no fall of it is counted
abbrev pub heard_by : Bool → Bool → Bool → Bool → ℕ → Ear → Ear
heard_by false dat fell bit want e = record e { mode = Takes [] }
heard_by true dat fell bit want e = moved e.mode dat fell bit want e

-- whether the host sees the clock fall in a cycle
abbrev pub fell : Wiring → ℕ → Bool
fell w zero = false
fell w (suc c) = (w.seen c).clk && not (w.seen (suc c)).clk

-- what it has after so many cycles
abbrev pub ear_to : Wiring → ℕ → Ear
ear_to w zero = no_byte
ear_to w (suc c) = heard_by (w.host c).clk (w.host c).dat (fell w c) (w.reads c) (w.wants c) (ear_to w c)

-- the fall of a byte's clock at which a host counts it as taken
pub data Counting : Type 0 where
  Tenth : Counting
  Eleventh : Counting

-- one that counts the tenth has then nine bits and the parity. It reads no stop bit, and takes the byte as if that were right
abbrev pub by_tenth : Mode → Bool → Bool → List (Option ℕ)
by_tenth (Takes bits) true bit = if length bits == 9 then byte_of (bits ++ bit ∷ true ∷ []) ∷ [] else []
by_tenth (Takes bits) false bit = []
by_tenth (Gives byte falls) counted bit = []

-- the bytes that it has taken after so many cycles, None for one that came wrong, in order. What it has under way is as
-- above, and the eleventh fall ends the frame for it too
abbrev pub taken_at_tenth : Wiring → ℕ → List (Option ℕ)
taken_at_tenth w zero = []
taken_at_tenth w (suc c) =
    taken_at_tenth w c
    ++ by_tenth (ear_to w c).mode ((w.host c).clk && (w.host c).dat && fell w c) (w.reads c)

-- by the fall that it counts
abbrev pub taken_by : Counting → Wiring → ℕ → List (Option ℕ)
taken_by Tenth w c = taken_at_tenth w c
taken_by Eleventh w c = (ear_to w c).taken
