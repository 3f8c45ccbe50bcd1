-- Laws of the key queue, over any steps in any order.
use Rattle.std.specs.Prelude.{◌≡◌, ◌≤◌, ℕ, ◌+◌, ◌==◌, nat_lt, Bool, true, false, not, ◌&&◌, ◌||◌, if◌then◌else◌}
use Rattle.std.specs.Prelude.{List, [], ◌∷◌, ◌++◌, length, take, drop}
use Rattle.model_keyboard.specs.Queue.{KeyQueue, empty, enter, drop_first, clear}

pub data QueueStep : Type 0 where
  Enters : List ℕ → QueueStep
  Drops : QueueStep
  Clears : QueueStep

abbrev pub stepped : QueueStep → KeyQueue → KeyQueue
stepped (Enters code) q = enter code q
stepped Drops q = drop_first q
stepped Clears q = clear q

-- the queue after steps
abbrev pub after : List QueueStep → KeyQueue → KeyQueue
after [] q = q
after (s ∷ more) q = after more (stepped s q)

-- what a step lets in, sends and throws away
abbrev pub let_in : QueueStep → KeyQueue → List ℕ
let_in (Enters code) q = if q.overrun || nat_lt 16 (length q.bytes + length code) then [] else code
let_in Drops q = []
let_in Clears q = []

abbrev pub sent : QueueStep → KeyQueue → List ℕ
sent (Enters code) q = []
sent Drops q = take 1 q.bytes
sent Clears q = []

abbrev pub thrown : QueueStep → KeyQueue → List ℕ
thrown (Enters code) q = []
thrown Drops q = []
thrown Clears q = if q.break_started then drop 1 q.bytes else q.bytes

-- a step: what was there and what is let in, in order, is what is sent, what is there then, and what is thrown away
abbrev pub NoneLost : Type 0
NoneLost = (s : QueueStep) (q : KeyQueue) → q.bytes ++ let_in s q ≡ sent s q ++ ((stepped s q).bytes ++ thrown s q)

-- steps that clear nothing
abbrev pub clears : List QueueStep → Bool
clears [] = false
clears (Clears ∷ more) = true
clears (Drops ∷ more) = clears more
clears (Enters code ∷ more) = clears more

abbrev pub all_let_in : List QueueStep → KeyQueue → List ℕ
all_let_in [] q = []
all_let_in (s ∷ more) q = let_in s q ++ all_let_in more (stepped s q)

abbrev pub all_sent : List QueueStep → KeyQueue → List ℕ
all_sent [] q = []
all_sent (s ∷ more) q = sent s q ++ all_sent more (stepped s q)

-- as long as nothing is cleared, all that was let in is sent in its order, or is still there
abbrev pub InOrder : Type 0
InOrder =
    (steps : List QueueStep) → clears steps ≡ false
    → all_let_in steps empty ≡ all_sent steps empty ++ (after steps empty).bytes

-- there are never more than sixteen bytes
abbrev pub AtMostSixteen : Type 0
AtMostSixteen = (steps : List QueueStep) → length (after steps empty).bytes ≤ 16

-- bytes that are whole codes, none of which is F0, by whether F0 is before them
abbrev pub whole : Bool → List ℕ → Bool
whole false [] = true
whole true [] = false
whole true (byte ∷ rest) = not (byte == 0xf0) && whole false rest
whole false (byte ∷ rest) = whole (byte == 0xf0) rest

abbrev pub enters_codes : List QueueStep → Bool
enters_codes [] = true
enters_codes (Enters code ∷ more) = whole false code && enters_codes more
enters_codes (Drops ∷ more) = enters_codes more
enters_codes (Clears ∷ more) = enters_codes more

-- if whole codes are entered the queue has whole codes, but for a break that is started, whose code is first
abbrev pub CodesStayWhole : Type 0
CodesStayWhole =
    (steps : List QueueStep) → enters_codes steps ≡ true
    → whole (after steps empty).break_started (after steps empty).bytes ≡ true
