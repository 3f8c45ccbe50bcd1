-- Codes are whole in the queue: a started break has its code first, and F0 has its code after it.
use Rattle.std.proofs.Common.{◌≡◌, ◌<◌, ℕ, ◌+◌, List, [], ◌∷◌, ◌++◌, length, Bool, true, false, not}
use Rattle.std.proofs.Common.{◌&&◌, ◌||◌, ◌==◌, nat_lt, refl, ap, sym, ◌∙◌, arith}
use Rattle.model_keyboard.specs.Queue.{KeyQueue, empty, enter, drop_first, without_first, clear, kept}
use Rattle.model_keyboard.specs.Laws.{QueueStep, Enters, Drops, Clears, after, whole, enters_codes}

abbrev pub IsWhole : KeyQueue → Type 0
IsWhole q = whole q.break_started q.bytes ≡ true

and_left : (a b : Bool) → (a && b) ≡ true → a ≡ true
and_left true b h = refl
and_left false b h = absurd cc

and_right : (a b : Bool) → (a && b) ≡ true → b ≡ true
and_right true b h = h
and_right false b h = absurd cc

joined : (s : Bool) (xs ys : List ℕ) → whole s xs ≡ true → whole false ys ≡ true → whole s (xs ++ ys) ≡ true
joined false [] ys h g = g
joined true [] ys h g = absurd cc
joined false (b ∷ rest) ys h g = joined (b == 240) rest ys h g
joined true (b ∷ rest) ys h g =
    let l = and_left (not (b == 240)) (whole false rest) h in
    let r = joined false rest ys (and_right (not (b == 240)) (whole false rest) h) g in
    rw (l, r) refl

entered : (code : List ℕ) (q : KeyQueue) (b : Bool) → (q.overrun || nat_lt 16 (length q.bytes + length code)) ≡ b
    → whole false code ≡ true → IsWhole q → IsWhole (enter code q)
entered code q true e c h = rw e h
entered code q false e c h = rw e (joined q.break_started q.bytes code h c)

-- a whole code that enters the queue leaves its codes whole
pub entered_whole : (code : List ℕ) (q : KeyQueue) → whole false code ≡ true → IsWhole q → IsWhole (enter code q)
entered_whole code q c h = entered code q (q.overrun || nat_lt 16 (length q.bytes + length code)) refl c h

-- a make that isn't F0 is a whole code
pub make_whole : (c : ℕ) → (c == 240) ≡ false → whole false (c ∷ []) ≡ true
make_whole c e = ap (λ s. whole s []) e

-- F0 and a make that isn't F0 are a whole code
pub release_whole : (c : ℕ) → (c == 240) ≡ false → whole false (240 ∷ c ∷ []) ≡ true
release_whole c e = ap (λ b. not b && true) e

dropped : (bytes : List ℕ) (s : Bool) (q : KeyQueue) → q.bytes ≡ bytes → q.break_started ≡ s → whole s bytes ≡ true
    → IsWhole (without_first bytes q)
dropped [] s q e g h = rw (e, g) h
dropped (b ∷ rest) false q e g h = let k : whole ((b == 240) && true) rest ≡ true = by (b == 240) h in rw g k
  where
    by : (c : Bool) → whole c rest ≡ true → whole (c && true) rest ≡ true
    by true h = h
    by false h = h
dropped (b ∷ rest) true q e g h =
    let l : (b == 240) ≡ false = by (b == 240) (and_left (not (b == 240)) (whole false rest) h) in
    rw (g, l) (and_right (not (b == 240)) (whole false rest) h)
  where
    by : (c : Bool) → not c ≡ true → c ≡ false
    by true h = sym h
    by false h = refl

-- the queue's codes stay whole, or begun, after its first byte goes
pub dropped_whole : (q : KeyQueue) → IsWhole q → IsWhole (drop_first q)
dropped_whole q h = dropped q.bytes q.break_started q refl refl h

cleared : (s : Bool) (bytes : List ℕ) → whole s bytes ≡ true → whole s (kept s bytes) ≡ true
cleared false bytes h = refl
cleared true [] h = h
cleared true (b ∷ rest) h = rw (and_left (not (b == 240)) (whole false rest) h) refl

-- the queue's codes stay whole, or begun, after it is cleared
pub cleared_whole : (q : KeyQueue) → IsWhole q → IsWhole (clear q)
cleared_whole q h = cleared q.break_started q.bytes h

-- F0 has its code after it
two : (rest : List ℕ) → whole true rest ≡ true → 0 < length rest
two [] h = absurd cc
two (b ∷ rest) h = omega arith

-- after F0 at the front of whole codes there is the code that it breaks
pub code_after : (b : ℕ) (rest : List ℕ) → (b == 240) ≡ true → whole false (b ∷ rest) ≡ true → 1 < length (b ∷ rest)
code_after b rest e h = let l : 0 < length rest = two rest (ap (λ s. whole s rest) (sym e) ∙ h) in omega (arith, l)

-- over any steps
from_whole : (steps : List QueueStep) (q : KeyQueue) → enters_codes steps ≡ true → IsWhole q → IsWhole (after steps q)
from_whole [] q c h = h
from_whole (Enters code ∷ more) q c h =
    from_whole more (enter code q) (and_right (whole false code) (enters_codes more) c)
    (entered_whole code q (and_left (whole false code) (enters_codes more) c) h)
from_whole (Drops ∷ more) q c h = from_whole more (drop_first q) c (dropped_whole q h)
from_whole (Clears ∷ more) q c h = from_whole more (clear q) c (cleared_whole q h)

-- whatever whole codes enter, go or are cleared, the queue's codes are whole, or the first is begun
pub stays_whole : (steps : List QueueStep) → enters_codes steps ≡ true → IsWhole (after steps empty)
stays_whole steps c = from_whole steps empty c refl
