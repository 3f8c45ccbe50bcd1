-- The queue keeps the order of what enters it, and never holds more than sixteen bytes.
use Rattle.std.proofs.Common.{◌≡◌, ◌≤◌, ℕ, ◌+◌, List, [], ◌∷◌, ◌++◌, length, take, Bool, true, false, ◌||◌, nat_lt}
use Rattle.std.proofs.Common.{refl, ap, sym, ◌∙◌, arith, append_assoc, append-nil, length-append}
use Rattle.std.proofs.lemmas.Bool.Decides.{nat_tests}
use Rattle.model_keyboard.specs.Queue.{KeyQueue, empty, enter, drop_first, without_first, clear, kept}
use Rattle.model_keyboard.specs.Laws.{QueueStep, Enters, Drops, Clears, after, let_in, clears, all_let_in, all_sent}

-- a code that enters is after the others
entered_by : (code : List ℕ) (q : KeyQueue) (full : Bool) → (q.overrun || nat_lt 16 (length q.bytes + length code)) ≡ full
    → q.bytes ++ let_in (Enters code) q ≡ (enter code q).bytes
entered_by code q true e = rw (e, append-nil) refl
entered_by code q false e = rw e refl

entered : (code : List ℕ) (q : KeyQueue) → q.bytes ++ let_in (Enters code) q ≡ (enter code q).bytes
entered code q = entered_by code q (q.overrun || nat_lt 16 (length q.bytes + length code)) refl

-- a byte that is dropped was the first
dropped_from : (bytes : List ℕ) (q : KeyQueue) → q.bytes ≡ bytes → bytes ≡ take 1 bytes ++ (without_first bytes q).bytes
dropped_from [] q e = sym e
dropped_from (byte ∷ rest) q e = refl

dropped : (q : KeyQueue) → q.bytes ≡ take 1 q.bytes ++ (drop_first q).bytes
dropped q = dropped_from q.bytes q refl

-- over steps that clear nothing
ordered : (steps : List QueueStep) (q : KeyQueue) → clears steps ≡ false
    → q.bytes ++ all_let_in steps q ≡ all_sent steps q ++ (after steps q).bytes
ordered [] q c = append-nil q.bytes
ordered (Clears ∷ more) q c = absurd cc
ordered (Drops ∷ more) q c =
    ap (λ b. b ++ all_let_in more (drop_first q)) (dropped q)
    ∙ append_assoc (take 1 q.bytes) (drop_first q).bytes (all_let_in more (drop_first q))
    ∙ ap (λ b. take 1 q.bytes ++ b) (ordered more (drop_first q) c)
    ∙ sym (append_assoc (take 1 q.bytes) (all_sent more (drop_first q)) (after more (drop_first q)).bytes)
ordered (Enters code ∷ more) q c =
    sym (append_assoc q.bytes (let_in (Enters code) q) (all_let_in more (enter code q)))
    ∙ ap (λ b. b ++ all_let_in more (enter code q)) (entered code q)
    ∙ ordered more (enter code q) c

-- as long as nothing clears the queue, its bytes leave it in the order in which they were let in
pub in_order : (steps : List QueueStep) → clears steps ≡ false → all_let_in steps empty ≡ all_sent steps empty ++ (after steps empty).bytes
in_order steps c = ordered steps empty c

-- the length
enter_sixteen : (code : List ℕ) (q : KeyQueue) (full : Bool) → (q.overrun || nat_lt 16 (length q.bytes + length code)) ≡ full
    → length q.bytes ≤ 16 → length (enter code q).bytes ≤ 16
enter_sixteen code q true e h = rw e h
enter_sixteen code q false e h = rw (e, length-append) (fits q.overrun e)
  where
    fits : (o : Bool) → (o || nat_lt 16 (length q.bytes + length code)) ≡ false → length q.bytes + length code ≤ 16
    fits true k = absurd cc
    fits false k = grind (arith, nat_tests, k)

drop_sixteen : (bytes : List ℕ) (q : KeyQueue) → q.bytes ≡ bytes → length q.bytes ≤ 16 → length (without_first bytes q).bytes ≤ 16
drop_sixteen [] q e h = h
drop_sixteen (byte ∷ rest) q e h = let k : length (byte ∷ rest) ≤ 16 = rw e at h in omega (arith, k)

clear_sixteen : (started : Bool) (bytes : List ℕ) → length (kept started bytes) ≤ 16
clear_sixteen false bytes = omega arith
clear_sixteen true [] = omega arith
clear_sixteen true (byte ∷ rest) = omega arith

bounded : (steps : List QueueStep) (q : KeyQueue) → length q.bytes ≤ 16 → length (after steps q).bytes ≤ 16
bounded [] q h = h
bounded (Enters code ∷ more) q h =
    bounded more (enter code q) (enter_sixteen code q (q.overrun || nat_lt 16 (length q.bytes + length code)) refl h)
bounded (Drops ∷ more) q h = bounded more (drop_first q) (drop_sixteen q.bytes q refl h)
bounded (Clears ∷ more) q h = bounded more (clear q) (clear_sixteen q.break_started q.bytes)

-- the queue never has more than sixteen bytes
pub at_most_sixteen : (steps : List QueueStep) → length (after steps empty).bytes ≤ 16
at_most_sixteen steps = bounded steps empty (omega arith)
