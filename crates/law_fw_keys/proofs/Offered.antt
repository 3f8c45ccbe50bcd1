-- What the offer says of the byte that is sent, as the law of step 1 wants it.
use Rattle.model_keyboard.specs.Laws.{whole}
use Rattle.model_keyboard.proofs.CodesAreWhole.{IsWhole, code_after}
use Rattle.std.proofs.Common.{Bool}
use Rattle.std.proofs.Common.{◌≡◌, ◌<◌, ℕ, suc, zero, ◌+◌, ◌%◌, List, length, true, false, not, ◌==◌, Some}
use Rattle.std.proofs.Common.{None, refl, ap, sym, ◌∙◌, arith, slice_index}
use Rattle.std.specs.declared.option.Option.{Option}
use Rattle.bits.specs.Bits.{bit}
use Rattle.law_fw_keys.proofs.Head.{offered_in}
use Rattle.law_fw_keys.proofs.Ring.{made-length}
use Rattle.law_fw_keys.specs.State.{kbd_of, made, queue_of}
use Rattle.model_keyboard.specs.Keyboard.{offer}
use Rattle.model_keyboard.specs.Queue.{first_of}
use Rattle.fw_kernel.specs.declared.cells.TheConstants.{REPLYDUE, AADUE, COUNT, HEAD, STARTED}

abbrev the : Option ℕ → ℕ
the None = 0
the (Some v) = v

-- with something in R5, R4 is the byte
pub offered_byte : (r4 r5 : ℕ) (o : Option ℕ) → offered_in r4 r5 ≡ o → (r5 == 0) ≡ false → o ≡ Some r4
offered_byte r4 r5 o is some = let s : offered_in r4 r5 ≡ Some r4 = rw some refl in sym is ∙ s

-- where neither reply nor AA is due it is the queue's first
pub is_first : (held : List Bool) (f : ℕ → ℕ) (ring : List ℕ) (b n : ℕ) → offer (kbd_of held f ring) ≡ Some b
    → (f REPLYDUE == 0) ≡ true → (f AADUE == 0) ≡ true → f COUNT % 128 ≡ suc n → b ≡ slice_index ring ((f HEAD + 0) % 16)
is_first held f ring b n is e_due e_aa en =
    let queued : offer (kbd_of held f ring) ≡ first_of (made (λ i. slice_index ring ((f HEAD + i) % 16)) (f COUNT % 128))
    (bit 7 (f COUNT)) = rw (e_due, e_aa) refl in
    ap the (sym is) ∙ ap the queued
    ∙ ap (λ c. the (first_of (made (λ i. slice_index ring ((f HEAD + i) % 16)) c) (bit 7 (f COUNT)))) en

-- with neither a reply nor AA due, the byte that is offered is the queue's first
pub first_of_law : (held : List Bool) (f : ℕ → ℕ) (ring : List ℕ) (b : ℕ) → offer (kbd_of held f ring) ≡ Some b
    → (f REPLYDUE == 0) ≡ true → (f AADUE == 0) ≡ true → 0 < f COUNT % 128 → b ≡ slice_index ring ((f HEAD + 0) % 16)
first_of_law held f ring b is e_due e_aa some = by (f COUNT % 128) refl some
  where
    by : (n : ℕ) → f COUNT % 128 ≡ n → 0 < n → b ≡ slice_index ring ((f HEAD + 0) % 16)
    by zero e l = absurd (omega (arith, l))
    by (suc n) e l = is_first held f ring b n is e_due e_aa e

-- and where it is the F0 of a break its code is after it
pub code_law : (held : List Bool) (f : ℕ → ℕ) (ring : List ℕ) (b : ℕ) → offer (kbd_of held f ring) ≡ Some b
    → IsWhole (queue_of f ring) → (f REPLYDUE == 0) ≡ true → (f AADUE == 0) ≡ true → 0 < f COUNT % 128 → b ≡ 240 → f STARTED ≡ 0
    → 1 < f COUNT % 128
code_law held f ring b is codes e_due e_aa some f0 none = by (f COUNT % 128) refl some
  where
    by : (n : ℕ) → f COUNT % 128 ≡ n → 0 < n → 1 < f COUNT % 128
    by zero e l = absurd (omega (arith, l))
    by (suc n) e l =
        let g : ℕ → ℕ = λ i. slice_index ring ((f HEAD + i) % 16) in
        let first : g 0 ≡ 240 = sym (is_first held f ring b n is e_due e_aa e) ∙ f0 in
        let test : (g 0 == 240) ≡ true = ap (λ v. v == 240) first in
        let fresh : whole false (made g (suc n)) ≡ true = ap (λ s. whole (not (s == 0)) (made g (suc n))) (sym none)
        ∙ ap (λ c. whole (not (f STARTED == 0)) (made g c)) (sym e) ∙ codes in
        let long : 1 < length (made g (suc n)) = code_after (g 0) (made (λ i. g (suc i)) n) test fresh in
        let size : length (made g (suc n)) ≡ suc n = made-length g (suc n) in
        omega (arith, long, size, e)

-- where nothing is offered R5 is 0
pub unoffered : (r4 r5 : ℕ) (b : Bool) → (r5 == 0) ≡ b → offered_in r4 r5 ≡ None → (r5 == 0) ≡ true
unoffered r4 r5 true e h = e
unoffered r4 r5 false e h = let s : offered_in r4 r5 ≡ Some r4 = rw e refl in
    absurd (let q : Some r4 ≡ None = sym s ∙ h in cc)
