-- The queue without its first byte, and the tests of what is offered.
use Rattle.std.proofs.Common.{◌≡◌, ◌≤◌, ◌<◌, ℕ, suc, zero, ◌+◌, ◌-◌, ◌%◌, List, false}
use Rattle.std.proofs.Common.{not, ◌==◌, if◌then◌else◌, bit_xor, refl, ap, sym, ◌∙◌, arith, slice_index}
use Rattle.std.proofs.lemmas.Bool.Decides.{nat_tests}
use Rattle.bits.specs.Bits.{bit}
use Rattle.std.proofs.Common.{◌&&◌}
use Rattle.law_fw_keys.proofs.Ring.{made-same}
use Rattle.law_fw_keys.specs.State.{made, queue_by, queue_of}
use Rattle.law_fw_logic.proofs.Block.{put}
use Rattle.bits.proofs.Every.{pair_tests, tests_by}
use Rattle.model_keyboard.specs.Queue.{clear, drop_first}
use Rattle.fw_kernel.specs.declared.cells.TheConstants.{R1, COUNT, HEAD, STARTED, LAST, FN, HELD, CHANGED, PENDING}

-- the queue cleared: its length is that of a started break
pub cleared : (f : ℕ → ℕ) (ring : List ℕ) (s n : ℕ) → f STARTED ≡ s → f COUNT % 128 ≡ n → s ≤ 1 → s ≤ n
    → queue_by (f STARTED) (f HEAD) (f STARTED) ring ≡ clear (queue_of f ring)
cleared f ring zero n es en l k = rw es refl
cleared f ring (suc zero) (suc n) es en l k = rw (es, en) refl
cleared f ring (suc zero) zero es en l k = absurd (omega (arith, k))
cleared f ring (suc (suc s)) n es en l k = absurd (omega (arith, l))

-- the queue without its first byte
less_count : (c : ℕ) → c < 256 → (c % 128 == 0) ≡ false → (c + 255) % 256 % 128 ≡ c % 128 - 1
less_count c l some =
    let p : 0 < c % 128 = grind (arith, nat_tests, some) in
    omega (arith, l, p)

same_mark : (c : ℕ) → c < 256 → (c % 128 == 0) ≡ false → bit 7 ((c + 255) % 256) ≡ bit 7 c
same_mark c l some = let h : (if c % 128 == 0 then bit 7 c else bit 7 ((c + 255) % 256)) ≡ bit 7 c =
    tests_by 256 (λ c. if c % 128 == 0 then bit 7 c else bit 7 ((c + 255) % 256)) (λ c. bit 7 c) refl c l in
    ap (λ b. if b then bit 7 c else bit 7 ((c + 255) % 256)) (sym some) ∙ h

-- the queue with one less in its count and its head one further is the queue without its first byte
pub dropped : (f : ℕ → ℕ) (ring : List ℕ) (n s : ℕ) → f COUNT < 256 → f COUNT % 128 ≡ suc n
    → (not (s == 0)) ≡ ((slice_index ring ((f HEAD + 0) % 16) == 240) && not (not (f STARTED == 0)))
    → queue_by ((f COUNT + 255) % 256) ((f HEAD + 1) % 256) s ring ≡ drop_first (queue_of f ring)
dropped f ring n s byte count is =
    let some : (f COUNT % 128 == 0) ≡ false = grind (arith, nat_tests, count) in
    let less : (f COUNT + 255) % 256 % 128 ≡ n = less_count (f COUNT) byte some ∙ (omega (arith, count)) in
    let bytes : made (λ i. slice_index ring (((f HEAD + 1) % 256 + i) % 16)) n
    ≡ made (λ i. slice_index ring ((f HEAD + suc i) % 16)) n =
    made-same (λ i. slice_index ring (((f HEAD + 1) % 256 + i) % 16)) (λ i. slice_index ring ((f HEAD + suc i) % 16)) n
    (λ i m. let e : ((f HEAD + 1) % 256 + i) % 16 ≡ (f HEAD + suc i) % 16 = omega arith in
    ap (λ k. slice_index ring k) e) in
    let right : drop_first (queue_of f ring)
    ≡ record {
      bytes = made (λ i. slice_index ring ((f HEAD + suc i) % 16)) n;
      overrun = bit 7 (f COUNT);
      break_started = (slice_index ring ((f HEAD + 0) % 16) == 240) && not (not (f STARTED == 0));
    } =
    ap (λ k. drop_first
    (record {
      bytes = made (λ i. slice_index ring ((f HEAD + i) % 16)) k;
      overrun = bit 7 (f COUNT);
      break_started = not (f STARTED == 0);
    })) count in
    ap (λ k. record {
      bytes = made (λ i. slice_index ring (((f HEAD + 1) % 256 + i) % 16)) k;
      overrun = bit 7 ((f COUNT + 255) % 256);
      break_started = not (s == 0);
    }) less
    ∙ ap (λ t. record { bytes = t; overrun = bit 7 ((f COUNT + 255) % 256); break_started = not (s == 0) }) bytes
    ∙ ap (λ t. record {
      bytes = made (λ i. slice_index ring ((f HEAD + suc i) % 16)) n;
      overrun = t;
      break_started = not (s == 0);
    }) (same_mark (f COUNT) byte some)
    ∙ ap (λ t. record {
      bytes = made (λ i. slice_index ring ((f HEAD + suc i) % 16)) n;
      overrun = bit 7 (f COUNT);
      break_started = t;
    }) is
    ∙ sym right

-- an empty queue loses its mark
pub empty : (f : ℕ → ℕ) (ring : List ℕ) (s : ℕ) → f COUNT % 128 ≡ 0 → queue_by 0 (f HEAD) (f STARTED) ring
    ≡ drop_first (queue_of f ring)
empty f ring s e = rw e refl

-- the exclusive or of two bytes is zero exactly if they are the same
pub xor_is : (k : ℕ) → k < 256 → (b : ℕ) → b < 256 → (bit_xor b k == 0) ≡ (b == k)
xor_is k l b m = pair_tests 256 256 (λ b k. bit_xor b k == 0) (λ b k. b == k) refl b k m l

-- to note the last byte sent changes neither held keys nor their changes
pub kept_last : (f : ℕ → ℕ) (u v i : ℕ) → HELD ≤ i → i < CHANGED + 12 → put (put f R1 u) LAST v i ≡ f i
kept_last f u v i l m = grind (arith, nat_tests, l, m)

-- to note the last byte sent changes neither the layers nor what is pending
pub kept_layers : (f : ℕ → ℕ) (u v i : ℕ) → FN ≤ i → i < PENDING + 12 → put (put f R1 u) LAST v i ≡ f i
kept_layers f u v i l m = grind (arith, nat_tests, l, m)
