-- The code that enters a make, or the two bytes of a break.
use Rattle.std.proofs.Common.{◌≡◌, ◌≤◌, ◌<◌, ℕ, suc, ◌+◌, ◌%◌, List, [], ◌∷◌, All, length, Bool, true, false}
use Rattle.std.proofs.Common.{◌||◌, nat_le, bit_or, refl, ap, sym, ◌∙◌, arith, slice_set, slice_index}
use Rattle.std.proofs.lemmas.Bool.Decides.{nat_tests}
use Rattle.mcs48_core.specs.Cpu.{Cpu}
use Rattle.bits.specs.Bits.{bit}
use Rattle.law_fw_keys.proofs.Blocks.{leaf, bytes_of}
use Rattle.std.proofs.Common.{nat_lt}
use Rattle.fw_kernel.specs.declared.cells.TheConstants.{R1, R2, COUNT, HEAD, STARTED}
use Rattle.fw_kernel.specs.Places.{HasKernel}
use Rattle.fw_kernel.specs.declared.labels.TheConstants.{ENTER, ENTERED}
use Rattle.law_fw_keys.proofs.Block.{Ends, Safe}
use Rattle.law_fw_keys.proofs.Ring.{appended, appended2, made-length, ring-set}
use Rattle.law_fw_keys.specs.State.{queue_by, queue_of}
use Rattle.law_fw_logic.proofs.Block.{begin_at, memory, put}
use Rattle.bits.proofs.Every.{by_byte, tests_by}
use Rattle.law_fw_logic.proofs.Kernel.{kernel_in}
use Rattle.law_fw_logic.proofs.Leads.{Leads}
use Rattle.law_fw_logic.proofs.Path.{Go, Ram, Run, Until}
use Rattle.law_fw_logic.proofs.Short.{has_rows}
use Rattle.mcs48_ranges.specs.Sizes.{IsByte}
use Rattle.joint_run.specs.Run.{Board}
use Rattle.model_keyboard.specs.Queue.{enter}

-- memory after it: R1 and the count have changed
pub record Entered (code : List ℕ) (f : ℕ → ℕ) (ring : List ℕ) (g : ℕ → ℕ) (r : List ℕ) : Type 0 where
  pub pointer : ℕ
  pub count : ℕ
  pub now : g ≡ put (put f COUNT count) R1 pointer
  pub queue : queue_by count (f HEAD) (f STARTED) r ≡ enter code (queue_of f ring)
  pub most : count % 128 ≤ 16
  pub more : f COUNT % 128 ≤ count % 128

-- the code's or and the wrap at 80 (hexadecimal) give the place in the ring, within its 16 bytes
pub ring_place : (z : ℕ) → z < 256 → bit_or z 112 % 128 ≡ (112 + z % 16) % 128
ring_place = by_byte (λ z. bit_or z 112 % 128) (λ z. (112 + z % 16) % 128) refl

-- the place one further is the next in the ring, and after the last one the first
pub next_place : (z : ℕ) → z < 256 → bit_or ((bit_or z 112 + 1) % 256) 112 % 128 ≡ (112 + (z + 1) % 16) % 128
next_place = by_byte (λ z. bit_or ((bit_or z 112 + 1) % 256) 112 % 128) (λ z. (112 + (z + 1) % 16) % 128) refl

-- a byte that is put at its place of the ring
pub in_ring : (g : ℕ → ℕ) (ring : List ℕ) (z n b : ℕ) → z < 256 → z % 16 ≡ n % 16
    → slice_set (memory g ring) (bit_or z 112 % 128) b ≡ memory g (slice_set ring (n % 16) b)
in_ring g ring z n b l j =
    ap (λ p. slice_set (memory g ring) p b) (ring_place z l ∙ ap (λ k. (112 + k) % 128) j)
    ∙ ring-set g ring (n % 16) b (omega arith)

-- an or with 80 (hexadecimal) sets the overrun
pub marked : (c : ℕ) → c < 256 → bit 7 (bit_or c 128) ≡ true
marked = tests_by 256 (λ c. bit 7 (bit_or c 128)) (λ c. true) refl

-- the overrun changes nothing about the queue's length
pub length_kept : (c : ℕ) → c < 256 → bit_or c 128 % 128 ≡ c % 128
length_kept = by_byte (λ c. bit_or c 128 % 128) (λ c. c % 128) refl

-- full and marked are one test
pub over_one : (c : ℕ) → c < 256 → nat_le 256 (c + 240) ≡ (bit 7 c || nat_lt 16 (c % 128 + 1))
over_one = tests_by 256 (λ c. nat_le 256 (c + 240)) (λ c. bit 7 c || nat_lt 16 (c % 128 + 1)) refl

-- the count with F1 (hexadecimal) carries exactly if there was an overrun or there is no room for two bytes
pub over_two : (c : ℕ) → c < 256 → nat_le 256 (c + 241) ≡ (bit 7 c || nat_lt 16 (c % 128 + 2))
over_two = tests_by 256 (λ c. nat_le 256 (c + 241)) (λ c. bit 7 c || nat_lt 16 (c % 128 + 2)) refl

-- a count below 16 has no overrun
pub small_count : (c : ℕ) → c < 16 → bit 7 c ≡ false
small_count = tests_by 16 (λ c. bit 7 c) (λ c. false) refl

-- no room: the mark
pub entered_over : (code : List ℕ) (f : ℕ → ℕ) (ring : List ℕ) (v : ℕ) → f COUNT < 256 → f COUNT % 128 ≤ 16
    → (bit 7 (f COUNT) || nat_lt 16 (f COUNT % 128 + length code)) ≡ true
    → Entered code f ring (put (put f COUNT (bit_or (f COUNT) 128)) R1 v) ring
entered_over code f ring v byte most over = record {
  pointer = v;
  count = bit_or (f COUNT) 128;
  now = refl;
  queue = rw (
    marked (f COUNT) byte,
    length_kept (f COUNT) byte,
    made-length (λ i. slice_index ring ((f HEAD + i) % 16)) (f COUNT % 128),
    over,
  ) refl;
  most = rw (length_kept (f COUNT) byte) most;
  more = rw (length_kept (f COUNT) byte) (omega arith);
}

-- room for one byte
pub entered_one : (b : ℕ) (f : ℕ → ℕ) (ring : List ℕ) (v : ℕ) → length ring ≡ 16 → f COUNT < 16
    → Entered (b ∷ []) f ring (put (put f COUNT ((f COUNT + 1) % 256)) R1 v) (slice_set ring ((f HEAD + f COUNT) % 16) b)
entered_one b f ring v size below =
    let n : (f COUNT + 1) % 256 ≡ suc (f COUNT) = omega (arith, below) in
    let n2 : suc (f COUNT) % 128 ≡ suc (f COUNT) = omega (arith, below) in
    let o : f COUNT % 128 ≡ f COUNT = omega (arith, below) in
    let m1 : bit 7 (f COUNT) ≡ false = small_count (f COUNT) below in
    let m2 : bit 7 (suc (f COUNT)) ≡ false = by_next (f COUNT) below in
    let le : nat_lt 16 (f COUNT + 1) ≡ false = grind (arith, nat_tests, below) in
    record {
      pointer = v;
      count = (f COUNT + 1) % 256;
      now = refl;
      queue = rw (
        n,
        n2,
        o,
        m1,
        m2,
        appended ring (f HEAD) (f COUNT) b size below,
        made-length (λ i. slice_index ring ((f HEAD + i) % 16)) (f COUNT),
        le,
      ) refl;
      most = omega (arith, n, below);
      more = omega (arith, n, below);
    }
  where
    by_next : (c : ℕ) → c < 16 → bit 7 (suc c) ≡ false
    by_next = tests_by 16 (λ c. bit 7 (suc c)) (λ c. false) refl

-- room for two
pub entered_two : (b : ℕ) (f : ℕ → ℕ) (ring : List ℕ) (v : ℕ) → length ring ≡ 16 → f COUNT < 15
    → Entered (240 ∷ b ∷ []) f ring (put (put f COUNT (((f COUNT + 1) % 256 + 1) % 256)) R1 v)
    (slice_set (slice_set ring ((f HEAD + f COUNT) % 16) 240) ((f HEAD + suc (f COUNT)) % 16) b)
entered_two b f ring v size below =
    let n : ((f COUNT + 1) % 256 + 1) % 256 ≡ suc (suc (f COUNT)) = omega (arith, below) in
    let n2 : suc (suc (f COUNT)) % 128 ≡ suc (suc (f COUNT)) = omega (arith, below) in
    let o : f COUNT % 128 ≡ f COUNT = omega (arith, below) in
    let m1 : bit 7 (f COUNT) ≡ false = small_count (f COUNT) (omega (arith, below)) in
    let m2 : bit 7 (suc (suc (f COUNT))) ≡ false = by_next (f COUNT) below in
    let le : nat_lt 16 (f COUNT + 2) ≡ false = grind (arith, nat_tests, below) in
    record {
      pointer = v;
      count = ((f COUNT + 1) % 256 + 1) % 256;
      now = refl;
      queue = rw (
        n,
        n2,
        o,
        m1,
        m2,
        appended2 ring (f HEAD) (f COUNT) 240 b size below,
        made-length (λ i. slice_index ring ((f HEAD + i) % 16)) (f COUNT),
        le,
      ) refl;
      most = omega (arith, n, below);
      more = omega (arith, n, below);
    }
  where
    by_next : (c : ℕ) → c < 15 → bit 7 (suc (suc c)) ≡ false
    by_next = tests_by 15 (λ c. bit 7 (suc (suc c))) (λ c. false) refl

-- a sum that doesn't carry is a byte
pub not_over : (c k : ℕ) → nat_le 256 (c + k) ≡ false → c + k < 256
not_over c k h = grind (arith, nat_tests, h)

module _ (d : Board) (bytes : List ℕ) (hk : HasKernel bytes) (small : All IsByte bytes)
    (low : (p1 p2 c : ℕ) (s : d.State) → (d.pins p1 p2 c s).bus < 256) (held : List Bool)
    (x : ℕ) (m : Cpu) (board : d.State) (f : ℕ → ℕ) (ring : List ℕ) where
  -- one byte at ENTER, on to ENTERED
  enters_by : (over : Bool) → nat_le 256 (f COUNT + 240) ≡ over → Safe m ENTER f ring → f COUNT % 128 ≤ 16
      → Leads d (kernel_in true bytes) x (begin_at d ENTER f ring m board)
      (Ends d x m board ENTERED 17 (λ a. Entered (f R2 ∷ []) f ring))
  enters_by true is safe most =
      let h = bytes_of m ENTER f ring safe in
      leaf d (kernel_in true bytes) (has_rows true bytes hk) small low (λ a. Entered (f R2 ∷ []) f ring)
      (Go true ∷ Until ENTERED ∷ []) ENTER ENTERED 17 (put (put f COUNT (bit_or (f COUNT) 128)) R1 COUNT) ring x m m
      board f ring safe.0
      (λ a. entered_over (f R2 ∷ []) f ring COUNT (h.cell COUNT (omega arith)) most
      (sym (over_one (f COUNT) (h.cell COUNT (omega arith))) ∙ is))
      (is, (refl, refl, refl))
  enters_by false is safe most =
      let h = bytes_of m ENTER f ring safe in
      let below : f COUNT < 16 = (let l = not_over (f COUNT) 240 is in omega (arith, l)) in
      let z : ℕ = ((f COUNT + 240) % 256 + f HEAD) % 256 in
      let j : z % 16 ≡ (f HEAD + f COUNT) % 16 = omega arith in
      let g : ℕ → ℕ = put (put f COUNT ((f COUNT + 1) % 256)) R1 (bit_or z 112) in
      leaf d (kernel_in true bytes) (has_rows true bytes hk) small low (λ a. Entered (f R2 ∷ []) f ring)
      (Go false ∷ Run 7 ∷ Ram (memory g (slice_set ring ((f HEAD + f COUNT) % 16) (f R2)))
      ∷ Until ENTERED ∷ []) ENTER ENTERED 17 g (slice_set ring ((f HEAD + f COUNT) % 16) (f R2)) x m m board f ring safe.0
      (λ a. entered_one (f R2) f ring (bit_or z 112) h.size below)
      (is, (in_ring g ring z (f HEAD + f COUNT) (f R2) (omega arith) j, (refl, refl, refl)))

  -- a make enters the queue as in the model, in 17 cycles at most
  pub enters : Safe m ENTER f ring → f COUNT % 128 ≤ 16
      → Leads d (kernel_in true bytes) x (begin_at d ENTER f ring m board)
      (Ends d x m board ENTERED 17 (λ a. Entered (f R2 ∷ []) f ring))
  enters = enters_by (nat_le 256 (f COUNT + 240)) refl
