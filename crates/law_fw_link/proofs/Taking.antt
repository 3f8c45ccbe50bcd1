-- What a received frame is reported by: the bits that were read, the board under its latch, and its data cells.
use Rattle.std.proofs.Common.{◌||◌, ◌≡◌, ◌≤◌, ◌<◌, ℕ, suc, zero, ◌+◌, ◌-◌, ◌*◌, ◌/◌, ◌%◌, List, [], ◌∷◌, Bool, true}
use Rattle.std.proofs.Common.{false, not, ◌==◌, nat_le, nat_lt, if◌then◌else◌}
use Rattle.std.proofs.Common.{bit_and, bit_or, refl, ap, sym, ◌∙◌, subst, arith}
use Rattle.std.proofs.lemmas.Bool.Decides.{nat_tests}
use Rattle.mcs48_core.specs.Cpu.{Cpu}
use Rattle.mcs48_core.specs.Status.{digit}
use Rattle.mcs48_ranges.proofs.Parts.{digit_small}
use Rattle.board_terms.specs.Bits.{value}
use Rattle.fw_kernel.specs.declared.cells.TheConstants.{R0, R3}
use Rattle.fw_kernel.specs.Places.{HasKernel}
use Rattle.fw_kernel.specs.declared.labels.TheConstants.{R_CELL, R_PARITY}
use Rattle.law_fw_logic.proofs.Block.{memory, put, scratched}
use Rattle.law_fw_logic.proofs.Blocks.{from_stage}
use Rattle.law_fw_logic.proofs.TimerParts.{IsFree}
use Rattle.law_fw_logic.proofs.Kernel.{kernel_in}
use Rattle.law_fw_logic.proofs.Leads.{Leads}
use Rattle.law_fw_logic.proofs.Path.{Stage}
use Rattle.law_fw_logic.proofs.Short.{has_rows}
use Rattle.law_fw_link.specs.Latch.{wired, received_cell, received_latch}
use Rattle.law_fw_link.proofs.Latches.{driven}
use Rattle.law_fw_link.proofs.Receive.{takes_bit, TakesBit}
use Rattle.law_fw_link.proofs.Wired.{IsReleased, both_high, rises, spans}
use Rattle.joint_run.specs.Run.{Board, after_cycles}

-- A after k data bits
abbrev pub taken : (ℕ → Bool) → ℕ → ℕ → ℕ
taken wire a zero = a
taken wire a (suc k) = taken wire a k / 2 + 128 * digit (wire k)

-- the eight bits in the order in which they came
abbrev pub read_bits : (ℕ → Bool) → List Bool
read_bits wire = wire 0 ∷ wire 1 ∷ wire 2 ∷ wire 3 ∷ wire 4 ∷ wire 5 ∷ wire 6 ∷ wire 7 ∷ []

value_on : (b : Bool) (bits : List Bool) → value (b ∷ bits) ≡ digit b + 2 * value bits
value_on true bits = refl
value_on false bits = let e : 2 * value bits ≡ 0 + 2 * value bits = omega arith in e

-- by numbers alone
eight_in : (a d0 d1 d2 d3 d4 d5 d6 d7 t1 t2 t3 t4 t5 t6 t7 : ℕ) → a < 256
    → t1 ≡ a / 2 + 128 * d0 → t2 ≡ t1 / 2 + 128 * d1 → t3 ≡ t2 / 2 + 128 * d2 → t4 ≡ t3 / 2 + 128 * d3
    → t5 ≡ t4 / 2 + 128 * d4 → t6 ≡ t5 / 2 + 128 * d5 → t7 ≡ t6 / 2 + 128 * d6
    → t7 / 2 + 128 * d7 ≡ d0 + 2 * (d1 + 2 * (d2 + 2 * (d3 + 2 * (d4 + 2 * (d5 + 2 * (d6 + 2 * (d7 + 2 * 0)))))))
eight_in a d0 d1 d2 d3 d4 d5 d6 d7 t1 t2 t3 t4 t5 t6 t7 l e1 e2 e3 e4 e5 e6 e7 =
    let q2 : t2 ≡ a / 4 + 64 * d0 + 128 * d1 = omega (arith, e1, e2) in
    let q3 : t3 ≡ a / 8 + 32 * d0 + 64 * d1 + 128 * d2 = omega (arith, q2, e3) in
    let q4 : t4 ≡ a / 16 + 16 * d0 + 32 * d1 + 64 * d2 + 128 * d3 = omega (arith, q3, e4) in
    let q5 : t5 ≡ a / 32 + 8 * d0 + 16 * d1 + 32 * d2 + 64 * d3 + 128 * d4 = omega (arith, q4, e5) in
    let q6 : t6 ≡ a / 64 + 4 * d0 + 8 * d1 + 16 * d2 + 32 * d3 + 64 * d4 + 128 * d5 = omega (arith, q5, e6) in
    let q7 : t7 ≡ a / 128 + 2 * d0 + 4 * d1 + 8 * d2 + 16 * d3 + 32 * d4 + 64 * d5 + 128 * d6 = omega (arith, q6, e7) in
    let low : a / 128 ≤ 1 = omega (arith, l) in
    omega (arith, q7, low)

-- eight bits are the byte of these bits, whatever A was
pub taken_is : (wire : ℕ → Bool) (a : ℕ) → a < 256 → taken wire a 8 ≡ value (read_bits wire)
taken_is wire a l =
    eight_in a (digit (wire 0)) (digit (wire 1)) (digit (wire 2)) (digit (wire 3)) (digit (wire 4)) (digit (wire 5))
    (digit (wire 6)) (digit (wire 7))
    (taken wire a 1) (taken wire a 2) (taken wire a 3) (taken wire a 4) (taken wire a 5) (taken wire a 6)
    (taken wire a 7) l refl refl refl refl refl refl refl
    ∙ sym (value_on (wire 0) (wire 1 ∷ wire 2 ∷ wire 3 ∷ wire 4 ∷ wire 5 ∷ wire 6 ∷ wire 7 ∷ [])
    ∙ ap (λ n. digit (wire 0) + 2 * n) (value_on (wire 1) (wire 2 ∷ wire 3 ∷ wire 4 ∷ wire 5 ∷ wire 6 ∷ wire 7 ∷ [])
    ∙ ap (λ n. digit (wire 1) + 2 * n) (value_on (wire 2) (wire 3 ∷ wire 4 ∷ wire 5 ∷ wire 6 ∷ wire 7 ∷ [])
    ∙ ap (λ n. digit (wire 2) + 2 * n) (value_on (wire 3) (wire 4 ∷ wire 5 ∷ wire 6 ∷ wire 7 ∷ [])
    ∙ ap (λ n. digit (wire 3) + 2 * n) (value_on (wire 4) (wire 5 ∷ wire 6 ∷ wire 7 ∷ [])
    ∙ ap (λ n. digit (wire 4) + 2 * n) (value_on (wire 5) (wire 6 ∷ wire 7 ∷ [])
    ∙ ap (λ n. digit (wire 5) + 2 * n) (value_on (wire 6) (wire 7 ∷ [])
    ∙ ap (λ n. digit (wire 6) + 2 * n) (value_on (wire 7) []))))))))

-- each is a byte
pub taken_small : (wire : ℕ → Bool) (a k : ℕ) → a < 256 → taken wire a k < 256
taken_small wire a zero l = l
taken_small wire a (suc k) l =
    let t : taken wire a k < 256 = taken_small wire a k l in
    let b : digit (wire k) ≤ 1 = digit_small (wire k) in
    omega (arith, t, b)

-- the latch in cell k
pub in_cell : (v k i : ℕ) → i < 32 → received_latch v (28 + 32 * k + i) ≡ received_cell v k i
in_cell v k i l =
    let b : nat_lt (28 + 32 * k + i) 28 ≡ false = grind (arith, nat_tests) in
    let q : (28 + 32 * k + i - 28) / 32 ≡ k = omega (arith, l) in
    let r : (28 + 32 * k + i - 28) % 32 ≡ i = omega (arith, l) in
    rw (b, q, r) refl

-- before its first cell a received frame pulls neither wire
pub before_cells : (v i : ℕ) → i < 28 → received_latch v (0 + i) ≡ v
before_cells v i l = let a : nat_lt (0 + i) 28 ≡ true = grind (arith, nat_tests, l) in rw a refl

-- in the first 16 cycles of each of its ten cells a received frame pulls the clock alone
pub cell_low : (v k i : ℕ) → k < 10 → i < 16 → received_latch v (28 + 32 * k + i) ≡ wired v false true
cell_low v k i few l =
    let m : i < 32 = omega (arith, l) in
    let a : nat_le 16 i ≡ false = grind (arith, nat_tests, l) in
    let b : nat_lt k 10 ≡ true = grind (arith, nat_tests, few) in
    let c : nat_lt i 20 ≡ true = grind (arith, nat_tests, l) in
    in_cell v k i m ∙ rw (a, b, c) refl

-- in the cells before the tenth data is let go
also : (a b : Bool) → b ≡ true → (a || b) ≡ true
also true b e = refl
also false b e = e

-- in the last 16 cycles of each of its first nine cells a received frame pulls neither wire
pub cell_high : (v k i : ℕ) → k < 9 → i < 16 → received_latch v (28 + 32 * k + 16 + i) ≡ wired v true true
cell_high v k i few l =
    let m : 16 + i < 32 = omega (arith, l) in
    let a : nat_le 16 (16 + i) ≡ true = grind (arith, nat_tests) in
    let b : nat_lt k 10 ≡ true = grind (arith, nat_tests, few) in
    let early : nat_lt k 9 ≡ true = grind (arith, nat_tests, few) in
    let c : (nat_lt (16 + i) 20 || nat_lt k 9) ≡ true = also (nat_lt (16 + i) 20) (nat_lt k 9) early in
    let p : 28 + 32 * k + 16 + i ≡ 28 + 32 * k + (16 + i) = omega arith in
    ap (λ o. received_latch v o) p ∙ in_cell v k (16 + i) m ∙ rw (a, b, c) refl

-- so it is in each of the ten up to 4 cycles past the clock's rise
pub cell_rise : (v k i : ℕ) → k < 10 → i < 4 → received_latch v (28 + 32 * k + 16 + i) ≡ wired v true true
cell_rise v k i few l =
    let m : 16 + i < 32 = omega (arith, l) in
    let a : nat_le 16 (16 + i) ≡ true = grind (arith, nat_tests) in
    let b : nat_lt k 10 ≡ true = grind (arith, nat_tests, few) in
    let c : nat_lt (16 + i) 20 ≡ true = grind (arith, nat_tests, l) in
    let p : 28 + 32 * k + 16 + i ≡ 28 + 32 * k + (16 + i) = omega arith in
    ap (λ o. received_latch v o) p ∙ in_cell v k (16 + i) m ∙ rw (a, b, c) refl

-- and from there on the tenth has it low
pub cell_late : (v i : ℕ) → i < 12 → received_latch v (28 + 32 * 9 + 20 + i) ≡ wired v true false
cell_late v i l =
    let m : 20 + i < 32 = omega (arith, l) in
    let a : nat_le 16 (20 + i) ≡ true = grind (arith, nat_tests) in
    let c : nat_lt (20 + i) 20 ≡ false = grind (arith, nat_tests) in
    let p : 28 + 32 * 9 + 20 + i ≡ 28 + 32 * 9 + (20 + i) = omega arith in
    ap (λ o. received_latch v o) p ∙ in_cell v 9 (20 + i) m ∙ rw (a, c) refl

module _ (d : Board) (bytes : List ℕ) (has : HasKernel bytes) (x : ℕ) (m : Cpu) (board : d.State) (f : ℕ → ℕ)
    (ring : List ℕ) (released : IsReleased m.p2) (small : m.a < 256) where
  -- the board at an offset of the frame
  abbrev pub board_in : ℕ → d.State
  board_in o = driven d x (received_latch m.p2) o 0 board

  -- the data wire at the look of cell k
  abbrev pub bit_read : ℕ → Bool
  bit_read k = (d.pins m.p1 m.p2 (x + (28 + 32 * k + 18)) (board_in (28 + 32 * k + 18))).t1

  -- the clock that rises in a cell of a received frame lets both wires go again
  pub risen_is : (w : ℕ) → w ≡ m.p2 → bit_or (bit_and w 254) 1 ≡ m.p2
  risen_is w is = ap (λ q. bit_or (bit_and q 254) 1) is ∙ rises true m.p2 released ∙ both_high m.p2 released

  low_span : (k y w : ℕ) (s : d.State) → k < 10 → y ≡ x + (28 + 32 * k) → w ≡ m.p2 → s ≡ board_in (28 + 32 * k)
      → after_cycles 16 0 (λ o. d.cycle (bit_and w 254) (y + o)) s ≡ board_in (28 + 32 * k + 16)
  low_span k y w s few e is b =
      spans d x (received_latch m.p2) 16 (28 + 32 * k) y 0 (bit_and w 254) s board (omega (arith, e))
      (λ i l. cell_low m.p2 k i few l ∙ sym (ap (λ q. bit_and q 254) is)) b

  -- the clock has risen, and data is let go
  abbrev IsHigh : ℕ → ℕ → Type 0
  IsHigh n k = (i : ℕ) → i < n → received_latch m.p2 (28 + 32 * k + 16 + i) ≡ wired m.p2 true true

  -- the board in a cell after the rise of its clock is that of the frame at this offset
  pub high_span : (n k y w : ℕ) (s : d.State) → IsHigh n k → k < 10 → y ≡ x + (28 + 32 * k) → w ≡ m.p2
      → s ≡ board_in (28 + 32 * k)
      → after_cycles n 16 (λ o. d.cycle (bit_or (bit_and w 254) 1) (y + o)) (after_cycles 16 0 (λ o. d.cycle (bit_and w 254) (y + o)) s)
      ≡ board_in (28 + 32 * k + 16 + n)
  high_span n k y w s high few e is b =
      spans d x (received_latch m.p2) n (28 + 32 * k + 16) y 16 (bit_or (bit_and w 254) 1)
      (after_cycles 16 0 (λ o. d.cycle (bit_and w 254) (y + o)) s) board
      (omega (arith, e))
      (λ i l. high i l ∙ both_high m.p2 released ∙ sym (risen_is w is)) (low_span k y w s few e is b)

  -- the board at a cell's end is that of the frame at the next cell's begin
  pub cell_span : (k y w : ℕ) (s : d.State) → k < 9 → y ≡ x + (28 + 32 * k) → w ≡ m.p2 → s ≡ board_in (28 + 32 * k)
      → after_cycles 16 16 (λ o. d.cycle (bit_or (bit_and w 254) 1) (y + o))
      (after_cycles 16 0 (λ o. d.cycle (bit_and w 254) (y + o)) s)
      ≡ board_in (28 + 32 * suc k)
  cell_span k y w s few e is b =
      let p : 28 + 32 * k + 16 + 16 ≡ 28 + 32 * suc k = omega arith in
      high_span 16 k y w s (λ i l. cell_high m.p2 k i few l) (omega (arith, few)) e is b ∙ ap board_in p

  -- the tenth, in which data falls
  pub last_span : (y w : ℕ) (s : d.State) → y ≡ x + (28 + 32 * 9) → w ≡ m.p2 → s ≡ board_in (28 + 32 * 9)
      → after_cycles 12 20 (λ o. d.cycle (bit_and (bit_or (bit_and w 254) 1) 253) (y + o))
      (after_cycles 4 16 (λ o. d.cycle (bit_or (bit_and w 254) 1) (y + o))
      (after_cycles 16 0 (λ o. d.cycle (bit_and w 254) (y + o)) s))
      ≡ board_in (28 + 32 * 10)
  last_span y w s e is b =
      let nine : 9 < 10 = omega arith in
      let pulls : bit_and (bit_or (bit_and w 254) 1) 253 ≡ wired m.p2 true false =
      ap (λ q. bit_and q 253) (risen_is w is) in
      spans d x (received_latch m.p2) 12 (28 + 32 * 9 + 20) y 20 (bit_and (bit_or (bit_and w 254) 1) 253)
      (after_cycles 4 16 (λ o. d.cycle (bit_or (bit_and w 254) 1) (y + o))
      (after_cycles 16 0 (λ o. d.cycle (bit_and w 254) (y + o)) s)) board (omega (arith, e))
      (λ i l. cell_late m.p2 i l ∙ sym pulls)
      (high_span 4 9 y w s (λ i l. cell_rise m.p2 9 i nine l) nine e is b)

  -- the look in a cell of the law is that of the frame
  pub look_is : (k y w p1 : ℕ) (s : d.State) → k < 10 → p1 ≡ m.p1 → y ≡ x + (28 + 32 * k) → w ≡ m.p2
      → s ≡ board_in (28 + 32 * k)
      → (d.pins p1 (bit_or (bit_and w 254) 1) (y + 18)
      (after_cycles 2 16 (λ o. d.cycle (bit_or (bit_and w 254) 1) (y + o))
      (after_cycles 16 0 (λ o. d.cycle (bit_and w 254) (y + o)) s))).t1 ≡ bit_read k
  look_is k y w p1 s few one e is b =
      let p : 28 + 32 * k + 16 + 2 ≡ 28 + 32 * k + 18 = omega arith in
      let c : y + 18 ≡ x + (28 + 32 * k + 18) = omega (arith, e) in
      let at : after_cycles 2 16 (λ o. d.cycle (bit_or (bit_and w 254) 1) (y + o))
      (after_cycles 16 0 (λ o. d.cycle (bit_and w 254) (y + o)) s) ≡ board_in (28 + 32 * k + 18) =
      high_span 2 k y w s (λ i l. cell_rise m.p2 k i few (omega (arith, l))) few e is b ∙ ap board_in p in
      ap (λ t. (d.pins p1 (bit_or (bit_and w 254) 1) (y + 18) t).t1) at
      ∙ ap (λ q. (d.pins q (bit_or (bit_and w 254) 1) (y + 18) (board_in (28 + 32 * k + 18))).t1) one
      ∙ ap (λ q. (d.pins m.p1 q (y + 18) (board_in (28 + 32 * k + 18))).t1) (risen_is w is)
      ∙ ap (λ q. (d.pins m.p1 m.p2 q (board_in (28 + 32 * k + 18))).t1) c

  -- the frame with n data bits left
  pub record InBits (n : ℕ) (s : Stage d.State) : Type 0 where
    pub k : ℕ
    pub count : k + n ≡ 8
    pub r0 : ℕ
    pub cpu : s.cpu ≡ scratched m (if not (n == 0) then R_CELL else R_PARITY) (memory (put (put f R0 r0) R3 n) ring)
        s.cpu
    pub acc : s.cpu.a ≡ taken bit_read m.a k
    pub off : s.off ≡ 28 + 32 * k
    pub board_now : s.board ≡ board_in (28 + 32 * k)

  -- one data cell
  pub one_bit : (n : ℕ) (s : Stage d.State) → InBits (suc n) s → IsFree s.cpu
      → Leads d (kernel_in true bytes) x s (InBits n)
  one_bit n s h free =
      let k = h.k in
      let c : k + suc n ≡ 8 = h.count in
      let few : k < 10 = omega (arith, c) in
      let o : s.off ≡ 28 + 32 * k = h.off in
      let y : x + s.off ≡ x + (28 + 32 * k) = ap (λ i. x + i) o in
      let more : not (suc n == 0) ≡ true = grind (arith, nat_tests) in
      let g = put (put f R0 h.r0) R3 (suc n) in
      let is : s.cpu ≡ scratched m R_CELL (memory g ring) s.cpu =
      h.cpu ∙ ap (λ b. scratched m (if b then R_CELL else R_PARITY) (memory g ring) s.cpu) more in
      let w : s.cpu.p2 ≡ m.p2 = ap (λ (q : Cpu). q.p2) h.cpu in
      let one : s.cpu.p1 ≡ m.p1 = ap (λ (q : Cpu). q.p1) h.cpu in
      let low : s.cpu.a < 256 = subst (λ a. a < 256) (sym h.acc) (taken_small bit_read m.a k small) in
      let place = if not (n == 0) then R_CELL else R_PARITY in
      let u = bit_or (bit_and s.cpu.p2 254) 1 in
      let seen = look_is k (x + s.off) s.cpu.p2 s.cpu.p1 s.board few one y w h.board_now in
      from_stage d (kernel_in true bytes) (has_rows true bytes has) x R_CELL m g ring s
      (TakesBit d bytes has (x + s.off) s.cpu s.board g ring n place) (InBits n) is
      (λ e q. record {
        k = suc k;
        count = omega (arith, c);
        r0 = 0;
        cpu =
            q.0 ∙ ap
            (λ (z : Cpu). scratched (record z { p2 = u }) place (memory (put (put g R0 0) R3 n) ring) e.cpu) h.cpu
            ∙ ap (λ z. scratched (record m { p2 = z }) place (memory (put (put g R0 0) R3 n) ring) e.cpu)
            (risen_is s.cpu.p2 w);
        acc = q.1 ∙ ap (λ b. s.cpu.a / 2 + 128 * digit b) seen ∙ ap (λ a. a / 2 + 128 * digit (bit_read k)) h.acc;
        off = (let t : e.off ≡ 32 = q.2 in omega (arith, t, o));
        board_now = q.3 ∙ cell_span k (x + s.off) s.cpu.p2 s.board (omega (arith, c)) y w h.board_now;
      })
      (takes_bit d bytes has (x + s.off) s.cpu s.board g ring n free low refl (omega (arith, c)) (not (n == 0)) refl)
