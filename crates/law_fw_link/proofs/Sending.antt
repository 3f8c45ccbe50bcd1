-- A sent frame: from the look at data to its end, or to the cell in which the controller cuts it.
use Rattle.std.proofs.Common.{◌≡◌, ◌≤◌, ◌<◌, ℕ, suc, zero, ◌+◌, ◌*◌, ◌/◌, List, Bool, true, not, ◌==◌, if◌then◌else◌}
use Rattle.std.proofs.Common.{bit_and, bit_or, refl, ap, sym, ◌∙◌, arith}
use Rattle.std.proofs.lemmas.Bool.Decides.{nat_tests}
use Rattle.mcs48_core.specs.Cpu.{Cpu}
use Rattle.bits.specs.Bits.{bit}
use Rattle.mcs48_core.specs.Status.{digit}
use Rattle.board_terms.specs.Frame.{parity_of}
use Rattle.fw_kernel.specs.declared.cells.TheConstants.{R0, R1, R2, R3, R6}
use Rattle.fw_kernel.specs.Places.{HasKernel}
use Rattle.fw_kernel.specs.declared.labels.TheConstants.{S_CELL, S_STOP}
use Rattle.law_fw_logic.proofs.Block.{memory, put, scratched}
use Rattle.law_fw_logic.proofs.Blocks.{from_stage}
use Rattle.bits.proofs.Every.{pair_tests}
use Rattle.law_fw_logic.proofs.TimerParts.{IsFree}
use Rattle.law_fw_logic.proofs.Kernel.{kernel_in}
use Rattle.law_fw_logic.proofs.Leads.{Leads}
use Rattle.law_fw_logic.proofs.Path.{Stage}
use Rattle.law_fw_logic.proofs.Short.{has_rows}
use Rattle.law_fw_link.specs.Latch.{wired, frame_bit, sent_latch}
use Rattle.law_fw_link.proofs.Latches.{driven}
use Rattle.law_fw_link.proofs.Cell.{turned, cell, Celled}
use Rattle.law_fw_link.proofs.Ends.{in_quarters}
use Rattle.law_fw_link.proofs.Wired.{IsReleased, falls, rises, puts, spans, cell_low, cell_high, cell_next}
use Rattle.joint_run.specs.Run.{Board, after_cycles}

-- the carry, and R6, at cell k
abbrev pub carry_at : ℕ → ℕ → Bool
carry_at byte zero = parity_of byte
carry_at byte (suc k) = true

abbrev pub left_at : ℕ → ℕ → ℕ
left_at byte zero = byte
left_at byte (suc k) = 128 * digit (carry_at byte k) + left_at byte k / 2

-- the bit that is put in cell k is the next one of the frame
pub next_is : (k byte : ℕ) → k < 10 → byte < 256 → bit 0 (left_at byte k) ≡ frame_bit byte (suc k)
next_is = pair_tests 10 256 (λ k byte. bit 0 (left_at byte k)) (λ k byte. frame_bit byte (suc k)) refl

-- the registers of a sent frame at cell k with n cells left; R0 is any, R1 the latch with bit k
abbrev pub sending : (ℕ → ℕ) → ℕ → ℕ → ℕ → ℕ → ℕ → ℕ → ℕ
sending f v byte k n r0 =
    put (put (put (put (put f R1 (wired v true (frame_bit byte k))) R2 (bit_and v 253)) R3 n) R6 (left_at byte k)) R0 r0

module _ (d : Board) (bytes : List ℕ) (has : HasKernel bytes) (x : ℕ) (m : Cpu) (board : d.State) (f : ℕ → ℕ)
    (ring : List ℕ) (v byte : ℕ) (released : IsReleased v) (small : byte < 256) where
  abbrev latch : ℕ → ℕ
  latch = sent_latch v byte

  -- the board at an offset of the frame
  abbrev pub board_in : ℕ → d.State
  board_in o = driven d x latch o 0 board

  -- the clock wire at an offset of the frame
  abbrev pub look : ℕ → Bool
  look o = (d.pins m.p1 (latch o) (x + o) (board_in o)).t0

  -- the frame with n cells left
  pub record InFrame (n : ℕ) (s : Stage d.State) : Type 0 where
    pub k : ℕ
    pub count : k + n ≡ 10
    pub cpu : s.cpu ≡ scratched (record m { p2 = wired v true (frame_bit byte k) })
        (if not (n == 0) then S_CELL else S_STOP) (memory (sending f v byte k n (in_quarters byte)) ring) s.cpu
    pub carry : s.cpu.c ≡ carry_at byte k
    pub off : s.off ≡ 28 + 32 * k
    pub board_now : s.board ≡ board_in (28 + 32 * k)

  -- the board in cell k, by the law of a cell
  low_span : (k y w : ℕ) (s : d.State) → y ≡ x + (28 + 32 * k) → w ≡ wired v true (frame_bit byte k)
      → s ≡ board_in (28 + 32 * k)
      → after_cycles 16 0 (λ o. d.cycle (bit_and w 254) (y + o)) s ≡ board_in (28 + 32 * k + 16)
  low_span k y w s e is b =
      spans d x latch 16 (28 + 32 * k) y 0 (bit_and w 254) s board (omega (arith, e))
      (λ i l. cell_low v byte k i l ∙ sym (falls (frame_bit byte k) v released.byte) ∙ ap (λ q. bit_and q 254) (sym is))
      b

  -- the clock that rises in a cell leaves the cell's bit on data
  pub risen_is : (k w : ℕ) → w ≡ wired v true (frame_bit byte k)
      → bit_or (bit_and w 254) 1 ≡ wired v true (frame_bit byte k)
  risen_is k w is =
      ap (λ q. bit_or (bit_and q 254) 1) is ∙ ap (λ q. bit_or q 1) (falls (frame_bit byte k) v released.byte)
      ∙ rises (frame_bit byte k) v released

  -- the clock rises with the latch r
  pub high_span : (n k y w r : ℕ) (s : d.State) → n ≤ 5 → y ≡ x + (28 + 32 * k) → w ≡ wired v true (frame_bit byte k)
      → r ≡ wired v true (frame_bit byte k) → s ≡ board_in (28 + 32 * k)
      → after_cycles n 16 (λ o. d.cycle r (y + o)) (after_cycles 16 0 (λ o. d.cycle (bit_and w 254) (y + o)) s)
      ≡ board_in (28 + 32 * k + 16 + n)
  high_span n k y w r s few e is up b =
      spans d x latch n (28 + 32 * k + 16) y 16 r
      (after_cycles 16 0 (λ o. d.cycle (bit_and w 254) (y + o)) s) board
      (omega (arith, e))
      (λ i l. let q : i < 5 = omega (arith, l, few) in cell_high v byte k i q ∙ sym up)
      (low_span k y w s e is b)

  -- and the next bit is put
  pub put_span : (n k y w r u : ℕ) (s : d.State) → n ≤ 11 → y ≡ x + (28 + 32 * k) → w ≡ wired v true (frame_bit byte k)
      → r ≡ wired v true (frame_bit byte k) → u ≡ wired v true (frame_bit byte (suc k)) → s ≡ board_in (28 + 32 * k)
      → after_cycles n 21 (λ o. d.cycle u (y + o))
      (after_cycles 5 16 (λ o. d.cycle r (y + o)) (after_cycles 16 0 (λ o. d.cycle (bit_and w 254) (y + o)) s))
      ≡ board_in (28 + 32 * k + 21 + n)
  put_span n k y w r u s short e is up next b =
      let few : 5 ≤ 5 = omega arith in
      let p : 28 + 32 * k + 16 + 5 ≡ 28 + 32 * k + 21 = omega arith in
      spans d x latch n (28 + 32 * k + 21) y 21 u
      (after_cycles 5 16 (λ o. d.cycle r (y + o)) (after_cycles 16 0 (λ o. d.cycle (bit_and w 254) (y + o)) s))
      board (omega (arith, e))
      (λ i l. cell_next v byte k i (omega (arith, l, short)) ∙ sym next) (high_span 5 k y w r s few e is up b ∙ ap board_in p)

  after_span : (k y w r u : ℕ) (s : d.State) → y ≡ x + (28 + 32 * k) → w ≡ wired v true (frame_bit byte k)
      → r ≡ wired v true (frame_bit byte k) → u ≡ wired v true (frame_bit byte (suc k)) → s ≡ board_in (28 + 32 * k)
      → after_cycles 11 21 (λ o. d.cycle u (y + o))
      (after_cycles 5 16 (λ o. d.cycle r (y + o)) (after_cycles 16 0 (λ o. d.cycle (bit_and w 254) (y + o)) s))
      ≡ board_in (28 + 32 * suc k)
  after_span k y w r u s e is up next b =
      let q : 28 + 32 * k + 21 + 11 ≡ 28 + 32 * suc k = omega arith in
      put_span 11 k y w r u s (omega arith) e is up next b ∙ ap board_in q

  -- the looks in a cell of the law are those of the frame
  pub look_is : (k y w r p1 : ℕ) (s : d.State) → p1 ≡ m.p1 → y ≡ x + (28 + 32 * k)
      → w ≡ wired v true (frame_bit byte k) → r ≡ wired v true (frame_bit byte k) → s ≡ board_in (28 + 32 * k)
      → (d.pins p1 r (y + 18)
      (after_cycles 2 16 (λ o. d.cycle r (y + o))
      (after_cycles 16 0 (λ o. d.cycle (bit_and w 254) (y + o)) s))).t0 ≡ look (46 + 32 * k)
  look_is k y w r p1 s one e is up b =
      let few : 2 ≤ 5 = omega arith in
      let p : 28 + 32 * k + 16 + 2 ≡ 46 + 32 * k = omega arith in
      let c : y + 18 ≡ x + (46 + 32 * k) = omega (arith, e) in
      let at : after_cycles 2 16 (λ o. d.cycle r (y + o))
      (after_cycles 16 0 (λ o. d.cycle (bit_and w 254) (y + o)) s) ≡ board_in (46 + 32 * k) =
      high_span 2 k y w r s few e is up b ∙ ap board_in p in
      let put : r ≡ latch (46 + 32 * k) = up ∙ sym (cell_high v byte k 2 (omega arith)) ∙ ap latch p in
      ap (λ t. (d.pins p1 r (y + 18) t).t0) at
      ∙ ap (λ q. (d.pins q r (y + 18) (board_in (46 + 32 * k))).t0) one
      ∙ ap (λ q. (d.pins m.p1 q (y + 18) (board_in (46 + 32 * k))).t0) put
      ∙ ap (λ q. (d.pins m.p1 (latch (46 + 32 * k)) q (board_in (46 + 32 * k))).t0) c

  -- the second look of a cell finds the clock at its offset of the frame
  pub again_is : (k y w r u p1 : ℕ) (s : d.State) → p1 ≡ m.p1 → y ≡ x + (28 + 32 * k)
      → w ≡ wired v true (frame_bit byte k) → r ≡ wired v true (frame_bit byte k) → u ≡ wired v true (frame_bit byte (suc k))
      → s ≡ board_in (28 + 32 * k)
      → (d.pins p1 u (y + 28)
      (after_cycles 7 21 (λ o. d.cycle u (y + o))
      (after_cycles 5 16 (λ o. d.cycle r (y + o)) (after_cycles 16 0 (λ o. d.cycle (bit_and w 254) (y + o)) s)))).t0
      ≡ look (56 + 32 * k)
  again_is k y w r u p1 s one e is up next b =
      let p : 28 + 32 * k + 21 + 7 ≡ 56 + 32 * k = omega arith in
      let c : y + 28 ≡ x + (56 + 32 * k) = omega (arith, e) in
      let at : after_cycles 7 21 (λ o. d.cycle u (y + o))
      (after_cycles 5 16 (λ o. d.cycle r (y + o)) (after_cycles 16 0 (λ o. d.cycle (bit_and w 254) (y + o)) s))
      ≡ board_in (56 + 32 * k) =
      put_span 7 k y w r u s (omega arith) e is up next b ∙ ap board_in p in
      let put : u ≡ latch (56 + 32 * k) = next ∙ sym (cell_next v byte k 7 (omega arith)) ∙ ap latch p in
      ap (λ t. (d.pins p1 u (y + 28) t).t0) at
      ∙ ap (λ q. (d.pins q u (y + 28) (board_in (56 + 32 * k))).t0) one
      ∙ ap (λ q. (d.pins m.p1 q (y + 28) (board_in (56 + 32 * k))).t0) put
      ∙ ap (λ q. (d.pins m.p1 (latch (56 + 32 * k)) q (board_in (56 + 32 * k))).t0) c

  -- one cell, if its looks show the clock high
  pub one_cell : (n : ℕ) (s : Stage d.State) (h : InFrame (suc n) s) → look (46 + 32 * h.k) ≡ true
      → (h.k < 9 → look (56 + 32 * h.k) ≡ true) → IsFree s.cpu
      → Leads d (kernel_in true bytes) x s (InFrame n)
  one_cell n s h high high' free =
      let k = h.k in
      let c : k + suc n ≡ 10 = h.count in
      let few : k < 10 = omega (arith, c) in
      let o : s.off ≡ 28 + 32 * k = h.off in
      let y : x + s.off ≡ x + (28 + 32 * k) = ap (λ i. x + i) o in
      let more : not (suc n == 0) ≡ true = grind (arith, nat_tests) in
      let g = sending f v byte k (suc n) (in_quarters byte) in
      let is : s.cpu ≡ scratched (record m { p2 = wired v true (frame_bit byte k) }) S_CELL (memory g ring) s.cpu =
      h.cpu
      ∙ ap (λ b. scratched (record m { p2 = wired v true (frame_bit byte k) }) (if b then S_CELL else S_STOP)
      (memory g ring) s.cpu) more in
      let w : s.cpu.p2 ≡ wired v true (frame_bit byte k) = ap (λ (q : Cpu). q.p2) h.cpu in
      let one : s.cpu.p1 ≡ m.p1 = ap (λ (q : Cpu). q.p1) h.cpu in
      let r = wired v true (frame_bit byte k) in
      let u = wired v true (frame_bit byte (suc k)) in
      let bit_now : bit 0 (left_at byte k) ≡ frame_bit byte (suc k) = next_is k byte few small in
      from_stage d (kernel_in true bytes) (has_rows true bytes has) x S_CELL
      (record m { p2 = wired v true (frame_bit byte k) }) g ring s
      (Celled d bytes has (x + s.off) s.cpu s.board g ring u n (if not (n == 0) then S_CELL else S_STOP)) (InFrame n) is
      (λ e q. record {
        k = suc k;
        count = omega (arith, c);
        cpu =
            q.0 ∙ ap (λ (z : Cpu). scratched (record z { p2 = u }) (if not (n == 0) then S_CELL else S_STOP)
            (memory (turned g s.cpu.c u n) ring) e.cpu) h.cpu
            ∙ ap (λ z. scratched (record m { p2 = u }) (if not (n == 0) then S_CELL else S_STOP)
            (memory (turned g z u n) ring) e.cpu) h.carry;
        carry = q.1;
        off = (let t : e.off ≡ 32 = q.2 in omega (arith, t, o));
        board_now = q.3 ∙ after_span k (x + s.off) s.cpu.p2 r u s.board y w refl refl h.board_now;
      })
      (cell d bytes has (x + s.off) s.cpu s.board g ring (frame_bit byte (suc k)) u n free refl (omega (arith, c))
      bit_now
      (puts (frame_bit byte (suc k)) v released)
      (look_is k (x + s.off) s.cpu.p2 r s.cpu.p1 s.board one y w refl h.board_now ∙ high)
      (not (n == 0)) refl
      (λ more.
      let some : 0 < n = grind (arith, nat_tests, more) in
      again_is k (x + s.off) s.cpu.p2 r u s.cpu.p1 s.board one y w refl refl h.board_now ∙ high' (omega (arith, some, c))))
