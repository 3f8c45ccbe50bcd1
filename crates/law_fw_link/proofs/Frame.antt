-- A sent frame as a whole: 368 cycles from the look at data to its end, or up to the cell in which it is cut.
use Rattle.std.proofs.Common.{◌≡◌, ◌≤◌, ◌<◌, ℕ, suc, ◌+◌, ◌*◌, List, Bool, true, false, ◌==◌, nat_lt}
use Rattle.std.proofs.Common.{bit_and, bit_or, refl, ap, sym, ◌∙◌, subst, inl, inr, arith}
use Rattle.std.proofs.lemmas.Bool.Decides.{nat_tests}
use Rattle.mcs48_core.specs.Cpu.{Cpu}
use Rattle.board_terms.specs.Frame.{parity_of}
use Rattle.fw_kernel.specs.declared.cells.TheConstants.{R0, R1, R2, R3, R4, R5, R6}
use Rattle.fw_kernel.specs.Places.{HasKernel}
use Rattle.fw_kernel.specs.declared.labels.TheConstants.{SEND, S_CELL, S_STOP, SENT}
use Rattle.law_fw_logic.proofs.Block.{memory, put, scratched, begin_at, At}
use Rattle.law_fw_logic.proofs.Blocks.{from_stage}
use Rattle.law_fw_logic.proofs.TimerParts.{IsFree}
use Rattle.law_fw_logic.proofs.Kernel.{kernel_in}
use Rattle.law_fw_logic.proofs.Laws.{counts_down}
use Rattle.law_fw_logic.proofs.Leads.{Leads}
use Rattle.law_fw_logic.proofs.Path.{Stage}
use Rattle.law_fw_logic.proofs.Short.{has_rows}
use Rattle.law_fw_logic.proofs.Sound.{chain, weaken}
use Rattle.law_fw_link.specs.Latch.{IsLook, wired, frame_bit, sent_latch}
use Rattle.law_fw_link.proofs.Latches.{driven}
use Rattle.law_fw_link.proofs.Ends.{in_quarters, readied, readies, Readied, clock_first, clock_second, stops, board_stopped}
use Rattle.law_fw_link.proofs.Sending.{InFrame, one_cell, sending, look, risen_is, high_span}
use Rattle.law_fw_link.proofs.Wired.{IsReleased, both_high, spans}
use Rattle.joint_run.specs.Run.{Board, after_cycles}

-- before the first cell: the wires are left alone, then data is pulled for the start bit
before_start : (v byte i : ℕ) → i < 10 → sent_latch v byte (0 + i) ≡ v
before_start v byte i l = let a : nat_lt (0 + i) 10 ≡ true = grind (arith, nat_tests, l) in rw a refl

start_put : (v byte i : ℕ) → i < 18 → sent_latch v byte (10 + i) ≡ wired v true false
start_put v byte i l =
    let a : nat_lt (10 + i) 10 ≡ false = grind (arith, nat_tests) in
    let b : nat_lt (10 + i) 28 ≡ true = grind (arith, nat_tests, l) in
    rw (a, b) refl

-- the registers at the first cell, in the frame's words
abbrev first : ℕ → ℕ → ℕ → (ℕ → ℕ) → ℕ → ℕ
first r2 r6 b f = put (put (put (put (put f R2 r2) R6 r6) R0 (in_quarters b)) R1 r2) R3 10

-- at its first cell a sent frame has the byte, the latch and the ten cells that are left in its registers
pub first_cells : (f : ℕ → ℕ) (ring : List ℕ) (v byte : ℕ) → f R2 ≡ bit_and v 253 → f R6 ≡ byte → f R4 ≡ byte
    → memory (first (f R2) (f R6) (f R4) f) ring ≡ memory (sending f v byte 0 10 (in_quarters byte)) ring
first_cells f ring v byte low whole is =
    ap (λ b. memory (first (f R2) (f R6) b f) ring) is
    ∙ ap (λ b. memory (first (f R2) b byte f) ring) whole
    ∙ ap (λ r. memory (first r byte byte f) ring) low

module _ (d : Board) (bytes : List ℕ) (has : HasKernel bytes) (x : ℕ) (m : Cpu) (board : d.State) (f : ℕ → ℕ)
    (ring : List ℕ) (v byte : ℕ) (released : IsReleased v) (small : byte < 256) where
  abbrev In : ℕ → Stage d.State → Type 0
  In n s = InFrame d bytes has x m board f ring v byte released small n s

  abbrev at_offset : ℕ → d.State
  at_offset o = driven d x (sent_latch v byte) o 0 board

  abbrev is_high : ℕ → Bool
  is_high k = look d bytes has x m board f ring v byte released small k

  -- the board where the latch is put for the start bit, and from there on
  pub to_start : m.p2 ≡ v → after_cycles 10 0 (λ o. d.cycle m.p2 (x + o)) board ≡ at_offset 10
  to_start out = spans d x (sent_latch v byte) 10 0 x 0 m.p2 board board refl (λ i l. before_start v byte i l ∙ sym out) refl

  -- the board up to the first cell is the board under the latch of a sent frame
  pub from_start : m.p2 ≡ v → f R2 ≡ bit_and v 253 → (n : ℕ) → n ≤ 18
      → after_cycles n 10 (λ o. d.cycle (f R2) (x + o)) (after_cycles 10 0 (λ o. d.cycle m.p2 (x + o)) board)
      ≡ at_offset (10 + n)
  from_start out low n few =
      spans d x (sent_latch v byte) n 10 x 10 (f R2)
      (after_cycles 10 0 (λ o. d.cycle m.p2 (x + o)) board) board refl
      (λ i l. start_put v byte i (omega (arith, l, few)) ∙ sym low) (to_start out)

  -- the looks before the first fall
  pub first_is : m.p2 ≡ v → clock_first d bytes has x m board f ring ≡ is_high 8
  first_is out =
      let at : after_cycles 8 0 (λ o. d.cycle m.p2 (x + o)) board ≡ at_offset 8 =
      spans d x (sent_latch v byte) 8 0 x 0 m.p2 board board refl
      (λ i l. before_start v byte i (omega (arith, l)) ∙ sym out) refl in
      let put : m.p2 ≡ sent_latch v byte 8 = out ∙ sym (before_start v byte 8 (omega arith)) in
      ap (λ t. (d.pins m.p1 m.p2 (x + 8) t).t0) at ∙ ap (λ q. (d.pins m.p1 q (x + 8) (at_offset 8)).t0) put

  -- the second look before the first fall finds the clock at offset 26 of the frame
  pub second_is : m.p2 ≡ v → f R2 ≡ bit_and v 253 → clock_second d bytes has x m board f ring ≡ is_high 26
  second_is out low =
      let put : f R2 ≡ sent_latch v byte 26 = low ∙ sym (start_put v byte 16 (omega arith)) in
      ap (λ t. (d.pins m.p1 (f R2) (x + 26) t).t0) (from_start out low 16 (omega arith))
      ∙ ap (λ q. (d.pins m.p1 q (x + 26) (at_offset 26)).t0) put

  -- from the look at data to the first cell, where the clock is high at both looks
  pub begins : IsFree m → m.p2 ≡ v → f R2 ≡ bit_and v 253 → f R6 ≡ byte → f R4 ≡ byte → (f R5 == 0) ≡ false
      → is_high 8 ≡ true → is_high 26 ≡ true
      → Leads d (kernel_in true bytes) x (begin_at d SEND f ring m board) (In 10)
  begins free out data_low whole is some high high' =
      let low : f R4 < 256 = subst (λ b. b < 256) (sym is) small in
      weaken d (kernel_in true bytes) (has_rows true bytes has) x (Readied d bytes has x m board f ring) (In 10)
      (begin_at d SEND f ring m board)
      (λ e h. record {
        k = 0;
        count = refl;
        cpu =
            h.0 ∙ ap (λ w. scratched (record m { p2 = w }) S_CELL (memory (readied d bytes has x m board f ring) ring)
            e.cpu) data_low
            ∙ ap (λ r. scratched (record m { p2 = wired v true false }) S_CELL r e.cpu)
            (first_cells f ring v byte data_low whole is);
        carry = h.1 ∙ ap parity_of is;
        off = h.2;
        board_now = h.3 ∙ from_start out data_low 18 (omega arith);
      })
      (readies d bytes has x m board f ring free low some (first_is out ∙ high) (second_is out data_low ∙ high'))

  -- cells whose looks show the clock high, up to where `rest` are left
  pub cells_pass : (rest : ℕ)
      → ((k : ℕ) → k + rest < 10 → (is_high (46 + 32 * k) ≡ true) × (k < 9 → is_high (56 + 32 * k) ≡ true))
      → (n : ℕ) (s : Stage d.State)
      → In (n + rest) s
      → IsFree s.cpu → Leads d (kernel_in true bytes) x s (In (0 + rest))
  cells_pass rest high n s h free =
      counts_down d (kernel_in true bytes) (has_rows true bytes has) x (λ i t. In (i + rest) t)
      (λ i t q free.
      let e : suc i + rest ≡ suc (i + rest) = omega arith in
      let p : In (suc (i + rest)) t = subst (λ c. In c t) e q in
      let c : p.k + suc (i + rest) ≡ 10 = p.count in
      let highs = high p.k (omega (arith, c)) in
      one_cell d bytes has x m board f ring v byte released small (i + rest) t p highs.0 highs.1 free) n s h free

  -- a frame that isn't cut
  pub sent_frame : IsFree m → m.p2 ≡ v → f R2 ≡ bit_and v 253 → f R6 ≡ byte → f R4 ≡ byte → (f R5 == 0) ≡ false
      → ((look : ℕ) → IsLook look → is_high look ≡ true)
      → Leads d (kernel_in true bytes) x (begin_at d SEND f ring m board)
      (At d m SENT (sending f v byte 10 0 0) ring 368 (at_offset 368))
  sent_frame free out low whole is some high =
      chain d (kernel_in true bytes) (has_rows true bytes has) x (In 10)
      (At d m SENT (sending f v byte 10 0 0) ring 368 (at_offset 368))
      (begin_at d SEND f ring m board)
      (begins free out low whole is some (high 8 (inl refl)) (high 26 (inr (inl refl))))
      (λ s h free.
      chain d (kernel_in true bytes) (has_rows true bytes has) x (In 0)
      (At d m SENT (sending f v byte 10 0 0) ring 368 (at_offset 368)) s
      (cells_pass 0 (λ k l. let few : k < 10 = omega (arith, l) in (
        high (46 + 32 * k) (inr (inr (k, few, inl refl))),
        λ more. high (56 + 32 * k) (inr (inr (k, few, inr (refl, more)))),
      )) 10 s h free)
      (λ t q free.
      let k : q.k ≡ 10 = (let c : q.k + 0 ≡ 10 = q.count in omega (arith, c)) in
      let o : t.off ≡ 28 + 32 * q.k = q.off in
      let w : t.cpu.p2 ≡ wired v true (frame_bit byte q.k) = ap (λ (z : Cpu). z.p2) q.cpu in
      let g = sending f v byte q.k 0 (in_quarters byte) in
      let y : x + t.off ≡ x + (28 + 32 * q.k) = ap (λ i. x + i) o in
      let few : 4 ≤ 5 = omega arith in
      let last : 28 + 32 * q.k + 16 + 4 ≡ 368 = omega (arith, k) in
      let free_again : bit_or (bit_and t.cpu.p2 254) 1 ≡ m.p2 =
      risen_is d bytes has x m board f ring v byte released small q.k t.cpu.p2 w
      ∙ ap (λ j. wired v true (frame_bit byte j)) k ∙ both_high v released ∙ sym out in
      from_stage d (kernel_in true bytes) (has_rows true bytes has) x S_STOP
      (record m { p2 = wired v true (frame_bit byte q.k) }) g ring t
      (At d (record t.cpu { p2 = bit_or (bit_and t.cpu.p2 254) 1 }) SENT (put g R0 0) ring 20
      (board_stopped d bytes has (x + t.off) t.cpu t.board g ring))
      (At d m SENT (sending f v byte 10 0 0) ring 368 (at_offset 368)) q.cpu
      (λ e a. record {
        cpu =
            a.cpu
            ∙ ap (λ (z : Cpu). scratched (record z { p2 = bit_or (bit_and t.cpu.p2 254) 1 }) SENT
            (memory (put g R0 0) ring) e.cpu) q.cpu
            ∙ ap (λ w. scratched (record m { p2 = w }) SENT (memory (put g R0 0) ring) e.cpu) free_again
            ∙ ap (λ j. scratched m SENT (memory (sending f v byte j 0 0) ring) e.cpu) k;
        off = (let c : e.off ≡ 20 = a.off in omega (arith, c, o, k));
        now =
            a.now
            ∙ high_span d bytes has x m board f ring v byte released small 4 q.k
            (x + t.off) t.cpu.p2 (bit_or (bit_and t.cpu.p2 254) 1) t.board few y w
            (risen_is d bytes has x m board f ring v byte released small q.k t.cpu.p2 w) q.board_now
            ∙ ap at_offset last;
      })
      (stops d bytes has (x + t.off) t.cpu t.board g ring free)))
