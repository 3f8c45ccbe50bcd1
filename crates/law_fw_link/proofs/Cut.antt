-- A sent frame that the controller cuts: at the look that shows the clock low both wires are released.
use Rattle.std.proofs.Common.{◌≡◌, ◌≤◌, ◌<◌, ℕ, suc, ◌+◌, ◌-◌, ◌*◌, ◌/◌, List, Bool, true, false, not, ◌==◌}
use Rattle.std.proofs.Common.{nat_lt, if◌then◌else◌}
use Rattle.std.proofs.Common.{bit_and, bit_or, refl, ap, sym, ◌∙◌, subst, inl, inr, arith}
use Rattle.std.proofs.lemmas.Bool.Decides.{nat_tests}
use Rattle.mcs48_core.specs.Cpu.{Cpu}
use Rattle.mcs48_core.specs.Status.{digit}
use Rattle.fw_kernel.specs.declared.cells.TheConstants.{R0, R1, R2, R3, R4, R5, R6}
use Rattle.fw_kernel.specs.Places.{HasKernel}
use Rattle.fw_kernel.specs.declared.labels.TheConstants.{SEND, S_CELL, S_STOP, SCAN}
use Rattle.law_fw_logic.proofs.Block.{memory, put, scratched, begin_at, At}
use Rattle.law_fw_logic.proofs.Blocks.{from_stage}
use Rattle.law_fw_logic.proofs.TimerParts.{IsFree}
use Rattle.law_fw_logic.proofs.Kernel.{kernel_in}
use Rattle.law_fw_logic.proofs.Leads.{Leads}
use Rattle.law_fw_logic.proofs.Path.{Stage}
use Rattle.law_fw_logic.proofs.Short.{has_rows}
use Rattle.law_fw_logic.proofs.Sound.{chain, weaken}
use Rattle.law_fw_link.specs.Latch.{IsLook, wired, frame_bit, sent_latch, cut_latch, cut_after}
use Rattle.law_fw_link.proofs.Latches.{driven}
use Rattle.law_fw_link.proofs.Cell.{turned, cut, cut_again, board_cut, board_cut_again, half_turned}
use Rattle.law_fw_link.proofs.Ends.{in_quarters, readied, board_started, cut_first, cut_second}
use Rattle.law_fw_link.proofs.Frame.{begins, cells_pass, first_cells, to_start, from_start, first_is, second_is}
use Rattle.law_fw_link.proofs.Sending.{InFrame, sending, left_at, next_is, look, high_span, put_span, look_is, again_is}
use Rattle.law_fw_link.proofs.Wired.{IsReleased, both_high, releases, puts, spans, ticks_alike}
use Rattle.joint_run.specs.Run.{Board, after_cycles}

-- the latch of a frame that is cut, before the cut and after it
pub as_sent : (v byte look o : ℕ) → o < look + 2 → cut_latch v byte look o ≡ sent_latch v byte o
as_sent v byte look o l = let a : nat_lt o (look + 2) ≡ true = grind (arith, nat_tests, l) in rw a refl

-- two cycles after the look that cuts a frame both wires are let go, and stay so
pub as_cut : (v byte look i : ℕ) → cut_latch v byte look (look + 2 + i) ≡ v
as_cut v byte look i = let a : nat_lt (look + 2 + i) (look + 2) ≡ false = grind (arith, nat_tests) in rw a refl

-- the cell, the cells left and R0 where a frame is cut at a look
abbrev pub left_at_cut : (f : ℕ → ℕ) (byte look : ℕ) → IsLook look → ℕ × ℕ × ℕ
left_at_cut f byte look (inl first) = (0, 10, f R0)
left_at_cut f byte look (inr (inl second)) = (0, 10, in_quarters byte)
left_at_cut f byte look (inr (inr (k, few, inl here))) = (suc k, 10 - k, in_quarters byte)
left_at_cut f byte look (inr (inr (k, few, inr here))) = (suc k, 9 - k, in_quarters byte)

module _ (d : Board) (bytes : List ℕ) (has : HasKernel bytes) (x : ℕ) (m : Cpu) (board : d.State) (f : ℕ → ℕ)
    (ring : List ℕ) (v byte : ℕ) (released : IsReleased v) (small : byte < 256) where
  abbrev In : ℕ → Stage d.State → Type 0
  In n s = InFrame d bytes has x m board f ring v byte released small n s

  abbrev is_high : ℕ → Bool
  is_high o = look d bytes has x m board f ring v byte released small o

  abbrev at_offset : ℕ → d.State
  at_offset o = driven d x (sent_latch v byte) o 0 board

  abbrev cut_board : ℕ → ℕ → d.State
  cut_board look o = driven d x (cut_latch v byte look) o 0 board

  up_to_cut : (look n : ℕ) → n ≤ look + 2 → at_offset n ≡ cut_board look n
  up_to_cut look n l =
      ticks_alike n 0 0 (λ o. d.cycle (sent_latch v byte o) (x + o)) (λ o. d.cycle (cut_latch v byte look o) (x + o)) board
      (λ i t u. let k : 0 + i < look + 2 = omega (arith, l, u) in
      ap (λ w. d.cycle w (x + (0 + i)) t) (sym (as_sent v byte look (0 + i) k)))

  -- four cycles with both wires released end it
  released_board : (look y b w : ℕ) (s : d.State) → y + b ≡ x + (look + 2) → w ≡ v → s ≡ at_offset (look + 2)
      → after_cycles 4 b (λ o. d.cycle w (y + o)) s ≡ cut_board look (cut_after look)
  released_board look y b w s e is there =
      let last : look + 2 + 4 ≡ look + 6 = omega arith in
      spans d x (cut_latch v byte look) 4 (look + 2) y b w s board e (λ i l. as_cut v byte look i ∙ sym is)
      (there ∙ up_to_cut look (look + 2) (omega arith))
      ∙ ap (cut_board look) last

  abbrev pub Cut : ℕ → ℕ × ℕ × ℕ → Stage d.State → Type 0
  Cut look left e =
      At d m SCAN (sending f v byte left.0 left.1 left.2) ring (cut_after look) (cut_board look (cut_after look)) e

  module _ (free : IsFree m) (out : m.p2 ≡ v) (data_low : f R2 ≡ bit_and v 253) (whole : f R6 ≡ byte) (is : f R4 ≡ byte)
      (some : (f R5 == 0) ≡ false) where
    -- at the first look
    cut_before : is_high 8 ≡ false → Leads d (kernel_in true bytes) x (begin_at d SEND f ring m board) (Cut 8 (0, 10, f R0))
    cut_before low =
        let u = bit_or m.p2 3 in
        let again : u ≡ v = ap (λ w. bit_or w 3) (out ∙ sym (both_high v released)) ∙ releases true v released in
        let g = put (put f R1 (f R2)) R3 10 in
        let cells : memory g ring ≡ memory (sending f v byte 0 10 (f R0)) ring =
        ap (λ r. memory (put (put (put (put (put f R1 (f R2)) R2 (f R2)) R3 10) R6 r) R0 (f R0)) ring) whole
        ∙ ap (λ r. memory (put (put (put (put (put f R1 r) R2 r) R3 10) R6 byte) R0 (f R0)) ring) data_low in
        weaken d (kernel_in true bytes) (has_rows true bytes has) x
        (At d (record m { p2 = u }) SCAN g ring 14
        (after_cycles 4 10 (λ o. d.cycle u (x + o)) (after_cycles 10 0 (λ o. d.cycle m.p2 (x + o)) board)))
        (Cut 8 (0, 10, f R0)) (begin_at d SEND f ring m board)
        (λ e a. record {
          cpu = a.cpu ∙ ap (λ w. scratched (record m { p2 = w }) SCAN (memory g ring) e.cpu) (again ∙ sym out)
              ∙ ap (λ r. scratched m SCAN r e.cpu) cells;
          off = a.off;
          now = a.now ∙ released_board 8 x 10 u (after_cycles 10 0 (λ o. d.cycle m.p2 (x + o)) board) refl again
              (to_start d bytes has x m board f ring v byte released small out);
        })
        (cut_first d bytes has x m board f ring free some
        (first_is d bytes has x m board f ring v byte released small out ∙ low))

    -- at the second, with data low
    cut_at_fall : is_high 8 ≡ true → is_high 26 ≡ false
        → Leads d (kernel_in true bytes) x (begin_at d SEND f ring m board) (Cut 26 (0, 10, in_quarters byte))
    cut_at_fall high low =
        let u = bit_or (f R2) 3 in
        let again : u ≡ v = ap (λ w. bit_or w 3) data_low ∙ releases false v released in
        let g = readied d bytes has x m board f ring in
        let less : f R4 < 256 = subst (λ b. b < 256) (sym is) small in
        weaken d (kernel_in true bytes) (has_rows true bytes has) x
        (At d (record m { p2 = u }) SCAN g ring 32
        (after_cycles 4 28 (λ o. d.cycle u (x + o)) (board_started d bytes has x m board f ring 18)))
        (Cut 26 (0, 10, in_quarters byte)) (begin_at d SEND f ring m board)
        (λ e a. record {
          cpu = a.cpu ∙ ap (λ w. scratched (record m { p2 = w }) SCAN (memory g ring) e.cpu) (again ∙ sym out)
              ∙ ap (λ r. scratched m SCAN r e.cpu) (first_cells f ring v byte data_low whole is);
          off = a.off;
          now = a.now ∙ released_board 26 x 28 u (board_started d bytes has x m board f ring 18) refl again
              (from_start d bytes has x m board f ring v byte released small out data_low 18 (omega arith));
        })
        (cut_second d bytes has x m board f ring free less some
        (first_is d bytes has x m board f ring v byte released small out ∙ high)
        (second_is d bytes has x m board f ring v byte released small out data_low ∙ low))

  -- the cell of the cut, whose first look or whose second shows the clock low
  module _ (k n : ℕ) (count : k + suc n ≡ 10) (out : m.p2 ≡ v) (t : Stage d.State) (q : In (suc n) t)
      (free : IsFree t.cpu) where
    same : q.k ≡ k
    same = let c : q.k + suc n ≡ 10 = q.count in omega (arith, c, count)

    abbrev g : ℕ → ℕ
    g = sending f v byte q.k (suc n) (in_quarters byte)

    abbrev here : Cpu
    here = record m { p2 = wired v true (frame_bit byte q.k) }

    at_cell : t.cpu ≡ scratched here S_CELL (memory g ring) t.cpu
    at_cell =
        let more : not (suc n == 0) ≡ true = grind (arith, nat_tests) in
        q.cpu ∙ ap (λ b. scratched here (if b then S_CELL else S_STOP) (memory g ring) t.cpu) more

    put2 : t.cpu.p2 ≡ wired v true (frame_bit byte q.k)
    put2 = ap (λ (z : Cpu). z.p2) q.cpu

    one : t.cpu.p1 ≡ m.p1
    one = ap (λ (z : Cpu). z.p1) q.cpu

    y : x + t.off ≡ x + (28 + 32 * q.k)
    y = ap (λ i. x + i) q.off

    inside : q.k < 10
    inside = let c : q.k + suc n ≡ 10 = q.count in omega (arith, c)

    abbrev r : ℕ
    r = wired v true (frame_bit byte q.k)

    abbrev next : ℕ
    next = wired v true (frame_bit byte (suc q.k))

    -- the processor after it, whose latch is released
    cpu_is : (u : ℕ) (e : Stage d.State) → u ≡ v
        → e.cpu ≡ scratched (record t.cpu { p2 = u }) SCAN (memory (half_turned d bytes has (x + t.off) t.cpu t.board g ring next) ring) e.cpu
        → e.cpu ≡ scratched m SCAN (memory (sending f v byte (suc k) (suc n) (in_quarters byte)) ring) e.cpu
    cpu_is u e again is =
        is
        ∙ ap (λ (z : Cpu). scratched (record z { p2 = u }) SCAN
        (memory (half_turned d bytes has (x + t.off) t.cpu t.board g ring next) ring) e.cpu) q.cpu
        ∙ ap (λ z. scratched (record m { p2 = u }) SCAN
        (memory (put (put g R6 (128 * digit z + left_at byte q.k / 2)) R1 next) ring) e.cpu) q.carry
        ∙ ap (λ z. scratched (record m { p2 = z }) SCAN (memory (sending f v byte (suc q.k) (suc n) (in_quarters byte)) ring) e.cpu)
        (again ∙ sym out)
        ∙ ap (λ i. scratched m SCAN (memory (sending f v byte (suc i) (suc n) (in_quarters byte)) ring) e.cpu) same

    cut_in_cell : is_high (46 + 32 * k) ≡ false → Leads d (kernel_in true bytes) x t (Cut (46 + 32 * k) (suc k, suc n, in_quarters byte))
    cut_in_cell low =
        let u = bit_or r 3 in
        let again : u ≡ v = releases (frame_bit byte q.k) v released in
        let o : t.off ≡ 28 + 32 * q.k = q.off in
        let is : q.k ≡ k = same in
        let few : 4 ≤ 5 = omega arith in
        let place : 28 + 32 * q.k + 16 + 4 ≡ 46 + 32 * k + 2 = omega (arith, is) in
        from_stage d (kernel_in true bytes) (has_rows true bytes has) x S_CELL here g ring t
        (At d (record t.cpu { p2 = u }) SCAN (half_turned d bytes has (x + t.off) t.cpu t.board g ring next) ring 24
        (board_cut d bytes has (x + t.off) t.cpu t.board g ring))
        (Cut (46 + 32 * k) (suc k, suc n, in_quarters byte)) at_cell
        (λ e a. record {
          cpu = cpu_is u e again a.cpu;
          off = (let c : e.off ≡ 24 = a.off in omega (arith, c, o, is));
          now =
              a.now
              ∙ released_board (46 + 32 * k) (x + t.off) 20 u
              (after_cycles 4 16 (λ o. d.cycle r (x + t.off + o))
              (after_cycles 16 0 (λ o. d.cycle (bit_and t.cpu.p2 254) (x + t.off + o)) t.board))
              (omega (arith, o, is)) again
              (high_span d bytes has x m board f ring v byte released small 4 q.k (x + t.off) t.cpu.p2 r t.board few y put2
              refl q.board_now ∙ ap at_offset place);
        })
        (cut d bytes has (x + t.off) t.cpu t.board g ring (frame_bit byte (suc q.k)) next free
        (next_is q.k byte inside small) (puts (frame_bit byte (suc q.k)) v released)
        (look_is d bytes has x m board f ring v byte released small q.k (x + t.off) t.cpu.p2 r t.cpu.p1 t.board one y put2
        refl q.board_now ∙ ap (λ i. is_high (46 + 32 * i)) is ∙ low))

    -- at the second look the cell is counted
    counted_is : (u : ℕ) (e : Stage d.State) → u ≡ v
        → e.cpu ≡ scratched (record t.cpu { p2 = u }) SCAN (memory (turned g t.cpu.c next n) ring) e.cpu
        → e.cpu ≡ scratched m SCAN (memory (sending f v byte (suc k) n (in_quarters byte)) ring) e.cpu
    counted_is u e again is =
        is
        ∙ ap (λ (z : Cpu). scratched (record z { p2 = u }) SCAN (memory (turned g t.cpu.c next n) ring) e.cpu) q.cpu
        ∙ ap (λ z. scratched (record m { p2 = u }) SCAN (memory (turned g z next n) ring) e.cpu) q.carry
        ∙ ap (λ z. scratched (record m { p2 = z }) SCAN (memory (sending f v byte (suc q.k) n (in_quarters byte)) ring) e.cpu)
        (again ∙ sym out)
        ∙ ap (λ i. scratched m SCAN (memory (sending f v byte (suc i) n (in_quarters byte)) ring) e.cpu) same

    cut_after_bit : not (n == 0) ≡ true → is_high (46 + 32 * k) ≡ true → is_high (56 + 32 * k) ≡ false
        → Leads d (kernel_in true bytes) x t (Cut (56 + 32 * k) (suc k, n, in_quarters byte))
    cut_after_bit more high low =
        let u = bit_or next 3 in
        let again : u ≡ v = releases (frame_bit byte (suc q.k)) v released in
        let o : t.off ≡ 28 + 32 * q.k = q.off in
        let is : q.k ≡ k = same in
        let place : 28 + 32 * q.k + 21 + 9 ≡ 56 + 32 * k + 2 = omega (arith, is) in
        from_stage d (kernel_in true bytes) (has_rows true bytes has) x S_CELL here g ring t
        (At d (record t.cpu { p2 = u }) SCAN (turned g t.cpu.c next n) ring 34
        (board_cut_again d bytes has (x + t.off) t.cpu t.board g ring next))
        (Cut (56 + 32 * k) (suc k, n, in_quarters byte)) at_cell
        (λ e a. record {
          cpu = counted_is u e again a.cpu;
          off = (let c : e.off ≡ 34 = a.off in omega (arith, c, o, is));
          now =
              a.now
              ∙ released_board (56 + 32 * k) (x + t.off) 30 u
              (after_cycles 9 21 (λ o. d.cycle next (x + t.off + o))
              (after_cycles 5 16 (λ o. d.cycle r (x + t.off + o))
              (after_cycles 16 0 (λ o. d.cycle (bit_and t.cpu.p2 254) (x + t.off + o)) t.board)))
              (omega (arith, o, is)) again
              (put_span d bytes has x m board f ring v byte released small 9 q.k (x + t.off) t.cpu.p2 r next t.board
              (omega arith) y put2 refl refl q.board_now ∙ ap at_offset place);
        })
        (cut_again d bytes has (x + t.off) t.cpu t.board g ring (frame_bit byte (suc q.k)) next n free refl
        (omega (arith, count)) more
        (next_is q.k byte inside small) (puts (frame_bit byte (suc q.k)) v released)
        (look_is d bytes has x m board f ring v byte released small q.k (x + t.off) t.cpu.p2 r t.cpu.p1 t.board one y put2
        refl q.board_now ∙ ap (λ i. is_high (46 + 32 * i)) is ∙ high)
        (again_is d bytes has x m board f ring v byte released small q.k (x + t.off) t.cpu.p2 r next t.cpu.p1 t.board one y
        put2 refl refl q.board_now ∙ ap (λ i. is_high (56 + 32 * i)) is ∙ low))

  -- the looks before one show the clock high, and it shows it low
  pub cut_frame : IsFree m → m.p2 ≡ v → f R2 ≡ bit_and v 253 → f R6 ≡ byte → f R4 ≡ byte → (f R5 == 0) ≡ false
      → (look : ℕ) (is : IsLook look) → ((earlier : ℕ) → IsLook earlier → earlier < look → is_high earlier ≡ true)
      → is_high look ≡ false
      → Leads d (kernel_in true bytes) x (begin_at d SEND f ring m board) (Cut look (left_at_cut f byte look is))
  cut_frame free out data_low whole is some look at high low = by at
    where
      in_cell : (k : ℕ) (few : k < 10) (o : ℕ) → 46 + 32 * k ≤ o → ((earlier : ℕ) → IsLook earlier → earlier < o → is_high earlier ≡ true)
          → (left rest : ℕ) → k + suc left ≡ 10
          → ((t : Stage d.State) → In (suc left) t → IsFree t.cpu → Leads d (kernel_in true bytes) x t (Cut o (suc k, rest, in_quarters byte)))
          → Leads d (kernel_in true bytes) x (begin_at d SEND f ring m board) (Cut o (suc k, rest, in_quarters byte))
      in_cell k few o late high left rest count last =
          chain d (kernel_in true bytes) (has_rows true bytes has) x (In 10) (Cut o (suc k, rest, in_quarters byte)) (begin_at d SEND f ring m board)
          (begins d bytes has x m board f ring v byte released small free out data_low whole is some
          (high 8 (inl refl) (omega (arith, late))) (high 26 (inr (inl refl)) (omega (arith, late))))
          (λ s h free.
          let ten : 10 ≡ k + suc left = sym count in
          let none : 0 + suc left ≡ suc left = omega arith in
          chain d (kernel_in true bytes) (has_rows true bytes has) x (In (0 + suc left)) (Cut o (suc k, rest, in_quarters byte)) s
          (cells_pass d bytes has x m board f ring v byte released small (suc left)
          (λ i l. let less : i < 10 = omega (arith, l) in (
            high (46 + 32 * i) (inr (inr (i, less, inl refl))) (omega (arith, l, count, late)),
            λ more. high (56 + 32 * i) (inr (inr (i, less, inr (refl, more)))) (omega (arith, l, count, late)),
          )) k s (subst (λ i. In i s) ten h) free)
          (λ t q free. last t (subst (λ i. In i t) none q) free))

      by : (here : IsLook look)
          → Leads d (kernel_in true bytes) x (begin_at d SEND f ring m board) (Cut look (left_at_cut f byte look here))
      by (inl e) =
          subst (λ o. Leads d (kernel_in true bytes) x (begin_at d SEND f ring m board) (Cut o (0, 10, f R0))) (sym e)
          (cut_before free out data_low whole is some (ap is_high (sym e) ∙ low))
      by (inr (inl e)) =
          subst (λ o. Leads d (kernel_in true bytes) x (begin_at d SEND f ring m board) (Cut o (0, 10, in_quarters byte))) (sym e)
          (cut_at_fall free out data_low whole is some (high 8 (inl refl) (omega (arith, e))) (ap is_high (sym e) ∙ low))
      by (inr (inr (k, few, inl e))) =
          let left : ℕ = 9 - k in
          let count : k + suc left ≡ 10 = omega (arith, few) in
          let ten : suc left ≡ 10 - k = omega (arith, few) in
          subst (λ n. Leads d (kernel_in true bytes) x (begin_at d SEND f ring m board) (Cut look (suc k, n, in_quarters byte))) ten
          (in_cell k few look (omega (arith, e)) high left (suc left) count
          (λ t q free.
          subst (λ o. Leads d (kernel_in true bytes) x t (Cut o (suc k, suc left, in_quarters byte))) (sym e)
          (cut_in_cell k left count out t q free (ap is_high (sym e) ∙ low))))
      by (inr (inr (k, few, inr (e, less)))) =
          let left : ℕ = 9 - k in
          let count : k + suc left ≡ 10 = omega (arith, few) in
          let some : 0 < left = omega (arith, less) in
          in_cell k few look (omega (arith, e)) high left left count
          (λ t q free.
          subst (λ o. Leads d (kernel_in true bytes) x t (Cut o (suc k, left, in_quarters byte))) (sym e)
          (cut_after_bit k left count out t q free (grind (arith, nat_tests, some))
          (high (46 + 32 * k) (inr (inr (k, few, inl refl))) (omega (arith, e))) (ap is_high (sym e) ∙ low)))
