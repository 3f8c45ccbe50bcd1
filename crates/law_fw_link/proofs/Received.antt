-- A received frame as a whole: 366 cycles from the look at data to its end.
use Rattle.std.proofs.Common.{◌≡◌, ◌<◌, ℕ, suc, ◌+◌, ◌*◌, List, Bool, true, false, nat_le}
use Rattle.std.proofs.Common.{bit_and, bit_or, refl, ap, sym, ◌∙◌, subst, arith}
use Rattle.std.proofs.lemmas.Bool.Decides.{nat_tests}
use Rattle.mcs48_core.specs.Cpu.{Cpu}
use Rattle.mcs48_core.specs.Status.{digit}
use Rattle.board_terms.specs.Bits.{value}
use Rattle.fw_kernel.specs.declared.cells.TheConstants.{R0, R1, R3, R4, R5}
use Rattle.fw_kernel.specs.Places.{HasKernel}
use Rattle.fw_kernel.specs.declared.labels.TheConstants.{GOT, R_PARITY, R_STOP, R_ACK, COMMAND}
use Rattle.law_fw_logic.proofs.Block.{memory, put, scratched, begin_at, At}
use Rattle.law_fw_logic.proofs.Blocks.{from_stage}
use Rattle.law_fw_logic.proofs.TimerParts.{IsFree}
use Rattle.law_fw_logic.proofs.Kernel.{kernel_in}
use Rattle.law_fw_logic.proofs.Laws.{counts_down}
use Rattle.law_fw_logic.proofs.Leads.{Leads}
use Rattle.law_fw_logic.proofs.Path.{Stage}
use Rattle.law_fw_logic.proofs.Short.{has_rows}
use Rattle.law_fw_logic.proofs.Sound.{chain, weaken}
use Rattle.law_fw_link.specs.Latch.{wired, received_latch}
use Rattle.law_fw_link.proofs.Latches.{driven}
use Rattle.law_fw_link.proofs.Ends.{in_quarters}
use Rattle.law_fw_link.proofs.Receive.{awaits, Awaits, seen_again, is_parity, takes_parity, with_parity, takes_stop, acks}
use Rattle.law_fw_link.proofs.Receive.{board_after_bit, board_pulled, board_acked}
use Rattle.law_fw_link.proofs.Taking.{taken, taken_is, taken_small, read_bits, InBits, one_bit, bit_read, risen_is}
use Rattle.law_fw_link.proofs.Taking.{cell_span, last_span, look_is, in_cell, before_cells}
use Rattle.law_fw_link.proofs.Wired.{IsReleased, both_high, falls, restores, spans}
use Rattle.joint_run.specs.Run.{Board, after_cycles}

-- the registers after a received frame: R4 is the byte, R5 is 255 where its parity was right and else 0
abbrev pub got_cells : (ℕ → ℕ) → ℕ → Bool → ℕ → ℕ
got_cells cells byte right = put (put (put (put (put cells R0 0) R3 0) R4 byte) R1 (in_quarters byte)) R5 (255 * digit right)

-- the eleventh fall: both wires are low, and then let go
last_low : (latch cycle : ℕ) → cycle < 16 → received_latch latch (28 + 32 * 10 + cycle) ≡ bit_and latch 252
last_low latch cycle within =
    let inside : cycle < 32 = omega (arith, within) in
    let half : nat_le 16 cycle ≡ false = grind (arith, nat_tests, within) in
    in_cell latch 10 cycle inside ∙ ap (λ clock. wired latch clock clock) half

last_high : (latch cycle : ℕ) → cycle < 2 → received_latch latch (28 + 32 * 10 + 16 + cycle) ≡ wired latch true true
last_high latch cycle within =
    let inside : 16 + cycle < 32 = omega (arith, within) in
    let half : nat_le 16 (16 + cycle) ≡ true = grind (arith, nat_tests) in
    let place : 28 + 32 * 10 + 16 + cycle ≡ 28 + 32 * 10 + (16 + cycle) = omega arith in
    ap (λ offset. received_latch latch offset) place ∙ in_cell latch 10 (16 + cycle) inside ∙ ap (λ clock. wired latch clock clock) half

module _ (outside : Board) (bytes : List ℕ) (has : HasKernel bytes) (start : ℕ) (begun : Cpu) (board : outside.State) (cells : ℕ → ℕ)
    (ring : List ℕ) (released : IsReleased begun.p2) (small : begun.a < 256) where
  abbrev In : ℕ → Stage outside.State → Type 0
  In left stage = InBits outside bytes has start begun board cells ring released small left stage

  abbrev at_offset : ℕ → outside.State
  at_offset offset = driven outside start (received_latch begun.p2) offset 0 board

  abbrev wire : ℕ → Bool
  wire cell = bit_read outside bytes has start begun board cells ring released small cell

  -- the byte that was read, and whether its parity was right
  abbrev pub byte_read : ℕ
  byte_read = value (read_bits wire)

  abbrev pub right_read : Bool
  right_read = is_parity (wire 8) byte_read

  abbrev pub got : ℕ → ℕ
  got = got_cells cells byte_read right_read

  -- the data wire at the second look at it
  abbrev pub wire_again : Bool
  wire_again = seen_again outside bytes has start begun board cells ring

  begins : IsFree begun → wire_again ≡ false
      → Leads outside (kernel_in true bytes) start (begin_at outside GOT cells ring begun board) (In 8)
  begins free still =
      weaken outside (kernel_in true bytes) (has_rows true bytes has) start (Awaits outside bytes has start begun board cells ring) (In 8)
      (begin_at outside GOT cells ring begun board)
      (λ stage is. record {
        k = 0;
        count = refl;
        r0 = 0;
        cpu = is.0;
        acc = is.1;
        off = is.2;
        board_now =
            is.3 ∙ spans outside start (received_latch begun.p2) 28 0 start 0 begun.p2 board board refl
            (λ cycle within. before_cells begun.p2 cycle within) refl;
      })
      (awaits outside bytes has start begun board cells ring free still)

  -- data is pulled for the eleventh fall
  abbrev pulled : Cpu
  pulled = record begun { p2 = bit_and begun.p2 253 }

  parity_cell : (stage : Stage outside.State) → In 0 stage → IsFree stage.cpu
      → Leads outside (kernel_in true bytes) start stage (At outside begun R_STOP got ring (28 + 32 * 9) (at_offset (28 + 32 * 9)))
  parity_cell stage held free =
      let eighth : held.k ≡ 8 = (let count : held.k + 0 ≡ 8 = held.count in omega (arith, count)) in
      let few : held.k < 10 = omega (arith, eighth) in
      let early : held.k < 9 = omega (arith, eighth) in
      let off_is : stage.off ≡ 28 + 32 * held.k = held.off in
      let same_cycle : start + stage.off ≡ start + (28 + 32 * held.k) = ap (λ offset. start + offset) off_is in
      let same_latch : stage.cpu.p2 ≡ begun.p2 = ap (λ (cpu : Cpu). cpu.p2) held.cpu in
      let one : stage.cpu.p1 ≡ begun.p1 = ap (λ (cpu : Cpu). cpu.p1) held.cpu in
      let let_go = bit_or (bit_and stage.cpu.p2 254) 1 in
      let counted = put (put cells R0 held.r0) R3 0 in
      let byte : stage.cpu.a ≡ byte_read = held.acc ∙ ap (λ bits. taken wire begun.a bits) eighth ∙ taken_is wire begun.a small in
      let low : stage.cpu.a < 256 = subst (λ acc. acc < 256) (sym held.acc) (taken_small wire begun.a held.k small) in
      let seen =
      look_is outside bytes has start begun board cells ring released small held.k
      (start + stage.off) stage.cpu.p2 stage.cpu.p1 stage.board few one same_cycle same_latch held.board_now ∙ ap wire eighth in
      from_stage outside (kernel_in true bytes) (has_rows true bytes has) start R_PARITY begun counted ring stage
      (At outside (record stage.cpu { p2 = let_go }) R_STOP
      (with_parity outside bytes has (start + stage.off) stage.cpu stage.board counted ring) ring 32
      (board_after_bit outside bytes has (start + stage.off) stage.cpu stage.board counted ring))
      (At outside begun R_STOP got ring (28 + 32 * 9) (at_offset (28 + 32 * 9))) held.cpu
      (λ end arrives. record {
        cpu =
            arrives.cpu
            ∙ ap (λ (cpu : Cpu). scratched (record cpu { p2 = let_go }) R_STOP
            (memory (with_parity outside bytes has (start + stage.off) stage.cpu stage.board counted ring) ring) end.cpu) held.cpu
            ∙ ap (λ latch. scratched (record begun { p2 = latch }) R_STOP
            (memory (with_parity outside bytes has (start + stage.off) stage.cpu stage.board counted ring) ring) end.cpu)
            (risen_is outside bytes has start begun board cells ring released small stage.cpu.p2 same_latch)
            ∙ ap (λ bit. scratched begun R_STOP
            (memory (put (put (put (put counted R4 stage.cpu.a) R1 (in_quarters stage.cpu.a)) R0 0) R5
            (255 * digit (is_parity bit stage.cpu.a))) ring) end.cpu) seen
            ∙ ap (λ read. scratched begun R_STOP
            (memory (put (put (put (put counted R4 read) R1 (in_quarters read)) R0 0) R5
            (255 * digit (is_parity (wire 8) read))) ring)
            end.cpu) byte;
        off = (let count : end.off ≡ 32 = arrives.off in omega (arith, count, off_is, eighth));
        now =
            arrives.now ∙ cell_span outside bytes has start begun board cells ring released small held.k
            (start + stage.off) stage.cpu.p2 stage.board early same_cycle same_latch held.board_now
            ∙ (let place : 28 + 32 * suc held.k ≡ 28 + 32 * 9 = omega (arith, eighth) in ap at_offset place);
      })
      (takes_parity outside bytes has (start + stage.off) stage.cpu stage.board counted ring free low)

  stop_cell : (stage : Stage outside.State)
      → At outside begun R_STOP got ring (28 + 32 * 9) (at_offset (28 + 32 * 9)) stage → IsFree stage.cpu
      → Leads outside (kernel_in true bytes) start stage (At outside pulled R_ACK got ring (28 + 32 * 10) (at_offset (28 + 32 * 10)))
  stop_cell stage held free =
      let off_is : stage.off ≡ 28 + 32 * 9 = held.off in
      let same_cycle : start + stage.off ≡ start + (28 + 32 * 9) = ap (λ offset. start + offset) off_is in
      let same_latch : stage.cpu.p2 ≡ begun.p2 = ap (λ (cpu : Cpu). cpu.p2) held.cpu in
      let falls = bit_and (bit_or (bit_and stage.cpu.p2 254) 1) 253 in
      from_stage outside (kernel_in true bytes) (has_rows true bytes has) start R_STOP begun got ring stage
      (At outside (record stage.cpu { p2 = falls }) R_ACK (put got R0 0) ring 32
      (board_pulled outside bytes has (start + stage.off) stage.cpu stage.board got ring))
      (At outside pulled R_ACK got ring (28 + 32 * 10) (at_offset (28 + 32 * 10))) held.cpu
      (λ end arrives. record {
        cpu =
            arrives.cpu ∙ ap (λ (cpu : Cpu). scratched (record cpu { p2 = falls }) R_ACK (memory (put got R0 0) ring)
            end.cpu) held.cpu
            ∙ ap (λ latch. scratched (record begun { p2 = bit_and latch 253 }) R_ACK (memory (put got R0 0) ring) end.cpu)
            (risen_is outside bytes has start begun board cells ring released small stage.cpu.p2 same_latch);
        off = (let count : end.off ≡ 32 = arrives.off in omega (arith, count, off_is));
        now =
            arrives.now ∙ last_span outside bytes has start begun board cells ring released small (start + stage.off)
            stage.cpu.p2 stage.board same_cycle same_latch held.now;
      })
      (takes_stop outside bytes has (start + stage.off) stage.cpu stage.board got ring free)

  last_fall : (stage : Stage outside.State)
      → At outside pulled R_ACK got ring (28 + 32 * 10) (at_offset (28 + 32 * 10)) stage → IsFree stage.cpu
      → Leads outside (kernel_in true bytes) start stage (At outside begun COMMAND got ring 366 (at_offset 366))
  last_fall stage held free =
      let off_is : stage.off ≡ 28 + 32 * 10 = held.off in
      let same_latch : stage.cpu.p2 ≡ bit_and begun.p2 253 = ap (λ (cpu : Cpu). cpu.p2) held.cpu in
      let low = bit_and stage.cpu.p2 254 in
      let let_go = bit_or low 3 in
      let both_low : low ≡ bit_and begun.p2 252 = ap (λ latch. bit_and latch 254) same_latch ∙ falls false begun.p2 released.byte in
      let free_again : let_go ≡ begun.p2 = ap (λ latch. bit_or latch 3) both_low ∙ restores begun.p2 released in
      let first : after_cycles 16 0 (λ offset. outside.cycle low (start + stage.off + offset)) stage.board
      ≡ at_offset (28 + 32 * 10 + 16) =
      spans outside start (received_latch begun.p2) 16 (28 + 32 * 10) (start + stage.off) 0 low stage.board board
      (omega (arith, off_is))
      (λ cycle within. last_low begun.p2 cycle within ∙ sym both_low) held.now in
      from_stage outside (kernel_in true bytes) (has_rows true bytes has) start R_ACK pulled got ring stage
      (At outside (record stage.cpu { p2 = let_go }) COMMAND (put got R0 0) ring 18
      (board_acked outside bytes has (start + stage.off) stage.cpu stage.board got ring))
      (At outside begun COMMAND got ring 366 (at_offset 366)) held.cpu
      (λ end arrives. record {
        cpu =
            arrives.cpu ∙ ap (λ (cpu : Cpu). scratched (record cpu { p2 = let_go }) COMMAND (memory (put got R0 0) ring)
            end.cpu) held.cpu
            ∙ ap (λ latch. scratched (record begun { p2 = latch }) COMMAND (memory (put got R0 0) ring) end.cpu) free_again;
        off = (let count : end.off ≡ 18 = arrives.off in omega (arith, count, off_is));
        now =
            arrives.now
            ∙ spans outside start (received_latch begun.p2) 2 (28 + 32 * 10 + 16) (start + stage.off) 16 let_go
            (after_cycles 16 0 (λ offset. outside.cycle low (start + stage.off + offset)) stage.board)
            board (omega (arith, off_is))
            (λ cycle within. last_high begun.p2 cycle within ∙ both_high begun.p2 released ∙ sym free_again) first;
      })
      (acks outside bytes has (start + stage.off) stage.cpu stage.board got ring free)

  -- the frame: R4 is the byte that the eight looks read, R5 tells whether the ninth read its parity; both wires are
  -- released at its end
  pub received_frame : IsFree begun → wire_again ≡ false
      → Leads outside (kernel_in true bytes) start (begin_at outside GOT cells ring begun board)
      (At outside begun COMMAND got ring 366 (at_offset 366))
  received_frame free still =
      let kernel = kernel_in true bytes in
      let has' = has_rows true bytes has in
      let End : Stage outside.State → Type 0 = At outside begun COMMAND got ring 366 (at_offset 366) in
      chain outside kernel has' start (In 8) End (begin_at outside GOT cells ring begun board) (begins free still)
      (λ stage is free.
      chain outside kernel has' start (In 0) End stage
      (counts_down outside kernel has' start In
      (λ left stage held free. one_bit outside bytes has start begun board cells ring released small left stage held free) 8 stage is
      free)
      (λ stage held free.
      chain outside kernel has' start (At outside begun R_STOP got ring (28 + 32 * 9) (at_offset (28 + 32 * 9)))
      End stage (parity_cell stage held free)
      (λ stage held free.
      chain outside kernel has' start (At outside pulled R_ACK got ring (28 + 32 * 10) (at_offset (28 + 32 * 10))) End stage
      (stop_cell stage held free) last_fall)))
