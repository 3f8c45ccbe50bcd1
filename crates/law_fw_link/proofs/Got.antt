-- A received frame on any board above the joint run's: the byte that the controller sends is the byte that is read, and
-- its parity is right.
use Rattle.std.proofs.Common.{false, ◌≡◌, ◌≤◌, ◌<◌, ℕ, ◌+◌, ◌*◌, List, Bool, true, ◌&&◌, refl, ap, ◌∙◌, arith}
use Rattle.mcs48_core.specs.Cpu.{Cpu}
use Rattle.board_terms.specs.Bits.{value}
use Rattle.board_terms.specs.declared.event.Edge.{Edge}
use Rattle.board_terms.specs.declared.event.HostEvent.{HostEvent}
use Rattle.board_terms.specs.declared.lines.Lines.{Lines}
use Rattle.ctl_link.specs.declared.link.Link.TheVariants.{Request}
use Rattle.ctl_wire.specs.Wire.{drive}
use Rattle.fw_kernel.specs.Places.{HasKernel}
use Rattle.fw_kernel.specs.declared.labels.TheConstants.{GOT, COMMAND}
use Rattle.law_fw_logic.proofs.Block.{memory, scratched, begin_at, At}
use Rattle.bits.proofs.Every.{by_byte, tests_by}
use Rattle.law_fw_logic.proofs.TimerParts.{IsFree}
use Rattle.law_fw_logic.proofs.Kernel.{kernel_in}
use Rattle.law_fw_logic.proofs.Leads.{Leads}
use Rattle.law_fw_logic.proofs.Short.{has_rows}
use Rattle.law_fw_logic.proofs.Sound.{weaken}
use Rattle.law_fw_link.specs.Latch.{frame_bit, received_latch}
use Rattle.law_fw_link.proofs.Latches.{driven}
use Rattle.law_fw_link.proofs.Board.{over_wires, data_is}
use Rattle.law_fw_link.proofs.Over.{IsOver}
use Rattle.law_fw_link.proofs.Receive.{is_parity}
use Rattle.law_fw_link.proofs.Received.{received_frame, got_cells, byte_read, right_read, wire_again}
use Rattle.law_fw_link.proofs.Taking.{read_bits, bit_read, before_cells}
use Rattle.law_fw_link.proofs.Wired.{IsReleased, spans}
use Rattle.law_fw_link.proofs.Wires.{Drives}
use Rattle.law_fw_link.proofs.WiresGot.{received_lights, received_is_frame, received_bit}
use Rattle.joint_run.specs.Joint.{Beside, lights_of}
use Rattle.joint_run.specs.Run.{Board}
use Rattle.ctl_wire.specs.Wires.{Pc}
use Rattle.law_wires_agree.proofs.Got.{frame_shown}
use Rattle.law_wires_agree.proofs.CellByCell.{cycles_more}
use Rattle.law_wires_agree.specs.Cycles.{board_cycles}

-- eight bits that agree with those of a frame
bits_alike : (f g : ℕ → Bool) → ((k : ℕ) → k < 8 → f k ≡ g k) → value (read_bits f) ≡ value (read_bits g)
bits_alike f g h =
    let e0 : f 0 ≡ g 0 = h 0 (omega arith) in
    let e1 : f 1 ≡ g 1 = h 1 (omega arith) in
    let e2 : f 2 ≡ g 2 = h 2 (omega arith) in
    let e3 : f 3 ≡ g 3 = h 3 (omega arith) in
    let e4 : f 4 ≡ g 4 = h 4 (omega arith) in
    let e5 : f 5 ≡ g 5 = h 5 (omega arith) in
    let e6 : f 6 ≡ g 6 = h 6 (omega arith) in
    let e7 : f 7 ≡ g 7 = h 7 (omega arith) in
    rw (e0, e1, e2, e3, e4, e5, e6, e7) refl

-- the eight bits after the start bit of a byte's frame make the byte again
pub frame_value : (byte : ℕ) → byte < 256 → value (read_bits (λ k. frame_bit byte (k + 1))) ≡ byte
frame_value = by_byte (λ b. value (read_bits (λ k. frame_bit b (k + 1)))) (λ b. b) refl

-- the ninth bit after the start bit of a byte's frame is the byte's right parity
pub frame_parity : (byte : ℕ) → byte < 256 → is_parity (frame_bit byte 9) byte ≡ true
frame_parity = tests_by 256 (λ b. is_parity (frame_bit b 9) b) (λ b. true) refl

module _ (edges : List Edge) (events : List HostEvent) (d : Board) (to : d.State → Beside)
    (over : IsOver edges events d to) (bytes : List ℕ) (has : HasKernel bytes) (start : ℕ) (m : Cpu) (s : d.State)
    (f : ℕ → ℕ) (ring : List ℕ) (released : IsReleased m.p2) (small : m.a < 256) (lines : ℕ → Lines) (byte : ℕ)
    (few : byte < 256)
    (shown : lights_of m.p2 ≡ (to s).shown) (drives : Drives lines (260 + start) (received_latch m.p2) 366) where
  -- the PC's side after so many cycles of the frame
  abbrev pub pc_in : ℕ → Pc
  pc_in n = board_cycles events lines n (260 + start) (to s).pc

  -- the board then
  abbrev got_board : ℕ → d.State
  got_board n = driven d (260 + start) (received_latch m.p2) n 0 s

  -- after so many cycles of a received frame the PC's side is as the frame's lines leave it
  pub at_offset : (n : ℕ) → n ≤ 366 → to (got_board n) ≡ record { pc = pc_in n; shown = (to s).shown }
  at_offset n l =
      over_wires edges events d to over (260 + start) (received_latch m.p2) lines n s
      (λ o. received_lights m.p2 o released.byte ∙ shown) (λ o a. drives o (omega (arith, a, l)))

  abbrev wire : ℕ → Bool
  wire k = bit_read d bytes has (260 + start) m s f ring released small k

  module _ (asks : (pc_in 26).side.port.link ≡ Request byte) (requests : (pc_in 28).side.port.link ≡ Request byte)
      (high : (pc_in 28).clock ≡ true) where
    again_is : wire_again d bytes has (260 + start) m s f ring released small ≡ false
    again_is =
        ap (λ b. (d.pins m.p1 m.p2 (260 + start + 26) b).t1)
        (spans d (260 + start) (received_latch m.p2) 26 0 (260 + start) 0 m.p2 s s refl
        (λ i l. before_cells m.p2 i (omega (arith, l))) refl)
        ∙ data_is edges events d to over m.p1 m.p2 (260 + start + 26) (got_board 26)
        ∙ ap (λ c. c && (drive (to (got_board 26)).pc.side.port.link).dat) released.data_wire
        ∙ ap (λ (t : Beside). (drive t.pc.side.port.link).dat) (at_offset 26 (omega arith))
        ∙ ap (λ l. (drive l).dat) asks

    wire_is : (k : ℕ) → k < 10 → wire k ≡ frame_bit byte (k + 1)
    wire_is k l =
        let o : ℕ = 28 + 32 * k + 18 in
        let e : 28 + (32 * k + 18) ≡ 28 + 32 * k + 18 = omega arith in
        let p : 28 + (260 + start) ≡ 288 + start = omega arith in
        let near : o ≤ 366 = omega (arith, l) in
        let there : pc_in o ≡ board_cycles events lines (32 * k + 18) (288 + start) (pc_in 28) =
        cycles_more events lines 28 (32 * k + 18) o (260 + start) (to s).pc e
        ∙ ap (λ c. board_cycles events lines (32 * k + 18) c (pc_in 28)) p in
        data_is edges events d to over m.p1 m.p2 (260 + start + o) (got_board o)
        ∙ ap (λ c. c && (drive (to (got_board o)).pc.side.port.link).dat)
        released.data_wire
        ∙ ap (λ (t : Beside). (drive t.pc.side.port.link).dat) (at_offset o near)
        ∙ ap (λ (b : Pc). (drive b.side.port.link).dat) there
        ∙ frame_shown events lines (288 + start) byte received_bit (pc_in 28)
        (received_is_frame lines start m.p2 released drives) requests high k 17 l (omega arith)

    byte_is : byte_read d bytes has (260 + start) m s f ring released small ≡ byte
    byte_is = bits_alike wire (λ k. frame_bit byte (k + 1)) (λ k l. wire_is k (omega (arith, l))) ∙ frame_value byte few

    right_is : right_read d bytes has (260 + start) m s f ring released small ≡ true
    right_is =
        ap (λ b. is_parity (wire 8) b) byte_is ∙ ap (λ b. is_parity b byte) (wire_is 8 (omega arith))
        ∙ frame_parity byte few

    -- R4 is the controller's byte, R5 says that its parity was right; the PC's side has gone on by the cycles at its
    -- wires
    pub got_frame : IsFree m
        → Leads d (kernel_in true bytes) (260 + start) (begin_at d GOT f ring m s)
        (At d m COMMAND (got_cells f byte true) ring 366 (got_board 366))
    got_frame free =
        weaken d (kernel_in true bytes) (has_rows true bytes has) (260 + start)
        (At d m COMMAND (got_cells f (byte_read d bytes has (260 + start) m s f ring released small)
        (right_read d bytes has (260 + start) m s f ring released small)) ring 366 (got_board 366))
        (At d m COMMAND (got_cells f byte true) ring 366 (got_board 366))
        (begin_at d GOT f ring m s)
        (λ e a. record {
          cpu =
              a.cpu
              ∙ ap (λ b. scratched m COMMAND
              (memory (got_cells f b (right_read d bytes has (260 + start) m s f ring released small)) ring) e.cpu)
              byte_is
              ∙ ap (λ r. scratched m COMMAND (memory (got_cells f byte r) ring) e.cpu) right_is;
          off = a.off;
          now = a.now;
        })
        (received_frame d bytes has (260 + start) m s f ring released small free again_is)
