-- A sent frame on any board above the joint run's: where the controller leaves the clock alone at the looks it passes
-- whole, and at the look that shows the clock low it is cut.
use Rattle.std.proofs.Common.{◌≡◌, ◌≤◌, ◌<◌, ℕ, ◌+◌, List, Bool, true, false, ◌&&◌, ◌==◌}
use Rattle.std.proofs.Common.{bit_and, ap, sym, ◌∙◌, arith}
use Rattle.mcs48_core.specs.Cpu.{Cpu}
use Rattle.board_terms.specs.declared.event.Edge.{Edge}
use Rattle.board_terms.specs.declared.event.HostEvent.{HostEvent}
use Rattle.board_terms.specs.declared.lines.Lines.{Lines}
use Rattle.ctl_wire.specs.Wire.{drive}
use Rattle.fw_kernel.specs.declared.cells.TheConstants.{R2, R4, R5, R6}
use Rattle.fw_kernel.specs.Places.{HasKernel}
use Rattle.fw_kernel.specs.declared.labels.TheConstants.{SEND, SENT}
use Rattle.law_fw_logic.proofs.Block.{begin_at, At}
use Rattle.law_fw_logic.proofs.TimerParts.{IsFree}
use Rattle.law_fw_logic.proofs.Kernel.{kernel_in}
use Rattle.law_fw_logic.proofs.Leads.{Leads}
use Rattle.law_fw_link.specs.Latch.{IsLook, sent_latch, cut_latch, cut_after}
use Rattle.law_fw_link.proofs.Latches.{driven}
use Rattle.law_fw_link.proofs.Board.{over_wires, clock_is}
use Rattle.law_fw_link.proofs.Cut.{Cut, cut_frame, left_at_cut, as_sent}
use Rattle.law_fw_link.proofs.Frame.{sent_frame}
use Rattle.law_fw_link.proofs.Over.{IsOver}
use Rattle.law_fw_link.proofs.Sending.{sending, look}
use Rattle.law_fw_link.proofs.Wired.{IsReleased, ticks_alike}
use Rattle.law_fw_link.proofs.Wires.{Drives, look_up, look_within}
use Rattle.law_fw_link.proofs.WiresGot.{sent_lights, cut_lights}
use Rattle.joint_run.specs.Joint.{Beside, latch_of, lights_of}
use Rattle.joint_run.specs.Run.{Board}
use Rattle.ctl_wire.specs.Wires.{Pc}
use Rattle.law_wires_agree.specs.Cycles.{board_cycles}

module _ (edges : List Edge) (events : List HostEvent) (d : Board) (to : d.State → Beside)
    (over : IsOver edges events d to) (bytes : List ℕ) (has : HasKernel bytes) (start : ℕ) (m : Cpu) (s : d.State)
    (f : ℕ → ℕ) (ring : List ℕ) (v byte : ℕ) (released : IsReleased v) (small : byte < 256) (lines : ℕ → Lines)
    (shown : lights_of v ≡ (to s).shown) (out : m.p2 ≡ v) (data_low : f R2 ≡ bit_and v 253) (ready : f R6 ≡ byte)
    (offered : f R4 ≡ byte)
    (some : (f R5 == 0) ≡ false) where
  -- the PC's side after so many cycles of the frame, and what is beside the processor then
  abbrev pub pc_in : ℕ → Pc
  pc_in n = board_cycles events lines n (260 + start) (to s).pc

  abbrev there : ℕ → Beside
  there n = record { pc = pc_in n; shown = (to s).shown }

  -- whether the controller leaves the clock alone at a look
  abbrev pub lets : ℕ → Bool
  lets look = (drive (pc_in look).side.port.link).clk

  -- the board after so many cycles of a frame that is sent whole, and of one that is cut at a look
  abbrev sent_board : ℕ → d.State
  sent_board n = driven d (260 + start) (sent_latch v byte) n 0 s

  abbrev cut_board : ℕ → ℕ → d.State
  cut_board look n = driven d (260 + start) (cut_latch v byte look) n 0 s

  abbrev is_high : ℕ → Bool
  is_high o = look d bytes has (260 + start) m s f ring v byte released small o

  -- a look sees what the controller drives
  look_sees : (o : ℕ) → IsLook o → to (sent_board o) ≡ there o → is_high o ≡ lets o
  look_sees o look is =
      clock_is edges events d to over m.p1 (sent_latch v byte o) (260 + start + o) (sent_board o)
      ∙ ap (λ c. c && (drive (to (sent_board o)).pc.side.port.link).clk) (let z : o ≡ o + 0 = omega arith in ap (λ i. (latch_of (sent_latch v byte i)).clk) z ∙ look_up v byte released o look 0 (omega arith))
      ∙ ap (λ (z : Beside). (drive z.pc.side.port.link).clk) is

  module _ (drives : Drives lines (260 + start) (sent_latch v byte) 368) where
    -- after so many cycles of a sent frame the PC's side is as the frame's lines leave it
    pub at_offset : (n : ℕ) → n ≤ 368 → to (sent_board n) ≡ there n
    at_offset n l =
        over_wires edges events d to over (260 + start) (sent_latch v byte) lines n s
        (λ o. sent_lights v byte o released.byte ∙ shown) (λ o a. drives o (omega (arith, a, l)))

    -- the controller leaves the clock alone at all looks: the frame is sent whole
    pub sent_whole : ((o : ℕ) → IsLook o → lets o ≡ true) → IsFree m
        → Leads d (kernel_in true bytes) (260 + start) (begin_at d SEND f ring m s)
        (At d m SENT (sending f v byte 10 0 0) ring 368 (sent_board 368))
    sent_whole high free =
        sent_frame d bytes has (260 + start) m s f ring v byte released small free out data_low ready offered some
        (λ o look. look_sees o look (at_offset o (let far : o ≤ 334 = look_within o look in omega (arith, far))) ∙ high o look)

  -- it pulls the clock at a look, and at none before: the frame is cut there
  module _ (cut : ℕ) (is : IsLook cut) (drives : Drives lines (260 + start) (cut_latch v byte cut) (cut_after cut)) where
    -- after so many cycles of a frame that is cut the PC's side is as the frame's lines leave it
    pub at_cut : (n : ℕ) → n ≤ cut_after cut → to (cut_board cut n) ≡ there n
    at_cut n l =
        over_wires edges events d to over (260 + start) (cut_latch v byte cut) lines n s
        (λ o. cut_lights v byte cut o released.byte ∙ shown) (λ o a. drives o (omega (arith, a, l)))

    -- up to that look it is a frame that is sent
    still_sent : (n : ℕ) → n ≤ cut → to (sent_board n) ≡ there n
    still_sent n l =
        ap to (ticks_alike n 0 0 (λ o. d.cycle (sent_latch v byte o) (260 + start + o))
        (λ o. d.cycle (cut_latch v byte cut o) (260 + start + o)) s
        (λ i t u. let k : 0 + i < cut + 2 = omega (arith, u, l) in
        ap (λ w. d.cycle w (260 + start + (0 + i)) t) (sym (as_sent v byte cut (0 + i) k))))
        ∙ at_cut n (omega (arith, l))

    -- if the controller pulls the clock at a look, and at none before it, the frame is cut there
    pub sent_cut : ((o : ℕ) → IsLook o → o < cut → lets o ≡ true) → lets cut ≡ false → IsFree m
        → Leads d (kernel_in true bytes) (260 + start) (begin_at d SEND f ring m s)
        (Cut d bytes has (260 + start) m s f ring v byte released small cut (left_at_cut f byte cut is))
    sent_cut high low free =
        cut_frame d bytes has (260 + start) m s f ring v byte released small free out data_low ready offered some cut is
        (λ o look l. look_sees o look (still_sent o (omega (arith, l))) ∙ high o look l)
        (look_sees cut is (still_sent cut (omega arith)) ∙ low)
