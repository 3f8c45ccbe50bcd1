-- What the latch of a tick drives on both wires, whatever its lights.
use Rattle.std.proofs.Common.{◌≡◌, ℕ, suc, ◌+◌, ◌-◌, ◌/◌, ◌%◌, Bool, true, false, nat_le, nat_lt, ◌||◌, if◌then◌else◌, ap, sym, ◌∙◌}
use Rattle.board_terms.specs.declared.lines.Lines.{Lines}
use Rattle.law_fw_link.proofs.Wired.{IsReleased}
use Rattle.law_fw_link.proofs.Wires.{clock_of_latch, data_of_latch}
use Rattle.law_fw_link.specs.Latch.{Frame, NoFrame, SentFrame, CutFrame, ReceivedFrame, frame_bit, frame_cycles, frame_latch}
use Rattle.law_fw_link.specs.Latch.{sent_latch, tick_latch, wired}
use Rattle.joint_run.specs.Joint.{latch_of}
use Rattle.law_any_host.proofs.FrameLines.{let_go}
use Rattle.law_any_host.specs.Ticks.{frame_lines}

both : (a b : Lines) → a.clk ≡ b.clk → a.dat ≡ b.dat → a ≡ b
both a b c d =
    ap (λ (k : Bool). record { clk = k; dat = a.dat }) c ∙ ap (λ (k : Bool). record { clk = b.clk; dat = k }) d

module _ (v : ℕ) (r : IsReleased v) where
  high : latch_of v ≡ latch_of 255
  high = both (latch_of v) (latch_of 255) r.clock r.data_wire

  pulls : (c b : Bool) → latch_of (wired v c b) ≡ latch_of (wired 255 c b)
  pulls c b =
      both (latch_of (wired v c b)) (latch_of (wired 255 c b))
      (clock_of_latch c b v r ∙ sym (clock_of_latch c b 255 let_go))
      (data_of_latch c b v r ∙ sym (data_of_latch c b 255 let_go))

  chosen : (c : Bool) (a b a' b' : ℕ) → latch_of a ≡ latch_of a' → latch_of b ≡ latch_of b'
      → latch_of (if c then a else b) ≡ latch_of (if c then a' else b')
  chosen true a b a' b' p q = p
  chosen false a b a' b' p q = q

  sent : (byte i : ℕ) → latch_of (sent_latch v byte i) ≡ latch_of (sent_latch 255 byte i)
  sent byte i =
      let a : Bool = nat_le 16 ((i - 28) % 32) in
      let b : Bool = frame_bit byte (if nat_lt ((i - 28) % 32) 21 then (i - 28) / 32 else suc ((i - 28) / 32)) in
      chosen (nat_lt i 10) v (if nat_lt i 28 then wired v true false else wired v a b) 255
      (if nat_lt i 28 then wired 255 true false else wired 255 a b) high
      (chosen (nat_lt i 28) (wired v true false) (wired v a b) (wired 255 true false) (wired 255 a b) (pulls true false)
      (pulls a b))

  in_frame : (frame : Frame) (i : ℕ) → latch_of (frame_latch frame v i) ≡ latch_of (frame_latch frame 255 i)
  in_frame NoFrame i = high
  in_frame (SentFrame byte) i = sent byte i
  in_frame (CutFrame byte look) i =
      chosen (nat_lt i (look + 2)) (sent_latch v byte i) v (sent_latch 255 byte i) 255 (sent byte i) high
  in_frame ReceivedFrame i =
      let k : ℕ = (i - 28) / 32 in
      let o : ℕ = (i - 28) % 32 in
      let a : Bool = nat_le 16 o in
      let b : Bool = if nat_lt k 10 then nat_lt o 20 || nat_lt k 9 else nat_le 16 o in
      chosen (nat_lt i 28) v (wired v a b) 255 (wired 255 a b) high (pulls a b)

  -- the latch of a tick drives the frame's lines, whatever lights it shows
  pub same_lines : (old : ℕ) → IsReleased old → (frame : Frame) (o : ℕ)
      → latch_of (tick_latch old v frame o) ≡ frame_lines frame o
  same_lines old was frame o =
      let f : ℕ = frame_latch frame v (o - 260) in
      let g : ℕ = frame_latch frame 255 (o - 260) in
      let rest : ℕ = if nat_lt o (260 + frame_cycles frame) then f else v in
      let rest' : ℕ = if nat_lt o (260 + frame_cycles frame) then g else 255 in
      chosen (nat_lt o 232) old (if nat_lt o 260 then v else rest) 255 (if nat_lt o 260 then 255 else rest')
      (both (latch_of old) (latch_of 255) was.clock was.data_wire)
      (chosen (nat_lt o 260) v rest 255 rest' high
      (chosen (nat_lt o (260 + frame_cycles frame)) f v g 255 (in_frame frame (o - 260)) high))
