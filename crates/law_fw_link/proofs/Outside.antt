-- Outside frames the latch of port 2 leaves both wires alone; and the lines of a whole tick.
use Rattle.std.proofs.Common.{◌≡◌, ◌≤◌, ◌<◌, ℕ, suc, zero, ◌+◌, ◌-◌, List, Bool, true, false, nat_lt, refl, ap}
use Rattle.std.proofs.Common.{sym, ◌∙◌, arith}
use Rattle.std.proofs.lemmas.Bool.Decides.{nat_tests}
use Rattle.board_terms.specs.declared.event.Edge.{Edge}
use Rattle.board_terms.specs.declared.event.HostEvent.{HostEvent}
use Rattle.board_terms.specs.declared.lines.Lines.{Lines}
use Rattle.law_fw_link.specs.Latch.{IsLook, frame_bit, sent_latch, cut_latch, cut_after, received_latch}
use Rattle.law_fw_link.proofs.Latches.{in_tick}
use Rattle.law_fw_link.proofs.Board.{one_cycle}
use Rattle.law_fw_link.proofs.Cut.{as_sent, as_cut}
use Rattle.law_fw_link.proofs.Wired.{IsReleased}
use Rattle.law_fw_link.proofs.Wires.{Drives, look_up, sent_is_frame, sent_before, sent_ends}
use Rattle.law_fw_link.proofs.WiresGot.{received_is_frame, received_before, received_ends, received_bit}
use Rattle.host_turn.specs.Run.{says_lights}
use Rattle.joint_run.specs.Joint.{Beside, latch_of, lights_of, joint_cycle, joint_board}
use Rattle.joint_run.specs.Run.{after_cycles}
use Rattle.ctl_wire.specs.Wires.{Pc, board_cycle}
use Rattle.law_wires_agree.specs.Cells.{IsUp, IsFrame}
use Rattle.law_wires_agree.specs.Cycles.{board_cycles}
use Rattle.law_wires_agree.specs.Ticks.{EndsFrame}

-- cycles in which the latch stays as it is, and its lights are shown already
pub still_wires : (edges : List Edge) (events : List HostEvent) (lines : ℕ → Lines) (n y v : ℕ) (s : Beside)
    → lights_of v ≡ s.shown → ((o : ℕ) → y ≤ o → o < y + n → lines o ≡ latch_of v)
    → after_cycles n y ((joint_board edges events).cycle v) s
    ≡ record { pc = board_cycles events lines n y s.pc; shown = s.shown }
still_wires edges events lines zero y v s lit is = refl
still_wires edges events lines (suc n) y v s lit is =
    let first : joint_cycle events v y s ≡ record { pc = board_cycle events y (lines y) s.pc; shown = s.shown } =
    one_cycle events v y s lit ∙ ap (λ q. record { pc = board_cycle events y q s.pc; shown = s.shown })
    (sym (is y (omega arith) (omega arith))) in
    let next : y + 1 ≡ suc y = omega arith in
    ap (λ t. after_cycles n (y + 1) (joint_cycle events v) t) first
    ∙ still_wires edges events lines n (y + 1) v
    (record { pc = board_cycle events y (lines y) s.pc; shown = s.shown }) lit
    (λ o a b. is o (omega (arith, a)) (omega (arith, b)))
    ∙ ap
    (λ c. record { pc = board_cycles events lines n c (board_cycle events y (lines y) s.pc); shown = s.shown }) next

-- a cycle in which the lights may change: they are said first
pub lit_cycle : (events : List HostEvent) (p2 now : ℕ) (s : Beside)
    → joint_cycle events p2 now s
    ≡ record {
      pc = board_cycle events now (latch_of p2) (record s.pc {
        side = says_lights now s.shown (lights_of p2) s.pc.side;
      });
      shown = lights_of p2;
    }
unfolding joint_cycle
lit_cycle events p2 now s = refl

-- the same for cycles in the first of which the lights may change
pub lit_wires : (edges : List Edge) (events : List HostEvent) (lines : ℕ → Lines) (n y v : ℕ) (s : Beside)
    → ((o : ℕ) → y ≤ o → o < y + suc n → lines o ≡ latch_of v)
    → after_cycles (suc n) y ((joint_board edges events).cycle v) s
    ≡ record {
      pc = board_cycles events lines (suc n) y (record s.pc { side = says_lights y s.shown (lights_of v) s.pc.side });
      shown = lights_of v;
    }
lit_wires edges events lines n y v s is =
    let said : Pc = record s.pc { side = says_lights y s.shown (lights_of v) s.pc.side } in
    let first : joint_cycle events v y s ≡ record { pc = board_cycle events y (lines y) said; shown = lights_of v } =
    lit_cycle events v y s ∙ ap (λ q. record { pc = board_cycle events y q said; shown = lights_of v })
    (sym (is y (omega arith) (omega arith))) in
    let next : y + 1 ≡ suc y = omega arith in
    ap (λ t. after_cycles n (y + 1) (joint_cycle events v) t) first
    ∙ still_wires edges events lines n (y + 1) v
    (record { pc = board_cycle events y (lines y) said; shown = lights_of v }) refl
    (λ o a b. is o (omega (arith, a)) (omega (arith, b)))
    ∙ ap
    (λ c. record { pc = board_cycles events lines n c (board_cycle events y (lines y) said); shown = lights_of v }) next

module _ (latch : ℕ → ℕ) (v start length : ℕ) where
  -- before the frame, in it, and after it
  pub before_frame : (o : ℕ) → o < 260 + start → in_tick latch v start length o ≡ v
  before_frame o l = let a : nat_lt o (260 + start) ≡ true = grind (arith, nat_tests, l) in rw a refl

  -- within a frame the latch of a tick is the frame's
  pub in_frame : (o : ℕ) → o < length → in_tick latch v start length (260 + start + o) ≡ latch o
  in_frame o l =
      let a : nat_lt (260 + start + o) (260 + start) ≡ false = grind (arith, nat_tests) in
      let b : nat_lt (260 + start + o) (260 + start + length) ≡ true = grind (arith, nat_tests, l) in
      let i : 260 + start + o - (260 + start) ≡ o = omega arith in
      rw (a, b, i) refl

  -- after a frame the latch of a tick pulls neither wire
  pub after_frame : (o : ℕ) → 260 + start + length ≤ o → in_tick latch v start length o ≡ v
  after_frame o l =
      let a : nat_lt o (260 + start) ≡ false = grind (arith, nat_tests, l) in
      let b : nat_lt o (260 + start + length) ≡ false = grind (arith, nat_tests, l) in
      rw (a, b) refl

-- where a frame is cut both wires are released from two cycles after the look on
pub cut_afterwards : (v start byte look o : ℕ) → 262 + look + start ≤ o
    → in_tick (cut_latch v byte look) v start (cut_after look) o ≡ v
cut_afterwards v start byte look o a = by_case (nat_lt o (266 + look + start)) refl
  where
    by_case : (c : Bool) → nat_lt o (266 + look + start) ≡ c
        → in_tick (cut_latch v byte look) v start (cut_after look) o ≡ v
    by_case true e =
        let i : ℕ = o - (262 + look + start) in
        let l : o < 266 + look + start = grind (arith, nat_tests, e) in
        let p : o ≡ 260 + start + (look + 2 + i) = omega (arith, a) in
        let short : look + 2 + i < cut_after look = omega (arith, l, a) in
        ap (λ c. in_tick (cut_latch v byte look) v start (cut_after look) c) p
        ∙ in_frame (cut_latch v byte look) v start (cut_after look) (look + 2 + i) short ∙ as_cut v byte look i
    by_case false e =
        let l : 266 + look + start ≤ o = grind (arith, nat_tests, e) in
        after_frame (cut_latch v byte look) v start (cut_after look) o (omega (arith, l))

module _ (v start : ℕ) (released : IsReleased v) where
  -- the lines of a tick with a frame
  abbrev pub lines_of : (ℕ → ℕ) → ℕ → ℕ → Lines
  lines_of latch length o = latch_of (in_tick latch v start length o)

  up_after : (latch : ℕ → ℕ) (length to : ℕ) → IsUp (lines_of latch length) (260 + start + length) to
  up_after latch length to o a b = ap (λ q. (latch_of q).clk) (after_frame latch v start length o a) ∙ released.clock

  up_before : (latch : ℕ → ℕ) (length : ℕ) → IsUp (lines_of latch length) (260 + start) (288 + start)
      → IsUp (lines_of latch length) (256 + start) (288 + start)
  up_before latch length up o a b = by_case (nat_lt o (260 + start)) refl
    where
      by_case : (c : Bool) → nat_lt o (260 + start) ≡ c → (lines_of latch length o).clk ≡ true
      by_case true e =
          let l : o < 260 + start = grind (arith, nat_tests, e) in
          ap (λ q. (latch_of q).clk) (before_frame latch v start length o l) ∙ released.clock
      by_case false e = up o (grind (arith, nat_tests, e)) b

  -- the lines of a tick drive the frame in its cycles
  pub drives_frame : (latch : ℕ → ℕ) (length : ℕ) → Drives (lines_of latch length) (260 + start) latch length
  drives_frame latch length o l = ap latch_of (in_frame latch v start length o l)

  -- what the laws of a tick ask of the lines: a tick that sends
  pub sent_lines : (byte rest : ℕ)
      → IsUp (lines_of (sent_latch v byte) 368) (256 + start) (288 + start)
      × IsFrame (lines_of (sent_latch v byte) 368) (288 + start) (frame_bit byte)
      × EndsFrame (lines_of (sent_latch v byte) 368) start rest
  sent_lines byte rest =
      let lines = lines_of (sent_latch v byte) 368 in
      let drives = drives_frame (sent_latch v byte) 368 in
      let p : 628 + start ≡ 260 + start + 368 = omega arith in (
        up_before (sent_latch v byte) 368 (sent_before lines start v released byte drives),
        sent_is_frame lines start v released byte drives,
        sent_ends lines start v released byte drives rest
            (λ o a b. up_after (sent_latch v byte) 368 (609 + rest + start) o (omega (arith, a, p)) b),
      )

  -- one that receives
  pub received_lines : (rest : ℕ)
      → IsUp (lines_of (received_latch v) 366) (256 + start) (288 + start)
      × IsFrame (lines_of (received_latch v) 366) (288 + start) received_bit
      × EndsFrame (lines_of (received_latch v) 366) start rest
  received_lines rest =
      let lines = lines_of (received_latch v) 366 in
      let drives = drives_frame (received_latch v) 366 in (
        up_before (received_latch v) 366 (received_before lines start v released drives),
        received_is_frame lines start v released drives,
        received_ends lines start v released drives rest
            (λ o a b. up_after (received_latch v) 366 (609 + rest + start) o (omega (arith, a)) b),
      )

  -- and one that is cut, from the look on
  pub cut_lines : (byte look rest : ℕ) → IsLook look
      → IsUp (lines_of (cut_latch v byte look) (cut_after look)) (260 + look + start) (609 + rest + start)
  cut_lines byte look rest at o a b = by_case (nat_lt o (262 + look + start)) refl
    where
      by_case : (c : Bool) → nat_lt o (262 + look + start) ≡ c
          → (lines_of (cut_latch v byte look) (cut_after look) o).clk ≡ true
      by_case true e =
          let i : ℕ = o - (260 + look + start) in
          let l : i < 2 = grind (arith, nat_tests, e, a) in
          let p : o ≡ 260 + start + (look + i) = omega (arith, a) in
          ap (λ c. (lines_of (cut_latch v byte look) (cut_after look) c).clk) p
          ∙ ap (λ q. (latch_of q).clk) (in_frame (cut_latch v byte look) v start (cut_after look) (look + i) (omega (arith, l))
          ∙ as_sent v byte look (look + i) (omega (arith, l)))
          ∙ look_up v byte released look at i l
      by_case false e =
          let l : 262 + look + start ≤ o = grind (arith, nat_tests, e) in
          ap (λ q. (latch_of q).clk) (cut_afterwards v start byte look o l) ∙ released.clock
