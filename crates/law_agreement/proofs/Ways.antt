-- The ways that a tick goes on any board above the joint board, by the PC's side at the look at the clock: what it
-- drives is what the looks find.
use Rattle.std.proofs.Common.{◌≡◌, ◌<◌, ℕ, ◌+◌, ◌*◌, ◌&&◌, ◌==◌, List, All, true, false}
use Rattle.std.proofs.Common.{Some, None, refl, ap, ◌∙◌, inl, inr, arith}
use Rattle.board_terms.specs.declared.event.Edge.{Edge}
use Rattle.board_terms.specs.declared.event.HostEvent.{HostEvent}
use Rattle.board_terms.specs.declared.lines.Lines.{Lines}
use Rattle.ctl_link.specs.declared.link.Link.TheVariants.{Free, Request}
use Rattle.ctl_wire.specs.Wire.{drive}
use Rattle.fw_kernel.specs.Places.{HasKernel}
use Rattle.fw_kernel.specs.declared.labels.TheConstants.{TICK}
use Rattle.law_fw_keys.specs.Edges.{IsSilentAlike}
use Rattle.law_fw_keys.proofs.Begun.{IsAnyStart}
use Rattle.law_fw_keys.specs.Frameless.{shown_by, IsRepeating, latch_now, clock_now, data_now, data_again}
use Rattle.law_fw_link.proofs.Board.{clock_is, data_is}
use Rattle.law_fw_link.proofs.Got.{frame_value, frame_parity}
use Rattle.law_fw_link.proofs.Outside.{received_lines}
use Rattle.law_fw_link.proofs.Over.{IsOver, under}
use Rattle.law_fw_link.proofs.Receive.{is_parity}
use Rattle.law_fw_link.proofs.TickLatch.{lines_by}
use Rattle.law_fw_link.proofs.Wired.{IsReleased}
use Rattle.law_fw_link.proofs.Wires.{look_up}
use Rattle.law_fw_link.proofs.Lets.{lets_at}
use Rattle.law_fw_link.proofs.WiresGot.{received_bit}
use Rattle.law_fw_link.specs.Latch.{Frame, NoFrame, SentFrame, CutFrame, ReceivedFrame, IsLook, frame_bit, sent_latch, tick_latch}
use Rattle.law_fw_logic.specs.Scan.{in_tick}
use Rattle.mcs48_ranges.specs.Sizes.{IsByte}
use Rattle.joint_run.specs.Joint.{Beside, latch_of, lights_of}
use Rattle.joint_run.specs.Run.{Board, World, after_cycles}
use Rattle.joint_run.specs.Starts.{Tick}
use Rattle.model_keyboard.proofs.CodesAreWhole.{IsWhole}
use Rattle.model_keyboard.specs.Keyboard.{Keyboard, offer}
use Rattle.model_keyboard.specs.declared.meeting.Meeting.{Meeting}
use Rattle.model_keyboard.specs.declared.meeting.Meeting.TheVariants.{Idle, Inhibited, Sent, Cut, Got}
use Rattle.ctl_wire.specs.Wires.{Pc}
use Rattle.law_wires_agree.proofs.Got.{frame_shown}
use Rattle.law_wires_agree.proofs.Meetings.{request_at, requests}
use Rattle.law_wires_agree.proofs.Spans.{IsAt}
use Rattle.law_wires_agree.specs.Cycles.{board_cycles}
use Rattle.law_wires_agree.specs.Ticks.{at_meeting}
use Rattle.law_agreement.proofs.AnyTick.{released, quiet, sent, cut, got}
use Rattle.law_agreement.proofs.AtLook.{one_byte, sent_at, received_at}
use Rattle.law_agreement.proofs.Happened.{at_look}
use Rattle.law_agreement.proofs.Lit.{at_clock, after_look}
use Rattle.law_agreement.proofs.OnWires.{at_cell, at_clock_look}
use Rattle.law_agreement.proofs.Ran.{Ran}
use Rattle.law_agreement.proofs.Seen.{at_data, free_shows, request_shows}
use Rattle.law_agreement.specs.Firmware.{Offers, clock_in, data_in, board_at}

module _ (edges : List Edge) (events : List HostEvent) (d : Board) (to : d.State → Beside)
    (over : IsOver edges events d to) (bytes : List ℕ) (hk : HasKernel bytes) (alike : IsSilentAlike bytes)
    (small : All IsByte bytes)
    (low : (p1 p2 c : ℕ) (s : d.State) → (d.pins p1 p2 c s).bus < 256) (w : World d.State)
    (s : IsAnyStart w.cpu) (repeats : IsRepeating bytes w.cpu.ram)
    (lit : lights_of w.cpu.p2 ≡ (to w.board).shown) where
  -- the latch from the lights on, the tick's start, the PC's side at the look at the clock, and the keyboard
  abbrev v : ℕ
  v = latch_now d w

  abbrev start : ℕ
  start = w.cycle

  abbrev b : Pc
  b = at_look edges events (under to w)

  abbrev kbd : Keyboard
  kbd = shown_by w.cpu.ram

  abbrev free_latch : IsReleased v
  free_latch = released d bytes hk alike small low w s repeats

  abbrev So : Meeting → Frame → World d.State → Type 0
  So meeting frame u = Ran d bytes meeting frame w u

  -- the look at the clock, and that at data two cycles later
  sees_clock : clock_now d w ≡ (drive b.side.port.link).clk
  sees_clock =
      clock_is edges events d to over 44 v (start + 232 + 24) (after_cycles 24 (start + 232) (d.cycle v) (in_tick d w 232))
      ∙ ap (λ (t : Beside). (latch_of v).clk && (drive t.pc.side.port.link).clk) (at_clock edges events d to over w lit)
      ∙ ap (λ c. c && (drive b.side.port.link).clk) free_latch.clock

  abbrev later : Pc
  later = at_data events v start free_latch b

  sees_data : data_now d w ≡ (drive later.side.port.link).dat
  sees_data =
      data_is edges events d to over 44 v (start + 232 + 26) (after_cycles 26 (start + 232) (d.cycle v) (in_tick d w 232))
      ∙ ap (λ (t : Beside). (latch_of v).dat && (drive t.pc.side.port.link).dat)
      (after_look edges events d to over (λ o. latch_of v) v start (start + 232) 2 (in_tick d w 232) b (omega arith)
      (at_clock edges events d to over w lit) (λ o a u. refl))
      ∙ ap (λ c. c && (drive later.side.port.link).dat) free_latch.data_wire

  -- a request is still there at the second look at data, 28 cycles after the first
  asks_again : (byte : ℕ) → b.side.port.link ≡ Request byte → data_again d w ≡ false
  asks_again byte asks =
      let later : Pc = board_cycles events (λ o. latch_of v) 30 (256 + start) b in
      data_is edges events d to over 44 v (start + 232 + 54) (after_cycles 54 (start + 232) (d.cycle v) (in_tick d w 232))
      ∙ ap (λ (t : Beside). (latch_of v).dat && (drive t.pc.side.port.link).dat)
      (after_look edges events d to over (λ o. latch_of v) v start (start + 232) 30 (in_tick d w 232) b (omega arith)
      (at_clock edges events d to over w lit) (λ o a u. refl))
      ∙ ap (λ c. c && (drive later.side.port.link).dat) free_latch.data_wire
      ∙ ap (λ l. (drive l).dat) (requests events (λ o. latch_of v) 30 (256 + start) b byte (λ o a u. free_latch.clock) asks)

  -- the power-on test runs
  pub testing : (kbd.test == 0) ≡ false → Tick d TICK bytes w (So Idle NoFrame)
  testing runs = quiet d bytes hk alike small low w s repeats Idle (inl runs)

  -- the link is free, and nothing is offered
  pub idle : (kbd.test == 0) ≡ true → b.side.port.link ≡ Free → offer kbd ≡ None
      → Tick d TICK bytes w (So Idle NoFrame)
  idle no_test free none =
      quiet d bytes hk alike small low w s repeats Idle (inr (inl (
        no_test,
        sees_clock ∙ ap (λ q. (drive q).clk) free,
        sees_data ∙ free_shows events v start free_latch b free,
        none,
      )))

  -- the controller holds the clock
  pub inhibited : (kbd.test == 0) ≡ true → (drive b.side.port.link).clk ≡ false
      → Tick d TICK bytes w (So Inhibited NoFrame)
  inhibited no_test holds = quiet d bytes hk alike small low w s repeats Inhibited (no_test, sees_clock ∙ holds)

  -- the lines of a tick with a frame; and what is beside the processor at a look of it
  abbrev lines : Frame → ℕ → Lines
  lines frame = lines_by frame v start free_latch

  cell_is : (frame : Frame) (k : ℕ) → (to (board_at d w frame (306 + 32 * k))).pc
      ≡ board_cycles events (lines frame) (32 * k + 18) (288 + start) (at_meeting events (lines frame) start b)
  cell_is frame k = at_cell edges events d to over w lit free_latch frame k

  -- the looks at the clock in a sent frame see whether the controller leaves it alone
  sees_look : (byte look : ℕ) → IsLook look → clock_in d w byte look ≡ lets_at events (lines (SentFrame byte)) start b look
  sees_look byte look is =
      let frame : Frame = SentFrame byte in
      let put : ℕ = tick_latch w.cpu.p2 v frame (260 + look) in
      let q : d.State = board_at d w frame (260 + look) in
      let z : look ≡ look + 0 = omega arith in
      let high : (latch_of put).clk ≡ true =
      ap (λ l. (latch_of l).clk) (sent_at w.cpu.p2 v byte look is ∙ ap (sent_latch v byte) z)
      ∙ look_up v byte free_latch look is 0 (omega arith) in
      clock_is edges events d to over 44 put (start + (260 + look)) q
      ∙ ap (λ c. c && (drive (to q).pc.side.port.link).clk) high
      ∙ ap (λ (p : Pc). (drive p.side.port.link).clk) (at_clock_look edges events d to over w lit free_latch frame look)

  module _ (byte : ℕ) (no_test : (kbd.test == 0) ≡ true) (is : offer kbd ≡ Some byte) (free : b.side.port.link ≡ Free)
    where
      offers : Offers d w byte
      offers = (
        (no_test, sees_clock ∙ ap (λ q. (drive q).clk) free),
        sees_data ∙ free_shows events v start free_latch b free,
        is,
      )

      -- what is offered is sent whole: the link is free at the look, and the controller leaves the clock alone at all
      -- looks of the frame
      sends_so : IsWhole kbd.queue
          → ((look : ℕ) → IsLook look → lets_at events (lines (SentFrame byte)) start b look ≡ true)
          → Tick d TICK bytes w (So Sent (SentFrame byte))
      sends_so codes high =
          sent d bytes hk alike small low w s repeats byte codes offers (λ look is. sees_look byte look is ∙ high look is)

      -- the controller pulls the clock at a look, and at none before: the frame is cut there
      cut_so : (look : ℕ) → IsLook look
          → ((earlier : ℕ) → IsLook earlier → earlier < look → lets_at events (lines (SentFrame byte)) start b earlier ≡ true)
          → lets_at events (lines (SentFrame byte)) start b look ≡ false
          → Tick d TICK bytes w (So Cut (CutFrame byte look))
      cut_so look is high pulls =
          cut d bytes hk alike small low w s repeats byte look offers is
          (λ earlier at l. sees_look byte earlier at ∙ high earlier at l) (sees_look byte look is ∙ pulls)

  -- if a byte is offered, the link is free and the controller leaves the clock alone, the tick sends the byte
  pub sends : (byte : ℕ) → (kbd.test == 0) ≡ true → offer kbd ≡ Some byte → IsWhole kbd.queue → b.side.port.link ≡ Free
      → ((look : ℕ) → IsLook look → lets_at events (lines_by (SentFrame byte) v start free_latch) start b look ≡ true)
      → Tick d TICK bytes w (So Sent (SentFrame byte))
  sends byte no_test is codes free high = sends_so byte no_test is free codes high

  -- if the controller pulls the clock at a look of the frame, and at none before it, the tick's byte is cut
  pub is_cut : (byte look : ℕ) → IsLook look → (kbd.test == 0) ≡ true → offer kbd ≡ Some byte
      → b.side.port.link ≡ Free
      → ((earlier : ℕ) → IsLook earlier → earlier < look
      → lets_at events (lines_by (SentFrame byte) v start free_latch) start b earlier ≡ true)
      → lets_at events (lines_by (SentFrame byte) v start free_latch) start b look ≡ false
      → Tick d TICK bytes w (So Cut (CutFrame byte look))
  is_cut byte look at no_test is free high pulls = cut_so byte no_test is free look at high pulls

  -- the controller's byte is received
  module _ (byte : ℕ) (less : byte < 256) (asks : b.side.port.link ≡ Request byte) where
    abbrev received : ℕ → Lines
    received = lines ReceivedFrame

    requested : IsAt (at_meeting events received start b) (Request byte) true
    requested =
        request_at events received (256 + start) b byte
        (λ o a u. (received_lines v start free_latch 0).0 o a (omega (arith, u))) asks

    sees_bit : (k : ℕ) → k < 10 → data_in d w k ≡ frame_bit byte (k + 1)
    sees_bit k room =
        let put : ℕ = tick_latch w.cpu.p2 v ReceivedFrame (306 + 32 * k) in
        let q : d.State = board_at d w ReceivedFrame (306 + 32 * k) in
        let high : (latch_of put).dat ≡ true =
        ap (λ l. (latch_of l).dat) (received_at w.cpu.p2 v free_latch k room) ∙ free_latch.data_wire in
        data_is edges events d to over 44 put (start + (306 + 32 * k)) q
        ∙ ap (λ c. c && (drive (to q).pc.side.port.link).dat) high
        ∙ ap (λ (p : Pc). (drive p.side.port.link).dat) (cell_is ReceivedFrame k)
        ∙ frame_shown events received (288 + start) byte received_bit (at_meeting events received start b)
        (received_lines v start free_latch 0).1 requested.link_is requested.clock_is k 17 room (omega arith)

    gets_so : (kbd.test == 0) ≡ true → Tick d TICK bytes w (So (Got byte true) ReceivedFrame)
    gets_so no_test =
        let same = one_byte (data_in d w) (λ k. frame_bit byte (k + 1)) (λ k u. sees_bit k (omega (arith, u))) in
        got d bytes hk alike small low w s repeats byte true (same.0 ∙ frame_value byte less)
        (same.1 ∙ ap (λ n. is_parity (frame_bit byte 9) n) (frame_value byte less) ∙ frame_parity byte less)
        (no_test, sees_clock ∙ ap (λ q. (drive q).clk) asks)
        (sees_data ∙ request_shows events v start free_latch b byte asks) (asks_again byte asks)

  -- if the controller requests to send a byte, the tick gets the byte, with right parity
  pub gets : (byte : ℕ) → byte < 256 → (kbd.test == 0) ≡ true → b.side.port.link ≡ Request byte
      → Tick d TICK bytes w (So (Got byte true) ReceivedFrame)
  gets byte less no_test asks = gets_so byte less asks no_test
