-- The board of a tick from the lights on: its first cycle may change the lights, and then they stay.
use Rattle.std.proofs.Common.{◌≡◌, ◌≤◌, ◌<◌, ℕ, ◌+◌, List, All, drop, refl, ap, ◌∙◌, arith}
use Rattle.board_terms.specs.declared.event.Edge.{Edge}
use Rattle.board_terms.specs.declared.event.HostEvent.{HostEvent}
use Rattle.board_terms.specs.declared.lines.Lines.{Lines}
use Rattle.fw_kernel.specs.Places.{HasKernel}
use Rattle.law_fw_keys.proofs.Begun.{IsAnyStart}
use Rattle.law_fw_keys.proofs.FramelessTick.{board3, held_before, cpu_at_head, shone_is}
use Rattle.law_fw_keys.proofs.Tick.{shining}
use Rattle.law_fw_keys.specs.Edges.{IsSilentAlike}
use Rattle.law_fw_keys.specs.Frameless.{cells_in, latch_now}
use Rattle.law_fw_link.proofs.Outside.{still_wires, lit_wires}
use Rattle.law_fw_link.proofs.Latches.{driven}
use Rattle.law_fw_link.proofs.Over.{IsOver, under, ticks_over}
use Rattle.law_fw_link.proofs.TickLatch.{before_lights}
use Rattle.law_fw_link.proofs.Wired.{spans_on}
use Rattle.law_fw_link.specs.Latch.{Frame, tick_latch}
use Rattle.law_fw_logic.proofs.Blocks.{ticks_add, joined}
use Rattle.law_fw_logic.proofs.Service.{stacked}
use Rattle.law_fw_logic.proofs.Timers.{TimerState}
use Rattle.law_fw_logic.specs.Scan.{in_tick}
use Rattle.mcs48_ranges.specs.Sizes.{IsByte}
use Rattle.joint_run.specs.Joint.{Beside, joint_board, latch_of, lights_of}
use Rattle.joint_run.specs.Run.{Board, World, after_cycles}
use Rattle.ctl_wire.specs.Wires.{Pc}
use Rattle.law_wires_agree.specs.Cycles.{board_cycles}
use Rattle.law_agreement.proofs.Happened.{at_lights, at_look}

-- at any board
module _ (d : Board) (bytes : List ℕ) (hk : HasKernel bytes) (alike : IsSilentAlike bytes)
    (small : All IsByte bytes)
    (low : (p1 p2 c : ℕ) (s : d.State) → (d.pins p1 p2 c s).bus < 256) (w : World d.State) (s : IsAnyStart w.cpu) where
  abbrev old : ℕ → d.State → d.State
  old = d.cycle w.cpu.p2

  abbrev new : ℕ → d.State → d.State
  new = d.cycle (latch_now d w)

  -- the board where the head of the tick ends, two cycles past the lights
  abbrev pub shine : TimerState → d.State
  shine l =
      shining d bytes hk alike small low (held_before d bytes hk alike small low w s) (w.cycle + 3)
      (cpu_at_head d bytes hk alike small low w s l)
      (board3 d bytes hk alike small low w s) (stacked (cells_in w.cpu.ram)) (drop 112 w.cpu.ram)

  -- the board so many cycles later
  pub from_lights : (l : TimerState) (n z : ℕ) → z ≡ w.cycle + 234
      → after_cycles n z new (shine l) ≡ after_cycles (2 + n) (w.cycle + 232) new (in_tick d w 232)
  from_lights l n z at =
      ap (λ b. after_cycles n z new b) (shone_is d bytes hk alike small low w s)
      ∙ joined 2 n (w.cycle + 232) z new (in_tick d w 232) (omega (arith, at))

  -- the board so many cycles past the tick's start, by the latch of a tick with a frame
  abbrev pub gone : Frame → ℕ → d.State
  gone frame n = driven d w.cycle (tick_latch w.cpu.p2 (latch_now d w) frame) n 0 w.board

  to_lights : (frame : Frame) → in_tick d w 232 ≡ gone frame 232
  to_lights frame =
      let latch : ℕ → ℕ = tick_latch w.cpu.p2 (latch_now d w) frame in
      spans_on d w.cycle latch 232 0 w.cycle w.cpu.p2 w.board w.board (omega arith)
      (λ i l. let z : 0 + i ≡ i = omega arith in ap latch z ∙ before_lights w.cpu.p2 (latch_now d w) frame i l) refl

  -- so it goes on from the head's end, while the latch stays
  pub from_head : (frame : Frame) (l : TimerState) (n : ℕ)
      → ((i : ℕ) → i < 2 + n → tick_latch w.cpu.p2 (latch_now d w) frame (232 + i) ≡ latch_now d w)
      → after_cycles n (w.cycle + 3 + 231) new (shine l) ≡ gone frame (234 + n)
  from_head frame l n still =
      let latch : ℕ → ℕ = tick_latch w.cpu.p2 (latch_now d w) frame in
      let at : 232 + (2 + n) ≡ 234 + n = omega arith in
      from_lights l n (w.cycle + 3 + 231) (omega arith)
      ∙ spans_on d w.cycle latch (2 + n) 232 (w.cycle + 232) (latch_now d w) (in_tick d w 232) w.board refl still
      (to_lights frame)
      ∙ ap (gone frame) at

-- any board above the joint board
module _ (edges : List Edge) (events : List HostEvent) (d : Board) (to : d.State → Beside)
    (over : IsOver edges events d to) where
  -- where its joint board is known 24 cycles behind, it is known from there on, over lines that leave both wires to the
  -- latch
  pub after_look : (lines : ℕ → Lines) (v start y j : ℕ) (s : d.State) (b : Pc) → y + 24 ≡ 256 + start
      → to (after_cycles 24 y (d.cycle v) s) ≡ record { pc = b; shown = lights_of v }
      → ((o : ℕ) → 256 + start ≤ o → o < 256 + start + j → lines o ≡ latch_of v)
      → to (after_cycles (24 + j) y (d.cycle v) s)
      ≡ record { pc = board_cycles events lines j (256 + start) b; shown = lights_of v }
  after_look lines v start y j s b at is still =
      let there : Beside = record { pc = b; shown = lights_of v } in
      ap to (ticks_add 24 j y (d.cycle v) s)
      ∙ ticks_over edges events d to over j (y + 24) v (after_cycles 24 y (d.cycle v) s)
      ∙ ap (λ t. after_cycles j (y + 24) ((joint_board edges events).cycle v) t) is
      ∙ ap (λ c. after_cycles j c ((joint_board edges events).cycle v) there) at
      ∙ still_wires edges events lines j (256 + start) v there refl still

  -- where the lights of the latch are those that are shown
  module _ (w : World d.State) (lit : lights_of w.cpu.p2 ≡ (to w.board).shown) where
    abbrev v : ℕ
    v = latch_now d w

    abbrev joint : ℕ → Beside → Beside
    joint = (joint_board edges events).cycle v

    -- the joint board's state of the run
    abbrev u : World Beside
    u = under to w

    abbrev before : Beside
    before = record { pc = at_lights events u; shown = (to w.board).shown }

    before_is : to (in_tick d w 232) ≡ before
    before_is =
        ticks_over edges events d to over 232 w.cycle w.cpu.p2 w.board
        ∙ still_wires edges events (λ o. latch_of w.cpu.p2) 232 w.cycle w.cpu.p2 (to w.board) lit (λ o a u. refl)

    -- what is beside the processor at the look at the clock
    pub at_clock : to (after_cycles 24 (w.cycle + 232) (d.cycle v) (in_tick d w 232))
        ≡ record { pc = at_look edges events u; shown = lights_of v }
    at_clock =
        let x = w.cycle in
        let a : x + 232 ≡ 232 + x = omega arith in
        ticks_over edges events d to over 24 (x + 232) v (in_tick d w 232)
        ∙ ap (λ t. after_cycles 24 (x + 232) joint t) before_is ∙ ap (λ c. after_cycles 24 c joint before) a
        ∙ lit_wires edges events (λ o. latch_of v) 23 (232 + x) v before (λ o a u. refl)
