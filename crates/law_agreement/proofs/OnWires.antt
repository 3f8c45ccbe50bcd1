-- A tick whose board has gone on by its latch, at the wires of the joint board.
use Rattle.std.proofs.Common.{◌≡◌, ◌≤◌, ℕ, ◌+◌, ◌-◌, ◌*◌, List, refl, ap, sym, ◌∙◌, arith}
use Rattle.board_terms.specs.declared.event.Edge.{Edge}
use Rattle.board_terms.specs.declared.event.HostEvent.{HostEvent}
use Rattle.board_terms.specs.declared.lines.Lines.{Lines}
use Rattle.law_fw_keys.specs.Frameless.{latch_now}
use Rattle.law_fw_link.proofs.Board.{at_wires}
use Rattle.law_fw_link.specs.Latch.{Frame, tick_latch}
use Rattle.law_fw_link.proofs.Latches.{driven}
use Rattle.law_fw_link.proofs.Outside.{still_wires, lit_wires}
use Rattle.law_fw_link.proofs.Over.{IsOver, under, driven_over}
use Rattle.law_fw_link.proofs.TickLatch.{before_lights, before_data, lights_stay, lines_by, lines_are}
use Rattle.law_fw_link.proofs.Wired.{IsReleased, spans_on}
use Rattle.law_fw_logic.proofs.Blocks.{ticks_add}
use Rattle.joint_run.specs.Joint.{Beside, joint_board, latch_of, lights_of}
use Rattle.joint_run.specs.Run.{Board, World, after_cycles}
use Rattle.model_keyboard.specs.declared.meeting.Meeting.{Meeting}
use Rattle.ctl_wire.specs.Wires.{Pc}
use Rattle.law_wires_agree.proofs.CellByCell.{cycles_more}
use Rattle.law_wires_agree.specs.Cycles.{board_cycles}
use Rattle.law_wires_agree.specs.Ticks.{at_meeting}
use Rattle.law_agreement.proofs.Happened.{at_lights, at_look, AtWires}
use Rattle.law_agreement.proofs.Ran.{Ran}

module _ (edges : List Edge) (events : List HostEvent) (d : Board) (to : d.State → Beside)
    (over : IsOver edges events d to) (w : World d.State) (lit : lights_of w.cpu.p2 ≡ (to w.board).shown)
    (released : IsReleased (latch_now d w)) (frame : Frame) where
  abbrev v : ℕ
  v = latch_now d w

  abbrev x : ℕ
  x = w.cycle

  abbrev latch : ℕ → ℕ
  latch = tick_latch w.cpu.p2 v frame

  abbrev lines : ℕ → Lines
  lines = lines_by frame v x released

  abbrev joint : Board
  joint = joint_board edges events

  abbrev u : World Beside
  u = under to w

  -- the joint board so many cycles past the tick's start
  abbrev after : ℕ → Beside
  after n = driven joint x latch n 0 (to w.board)

  abbrev before : Beside
  before = record { pc = at_lights events u; shown = (to w.board).shown }

  abbrev there : Beside
  there = record { pc = at_look edges events u; shown = lights_of v }

  -- at the lights
  to_lights : after 232 ≡ before
  to_lights =
      sym (spans_on joint x latch 232 0 x w.cpu.p2 (to w.board) (to w.board) (omega arith)
      (λ i l. let z : 0 + i ≡ i = omega arith in ap latch z ∙ before_lights w.cpu.p2 v frame i l) refl)
      ∙ still_wires edges events (λ o. latch_of w.cpu.p2) 232 x w.cpu.p2 (to w.board) lit (λ o a b. refl)

  -- at the look at the clock
  to_look : after 256 ≡ there
  to_look =
      let a : x + 232 ≡ 232 + x = omega arith in
      sym (spans_on joint x latch 24 232 (x + 232) v (after 232) (to w.board) refl
      (λ i l. before_data w.cpu.p2 v frame i (omega (arith, l))) refl)
      ∙ ap (λ t. after_cycles 24 (x + 232) (joint.cycle v) t) to_lights
      ∙ ap (λ c. after_cycles 24 c (joint.cycle v) before) a
      ∙ lit_wires edges events (λ o. latch_of v) 23 (232 + x) v before (λ o l m. refl)

  -- and from there on
  pub after_clock : (k : ℕ)
      → to (driven d x latch (256 + k) 0 w.board)
      ≡ record { pc = board_cycles events lines k (256 + x) (at_look edges events u); shown = lights_of v }
  after_clock k =
      let a : x + 256 ≡ 256 + x = omega arith in
      driven_over edges events d to over x latch (256 + k) 0 w.board
      ∙ ticks_add 256 k 0 (λ o. joint.cycle (latch o) (x + o)) (to w.board)
      ∙ ap (λ t. driven joint x latch k 256 t) to_look
      ∙ at_wires edges events x latch lines k 256 there
      (λ o l m. lights_stay w.cpu.p2 v frame released.byte o (omega (arith, l)))
      (λ o l m. lines_are frame w.cpu.p2 v x released o (omega (arith, l)))
      ∙ ap (λ c. record { pc = board_cycles events lines k c (at_look edges events u); shown = lights_of v }) a

  -- at a look at the clock, by the state at the tick's
  pub at_clock_look : (look : ℕ) → (to (driven d x latch (260 + look) 0 w.board)).pc
      ≡ board_cycles events lines (4 + look) (256 + x) (at_look edges events u)
  at_clock_look look =
      let o : 260 + look ≡ 256 + (4 + look) = omega arith in
      ap (λ n. (to (driven d x latch n 0 w.board)).pc) o ∙ ap (λ (t : Beside). t.pc) (after_clock (4 + look))

  -- at the look of a cell, by the state at the first edge
  pub at_cell : (k : ℕ) → (to (driven d x latch (306 + 32 * k) 0 w.board)).pc
      ≡ board_cycles events lines (32 * k + 18) (288 + x) (at_meeting events lines x (at_look edges events u))
  at_cell k =
      let o : 306 + 32 * k ≡ 256 + (50 + 32 * k) = omega arith in
      let e : 32 + (32 * k + 18) ≡ 50 + 32 * k = omega arith in
      let a : 32 + (256 + x) ≡ 288 + x = omega arith in
      let first : Pc = at_meeting events lines x (at_look edges events u) in
      ap (λ n. (to (driven d x latch n 0 w.board)).pc) o ∙ ap (λ (t : Beside). t.pc) (after_clock (50 + 32 * k))
      ∙ cycles_more events lines 32 (32 * k + 18) (50 + 32 * k) (256 + x) (at_look edges events u) e
      ∙ ap (λ c. board_cycles events lines (32 * k + 18) c first) a

  -- a tick that went by its latch is a tick of the joint board at its wires
  pub on_wires : (bytes : List ℕ) (meeting : Meeting) (e : World d.State) → Ran d bytes meeting frame w e
      → AtWires edges events (lines_by frame (latch_now d w) w.cycle released) u (under to e)
  on_wires bytes meeting e h =
      let later : w.cycle + 2016 ≤ e.cycle = h.later in
      let k : ℕ = e.cycle - (256 + x) in
      record {
        shown = ap (λ (t : Beside). t.shown) (is k (omega (arith, later)));
        pc = λ k at. ap (λ (t : Beside). t.pc) (is k at);
      }
    where
      is : (k : ℕ) → e.cycle ≡ 256 + x + k
          → to e.board
          ≡ record { pc = board_cycles events lines k (256 + x) (at_look edges events u); shown = lights_of v }
      is k at = ap to (h.board (256 + k) (omega (arith, at))) ∙ after_clock k
