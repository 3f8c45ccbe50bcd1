-- What a tick of the joint run comes to, whatever its meeting: the keyboard that memory shows is a tick of the model
-- later, and the PC's side has gone on by the cycles at its wires.
use Rattle.std.specs.Prelude.{◌≡◌, ℕ, ◌+◌, List}
use Rattle.board_terms.specs.declared.event.Edge.{Edge}
use Rattle.board_terms.specs.declared.event.HostEvent.{HostEvent}
use Rattle.board_terms.specs.declared.lines.Lines.{Lines}
use Rattle.law_fw_keys.specs.Edges.{image_keys}
use Rattle.law_fw_keys.specs.Frameless.{IsStarted, IsRepeating, shown_by, layers_by, layers_met, read_by, edges_now, latch_now}
use Rattle.law_fw_keys.specs.State.{held_by}
use Rattle.law_fw_logic.specs.Ticks.{column_read}
use Rattle.law_fw_link.specs.Latch.{Frame, tick_latch}
use Rattle.law_fw_link.proofs.Latches.{driven}
use Rattle.law_fw_logic.proofs.Passing.{Passes}
use Rattle.host_turn.specs.Run.{says_lights}
use Rattle.joint_run.specs.Joint.{Beside, joint_board, latch_of, lights_of}
use Rattle.joint_run.specs.Run.{Board, World}
use Rattle.model_keyboard.specs.Layers.{layered, all_layers_after}
use Rattle.model_keyboard.specs.Tick.{ticked}
use Rattle.model_keyboard.specs.declared.meeting.Meeting.{Meeting}
use Rattle.ctl_wire.specs.Wires.{Pc}
use Rattle.law_wires_agree.specs.Cycles.{board_cycles}

-- the latch of port 2 from the lights on, where no frame drives it
abbrev pub lit_latch : List Edge → List HostEvent → World Beside → ℕ
lit_latch edges events w = latch_now (joint_board edges events) w

-- the PC's side when the lights are put, 232 cycles past the tick's start, and at the look at the clock, 24 cycles
-- later
abbrev pub at_lights : List HostEvent → World Beside → Pc
at_lights events w = board_cycles events (λ o. latch_of w.cpu.p2) 232 w.cycle w.board.pc

abbrev pub at_look : List Edge → List HostEvent → World Beside → Pc
at_look edges events w =
    board_cycles events (λ o. latch_of (lit_latch edges events w)) 24 (232 + w.cycle)
    (record (at_lights events w) {
      side = says_lights (232 + w.cycle) w.board.shown (lights_of (lit_latch edges events w)) (at_lights events w).side;
    })

-- from tick start w to tick start v on any board, with this meeting and this frame: the keyboard and the layers that memory
-- shows have gone on, and the board by the tick's latch, cycle by cycle
pub record Happened (d : Board) (bytes : List ℕ) (meeting : Meeting) (frame : Frame) (w v : World d.State)
    : Type 0 where
  pub started : IsStarted v.cpu
  pub time : v.cycle + w.cpu.pre ≡ w.cycle + 2048 + v.cpu.pre
  pub keyboard : shown_by v.cpu.ram ≡ ticked (image_keys bytes) meeting
      (layered (image_keys bytes).is_fn (edges_now bytes d w) (layers_met bytes meeting w.cpu.ram)) (shown_by w.cpu.ram)
  pub layers : layers_by v.cpu.ram
      ≡ all_layers_after (image_keys bytes).is_fn (edges_now bytes d w) (layers_met bytes meeting w.cpu.ram)
  pub read : read_by bytes v.cpu.ram ≡ held_by (column_read d w)
  pub repeating : IsRepeating bytes v.cpu.ram
  pub latch : v.cpu.p2 ≡ latch_now d w
  pub passes : Passes d bytes w
  pub board : (n : ℕ) → v.cycle ≡ w.cycle + n
      → v.board ≡ driven d w.cycle (tick_latch w.cpu.p2 (latch_now d w) frame) n 0 w.board

-- so it has gone on by the latch of a tick with this frame
pub record GoesBy (d : Board) (frame : Frame) (w v : World d.State) : Type 0 where
  pub latch : v.cpu.p2 ≡ latch_now d w
  pub length : ℕ
  pub cycles : v.cycle ≡ w.cycle + length
  pub board : v.board ≡ driven d w.cycle (tick_latch w.cpu.p2 (latch_now d w) frame) length 0 w.board

-- what that comes to at the wires of the joint board
pub record AtWires (edges : List Edge) (events : List HostEvent) (lines : ℕ → Lines) (w v : World Beside)
    : Type 0 where
  pub shown : v.board.shown ≡ lights_of (lit_latch edges events w)
  pub pc : (k : ℕ) → v.cycle ≡ 256 + w.cycle + k
      → v.board.pc ≡ board_cycles events lines k (256 + w.cycle) (at_look edges events w)
