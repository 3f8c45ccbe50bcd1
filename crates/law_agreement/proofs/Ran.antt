-- What a tick comes to, however late it starts and whatever the keys do.
use Rattle.std.specs.Prelude.{◌≡◌, ◌≤◌, ℕ, ◌+◌, List, length}
use Rattle.law_fw_keys.proofs.Begun.{IsAnyStart}
use Rattle.law_fw_keys.specs.Edges.{image_keys}
use Rattle.law_fw_keys.specs.Frameless.{IsStarted, IsRepeating, shown_by, layers_by, layers_met, read_by, edges_now, latch_now}
use Rattle.law_fw_keys.specs.State.{held_by}
use Rattle.law_fw_logic.specs.Ticks.{column_read}
use Rattle.law_fw_link.proofs.Latches.{driven}
use Rattle.law_fw_link.specs.Latch.{Frame, tick_latch}
use Rattle.law_fw_logic.proofs.Passing.{Passes}
use Rattle.joint_run.specs.Run.{Board, World}
use Rattle.model_keyboard.specs.Layers.{layered, all_layers_after}
use Rattle.model_keyboard.specs.Tick.{ticked}
use Rattle.model_keyboard.specs.declared.meeting.Meeting.{Meeting}
use Rattle.law_agreement.proofs.Happened.{Happened}
use Rattle.law_agreement.specs.AnyKeys.{longest_tick, shortest_tick, tick_with}

-- from tick start w to tick start v: as a tick in time, but for its length, if the next start isn't in time
pub record Ran (d : Board) (bytes : List ℕ) (meeting : Meeting) (frame : Frame) (w v : World d.State) : Type 0 where
  pub started : IsAnyStart v.cpu
  pub later : w.cycle + shortest_tick ≤ v.cycle
  pub soon : v.cycle ≤ w.cycle + longest_tick bytes
  pub by_keys : v.cycle ≤ w.cycle + tick_with bytes (length (edges_now bytes d w))
  pub prompt : IsStarted w.cpu → length (edges_now bytes d w) ≤ 4
      → IsStarted v.cpu × (v.cycle + w.cpu.pre ≡ w.cycle + 2048 + v.cpu.pre)
  pub settles : length (edges_now bytes d w) ≤ 4 → IsStarted v.cpu
  pub keyboard : shown_by v.cpu.ram ≡ ticked (image_keys bytes) meeting
      (layered (image_keys bytes).is_fn (edges_now bytes d w) (layers_met bytes meeting w.cpu.ram)) (shown_by w.cpu.ram)
  pub layers : layers_by v.cpu.ram ≡ all_layers_after (image_keys bytes).is_fn (edges_now bytes d w) (layers_met bytes meeting w.cpu.ram)
  pub read : read_by bytes v.cpu.ram ≡ held_by (column_read d w)
  pub repeating : IsRepeating bytes v.cpu.ram
  pub latch : v.cpu.p2 ≡ latch_now d w
  pub passes : Passes d bytes w
  pub board : (n : ℕ) → v.cycle ≡ w.cycle + n
      → v.board ≡ driven d w.cycle (tick_latch w.cpu.p2 (latch_now d w) frame) n 0 w.board

-- how long the tick was
pub record Lasted (d : Board) (bytes : List ℕ) (w v : World d.State) : Type 0 where
  pub later : w.cycle + shortest_tick ≤ v.cycle
  pub by_keys : v.cycle ≤ w.cycle + tick_with bytes (length (edges_now bytes d w))
  pub prompt : IsStarted w.cpu → length (edges_now bytes d w) ≤ 4
      → IsStarted v.cpu × (v.cycle + w.cpu.pre ≡ w.cycle + 2048 + v.cpu.pre)
  pub settles : length (edges_now bytes d w) ≤ 4 → IsStarted v.cpu

-- a tick as the model's lasts no longer than its changed keys need, and after four or fewer the next start is in time
pub lasted : (d : Board) (bytes : List ℕ) (meeting : Meeting) (frame : Frame) (w v : World d.State)
    → Ran d bytes meeting frame w v → Lasted d bytes w v
lasted d bytes meeting frame w v r =
    record { later = r.later; by_keys = r.by_keys; prompt = r.prompt; settles = r.settles }

-- one that starts in time, with four edges at most, is in time
pub in_time : (d : Board) (bytes : List ℕ) (meeting : Meeting) (frame : Frame) (w v : World d.State) → IsStarted w.cpu
    → length (edges_now bytes d w) ≤ 4 → Ran d bytes meeting frame w v → Happened d bytes meeting frame w v
in_time d bytes meeting frame w v started few r =
    let p = r.prompt started few in
    record {
      started = p.0;
      time = p.1;
      keyboard = r.keyboard;
      layers = r.layers;
      read = r.read;
      repeating = r.repeating;
      latch = r.latch;
      passes = r.passes;
      board = r.board;
    }
