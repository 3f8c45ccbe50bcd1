-- What a tick of the firmware does on any board, in the words of its law.
use Rattle.std.proofs.Common.{◌≡◌, ◌≤◌, ◌<◌, ℕ, ◌-◌, ◌%◌, ◌==◌, ◌&&◌, not, true, List, All, length, refl, ap, sym, ◌∙◌, subst}
use Rattle.fw_kernel.specs.Places.{HasKernel}
use Rattle.fw_kernel.specs.declared.labels.TheConstants.{TICK}
use Rattle.law_fw_keys.proofs.Carried.{edges_low}
use Rattle.law_fw_keys.proofs.Healing.{pressed_by}
use Rattle.law_fw_keys.proofs.Kept.{Sound, tick_sound}
use Rattle.law_fw_keys.specs.Edges.{image_keys, IsSilentAlike}
use Rattle.law_fw_keys.specs.Frameless.{shown_by, layers_by, layers_met, IsStarted, IsRepeating, edges_now, changed_now}
use Rattle.law_fw_logic.specs.Ticks.{column_read}
use Rattle.law_fw_link.specs.Latch.{Frame}
use Rattle.law_fw_logic.proofs.Entered.{entered_served}
use Rattle.law_fw_logic.proofs.Sweep.{selects_from, column_from}
use Rattle.law_fw_logic.specs.Boards.{numbered}
use Rattle.law_fw_logic.specs.Selecting.{column_latch, Selects}
use Rattle.mcs48_ranges.specs.Sizes.{IsByte}
use Rattle.joint_run.specs.Run.{Board, World, seen}
use Rattle.joint_run.specs.Starts.{at_tick, Tick}
use Rattle.mcs48_core.specs.Step.{takes_external, takes_timer}
use Rattle.model_keyboard.specs.Keyboard.{Keyboard}
use Rattle.model_keyboard.specs.declared.meeting.Meeting.{Meeting}
use Rattle.law_agreement.proofs.Timely.{every}
use Rattle.law_agreement.proofs.Happened.{Happened}
use Rattle.law_agreement.specs.Firmware.{Finds, Does, HasWholeCodes, HasNoPrefix, TickLaw}

module _ (d : Board) (bytes : List ℕ) (hk : HasKernel bytes) (alike : IsSilentAlike bytes) (codes : HasNoPrefix bytes)
    (small : All IsByte bytes) (low : (p1 p2 c : ℕ) (s : d.State) → (d.pins p1 p2 c s).bus < 256) (w : World d.State)
    (s : IsStarted w.cpu) (repeats : IsRepeating bytes w.cpu.ram) (whole : HasWholeCodes w.cpu.ram)
    (few : length (edges_now bytes d w) ≤ 4) (frame : Frame) (meeting : Meeting) where
  so : (v : World d.State) → Happened d bytes meeting frame w v → v.cpu.p1 ≡ 44 → Does d bytes frame meeting w v
  so v h column =
      let sound : Sound (image_keys bytes) (layers_met bytes meeting w.cpu.ram) (shown_by w.cpu.ram) =
      record {
        codes = whole;
        place = pressed_by (image_keys bytes) (layers_by w.cpu.ram) (layers_met bytes meeting w.cpu.ram).fn_down
            (shown_by w.cpu.ram).repeats repeats;
      } in
      let kept = tick_sound (image_keys bytes) codes meeting (edges_now bytes d w) (layers_met bytes meeting w.cpu.ram)
      (shown_by w.cpu.ram) (edges_low (changed_now bytes d w) (column_read d w)) refl sound in
      record {
        goes_on = record {
          started = h.started;
          time = h.time;
          keyboard = h.keyboard;
          layers = h.layers;
          read = h.read;
          repeating = h.repeating;
          latch = h.latch;
        };
        codes = subst (λ (k : Keyboard). Rattle.model_keyboard.proofs.CodesAreWhole.IsWhole k.queue) (sym h.keyboard) kept.codes;
        board = h.board;
        column = column;
      }

  -- it is the next tick's start
  starts_there : (v : World d.State) → Happened d bytes meeting frame w v → at_tick d TICK v ≡ true
  starts_there v h =
      ap (λ p. (p % 2048 == TICK) && not (takes_external (seen d v) v.cpu) && not (takes_timer v.cpu))
      h.started.entered.pc
      ∙ ap (λ b. not (not b && v.cpu.ext_on && not (seen d v).int_pin) && not (not b && v.cpu.tim_on && v.cpu.rq))
      h.started.entered.serves

  -- a tick of the firmware does what its frame and its meeting say, and selects its columns
  pub does : Finds d w frame meeting
      → Tick d TICK bytes w (Does d bytes frame meeting w)
      × Selects d TICK bytes w (λ c. column_latch w.cpu.p1 (c - w.cycle))
  does q =
      let t = every d bytes hk alike small low w s repeats few frame meeting whole q in
      let c = t.rest in
      let column = column_from d bytes hk w (entered_served w.cpu s.entered) c.goal.passes c.steps t.first c.end t.step c.run
      (starts_there c.end c.goal) in (
        record {
          at = t.at;
          first = t.first;
          step = t.step;
          rest = record { steps = c.steps; end = c.end; run = c.run; goal = so c.end c.goal column };
        },
        selects_from d bytes hk w (entered_served w.cpu s.entered) c.goal.passes,
      )

-- every image that has the kernel does in each tick what the model's tick does, on any board
pub tick_law : TickLaw
tick_law bytes hk alike codes small pins tick low w s repeats whole few frame meeting =
    does (numbered pins tick) bytes hk alike codes small low w s repeats whole few frame meeting
