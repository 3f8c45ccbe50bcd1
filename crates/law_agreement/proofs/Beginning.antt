-- From power-on to the first tick start: it is tied to the model's.
use Rattle.std.proofs.Common.{◌≡◌, ◌≤◌, ◌<◌, ℕ, ◌+◌, ◌-◌, ◌%◌, ◌==◌, ◌&&◌, not, List, All, true, false, refl, ap}
use Rattle.std.proofs.Common.{sym, ◌∙◌}
use Rattle.std.proofs.Common.{subst, arith, slice_index}
use Rattle.board_terms.specs.declared.event.Edge.{Edge}
use Rattle.board_terms.specs.declared.event.HostEvent.{HostEvent}
use Rattle.board_terms.specs.declared.lines.Lines.{Lines}
use Rattle.board_terms.specs.Flips.{AreFlips}
use Rattle.model_controller.specs.ByteTime.{quietly}
use Rattle.model_controller.specs.declared.UnderWay.{UnderWay}
use Rattle.ctl_link.specs.Link.{is_busy}
use Rattle.fw_kernel.specs.Places.{HasKernel}
use Rattle.fw_kernel.specs.declared.labels.TheConstants.{TICK}
use Rattle.law_fw_keys.proofs.Begun.{IsAnyStart, any_start}
use Rattle.law_fw_keys.proofs.Kept.{Sound}
use Rattle.law_fw_keys.proofs.PowerOn.{first_started}
use Rattle.law_fw_keys.specs.Edges.{image_keys}
use Rattle.law_fw_keys.specs.Frameless.{IsStarted, IsPressed, FromPowerOn, layers_by}
use Rattle.law_fw_link.proofs.Outside.{still_wires}
use Rattle.law_fw_link.proofs.Over.{IsOver}
use Rattle.law_fw_link.proofs.Watching.{watching, bare, drives_by, ticks_stay_good}
use Rattle.law_fw_link.specs.Drives.{Drives}
use Rattle.fw_ticks.proofs.AtTick.{at_tick_is}
use Rattle.law_fw_link.proofs.Wired.{IsReleased}
use Rattle.law_fw_logic.proofs.Laws.{comes_as}
use Rattle.law_fw_logic.proofs.Starting.{IsFirst}
use Rattle.mcs48_core.specs.Cpu.{Cpu}
use Rattle.mcs48_ranges.specs.Sizes.{IsByte, IsFine}
use Rattle.host_turn.specs.Run.{side_at_start}
use Rattle.joint_run.specs.Joint.{Beside, beside_at_start, joint_board, latch_of, lights_of}
use Rattle.joint_run.specs.Run.{Board, World, after_cycles}
use Rattle.joint_run.specs.Starts.{at_tick, Comes}
use Rattle.law_agreement.proofs.Above.{low_over}
use Rattle.model_keyboard.specs.Codes.{Keys}
use Rattle.model_keyboard.specs.Keyboard.{Keyboard, at_power_on}
use Rattle.model_keyboard.specs.Layers.{no_layers}
use Rattle.layout_reader.specs.Layouts.{KeyLayout}
use Rattle.model_link.specs.Machine.{keyboard}
use Rattle.ctl_wire.specs.Wires.{pc_at_start}
use Rattle.law_wires_agree.proofs.Between.{between}
use Rattle.law_wires_agree.proofs.Pending.{flips_stay}
use Rattle.law_wires_agree.proofs.Start.{waits_for_stamp_0}
use Rattle.law_wires_agree.proofs.CellByCell.{cycles_more}
use Rattle.law_wires_agree.specs.Cycles.{board_cycles}
use Rattle.law_wires_agree.specs.Flips.{IsFlip}
use Rattle.law_wires_agree.specs.Without.{seen_in_bytes}
use Rattle.law_agreement.specs.Agreement.{switched_on}
use Rattle.law_fw_logic.specs.Ticks.{IsOnTime}
use Rattle.law_agreement.proofs.Model.{at_first}
use Rattle.law_agreement.proofs.Compiled.{silent_keys}
use Rattle.law_agreement.proofs.Holding.{none_held}
use Rattle.law_agreement.proofs.Ties.{Ties}
use Rattle.fw_kernel.specs.Tables.{fn_place_at}

-- the keyboard at power-on is sound
begins_sound : (keys : Keys) (rate : ℕ) → Sound keys no_layers (at_power_on rate)
begins_sound keys rate = record { codes = refl; place = tt }

-- the latch after reset pulls no wire
high_latch : IsReleased 255
high_latch = record { byte = omega arith; clock = refl; data_wire = refl }

-- the lines up to the first start
abbrev high : ℕ → Lines
high o = latch_of 255

-- the PC's side has gone on in byte time for as many cycles past stamp 0; no byte is under way, and no light is shown
record AtFirst (events : List HostEvent) (b : Beside) (late : ℕ) : Type 0 where
  pub side : seen_in_bytes b.pc.side ≡ quietly events late 4096 (side_at_start UnderWay)
  pub idle : is_busy b.pc.side.port.link ≡ false
  pub flip : IsFlip b.pc.side.port.flip
  pub shown : b.shown ≡ 0

-- a start is a tick start of the run
pub is_tick : (edges : List Edge) (events : List HostEvent) (e : World Beside) → IsAnyStart e.cpu
    → at_tick (joint_board edges events) TICK e ≡ true
is_tick edges events e started =
    at_tick_is edges events e
    ∙ ap (λ p. (p % 2048 == TICK) && not (not e.cpu.svc && e.cpu.tim_on && e.cpu.rq)) started.served.pc
    ∙ ap (λ s. not (not s && e.cpu.tim_on && e.cpu.rq)) started.served.serves

-- up to the first start the latch is as reset leaves it
pub begins_let_go : (edges : List Edge) (events : List HostEvent) (bytes : List ℕ) → HasKernel bytes → All IsByte bytes
    → (m : Cpu) → IsFine m
    → Drives (joint_board edges events) TICK bytes (switched_on edges events m) (λ c. 255)
    (λ e. at_tick (joint_board edges events) TICK e ≡ true)
begins_let_go edges events bytes hk small m fine =
    let joint : Board = joint_board edges events in
    let latch : ℕ → ℕ = λ c. 255 in
    let W : Board = watching joint latch in
    let b : W.State = record { under = beside_at_start; good = true } in
    let above : IsOver edges events W (λ s. s.under) =
    record { pins = λ p1 p2 cycle s. refl; cycle = λ p2 cycle s. refl } in
    drives_by joint latch TICK bytes (switched_on edges events m) (λ e. IsFirst W bytes b e × FromPowerOn bytes e.cpu)
    (λ e. at_tick joint TICK e ≡ true)
    (λ e h. (
      is_tick edges events (bare e) (any_start e.cpu h.1.started),
      ap (λ (v : World W.State). v.board.good) h.0.is
          ∙ ticks_stay_good joint latch (4096 + h.0.late) 0 255 b (λ c a u. refl) refl,
    ))
    (first_started W bytes hk small (low_over edges events W (λ s. s.under) above) m fine b)

module _ (edges : List Edge) (events : List HostEvent) (noise : AreFlips events) where
  -- what is beside the processor stays as it is up to stamp 0, and then goes on at its wires
  beside : (first late all : ℕ) → first ≤ 4096 → first + late ≡ all
      → after_cycles all 0 ((joint_board edges events).cycle 255) beside_at_start
      ≡ record { pc = board_cycles events high late first pc_at_start; shown = 0 }
  beside first late all l sum =
      let none : first + 0 ≡ first = omega arith in
      let short : 0 + first ≤ 4096 = omega (arith, l) in
      still_wires edges events high all 0 255 beside_at_start refl (λ o a b. refl)
      ∙ ap (λ b. record { pc = b; shown = 0 }) (cycles_more events high first late all 0 pc_at_start sum)
      ∙ ap (λ c. record {
        pc = board_cycles events high late c (board_cycles events high first 0 pc_at_start);
        shown = 0;
      }) none
      ∙ ap (λ b. record { pc = board_cycles events high late first b; shown = 0 })
      (waits_for_stamp_0 events high first 0 short (λ o a b. refl))

  -- so it is at the first start
  at_first_start : (late : ℕ) (b : Beside)
      → b ≡ after_cycles (4096 + late) 0 ((joint_board edges events).cycle 255) beside_at_start → AtFirst events b late
  at_first_start late b is =
      let e = is ∙ beside 4096 late (4096 + late) (omega arith) refl in
      let g = between events high late 4096 pc_at_start (λ o a b. refl) refl in
      record {
        side = ap (λ (v : Beside). seen_in_bytes v.pc.side) e ∙ g.0;
        idle = ap (λ (v : Beside). is_busy v.pc.side.port.link) e ∙ g.1;
        flip = subst (λ (v : Beside). IsFlip v.pc.side.port.flip) (sym e)
            (flips_stay events high late 4096 pc_at_start noise tt);
        shown = ap (λ (v : Beside). v.shown) e;
      }

  -- the first start is on time, and tied to the model there
  tied : (bytes : List ℕ) (layout : KeyLayout) (w : World Beside) → slice_index bytes 864 ≡ layout.rate
      → IsFirst (joint_board edges events) bytes beside_at_start w → FromPowerOn bytes w.cpu
      → IsOnTime 0 w × IsStarted w.cpu × Ties bytes (silent_keys layout) w (at_first (keyboard layout) events w.cycle)
      × (w.cpu.p1 ≡ 255)
  tied bytes layout w rate i f =
      let cycle : w.cycle ≡ 4096 + i.late = ap (λ (v : World Beside). v.cycle) i.is in
      let pre : w.cpu.pre ≡ i.late + 2 = ap (λ (v : World Beside). v.cpu.pre) i.is in
      let past : i.late ≡ w.cycle - 4096 = omega (arith, cycle) in
      let b = at_first_start i.late w.board (ap (λ (v : World Beside). v.board) i.is) in (
        omega (arith, cycle, pre),
        f.started,
        record {
          started = any_start w.cpu f.started;
          keyboard = f.keyboard ∙ ap at_power_on rate;
          layers = f.layers;
          read = f.read;
          settled = refl;
          fn = sym (none_held layout (slice_index bytes fn_place_at));
          repeating = subst (λ (k : Keyboard). IsPressed (image_keys bytes) (layers_by w.cpu.ram) k.repeats) (sym f.keyboard) tt;
          sound = begins_sound (silent_keys layout) layout.rate;
          side = b.side ∙ ap (λ n. quietly events n 4096 (side_at_start UnderWay)) past;
          idle = b.idle;
          flip = b.flip;
          shown = b.shown;
          lit = ap lights_of f.latch ∙ sym b.shown;
          released = subst (λ v. IsReleased v) (sym f.latch) high_latch;
        },
        ap (λ (v : World Beside). v.cpu.p1) i.is,
      )

  module _ (bytes : List ℕ) (hk : HasKernel bytes) (small : All IsByte bytes)
      (low : (p1 p2 c : ℕ) (s : Beside) → ((joint_board edges events).pins p1 p2 c s).bus < 256) where
    -- the run comes from power-on to a first start that is tied to the model's; no column is selected
    pub begins : (m : Cpu) → IsFine m → (layout : KeyLayout) → slice_index bytes 864 ≡ layout.rate
        → Comes (joint_board edges events) TICK bytes (switched_on edges events m)
        (λ e. IsOnTime 0 e × IsStarted e.cpu × Ties bytes (silent_keys layout) e (at_first (keyboard layout) events e.cycle)
        × (e.cpu.p1 ≡ 255))
    begins m fine layout rate =
        comes_as (joint_board edges events) TICK bytes
        (λ w. IsFirst (joint_board edges events) bytes beside_at_start w × FromPowerOn bytes w.cpu)
        (λ e. IsOnTime 0 e × IsStarted e.cpu × Ties bytes (silent_keys layout) e (at_first (keyboard layout) events e.cycle)
        × (e.cpu.p1 ≡ 255)) (switched_on edges events m)
        (λ w g. tied bytes layout w rate g.0 g.1)
        (first_started (joint_board edges events) bytes hk small low m fine beside_at_start)
