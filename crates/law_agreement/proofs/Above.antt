-- A board above the joint board shows the same edges and reads bytes of the columns.
use Rattle.std.proofs.Common.{◌≡◌, ◌<◌, ℕ, ◌+◌, ◌-◌, ◌*◌, List, slice_index, bit_xor, refl, ap, sym, ◌∙◌, subst}
use Rattle.board_terms.specs.declared.event.Edge.{Edge}
use Rattle.board_terms.specs.declared.event.HostEvent.{HostEvent}
use Rattle.law_fw_keys.proofs.Begun.{columns_same}
use Rattle.law_fw_keys.specs.Frameless.{changed_by, changed_now, edges_now}
use Rattle.law_fw_keys.specs.State.{debounces}
use Rattle.law_fw_logic.specs.Ticks.{column_read}
use Rattle.law_fw_link.proofs.Over.{IsOver, under, ticks_over}
use Rattle.law_fw_logic.specs.Scan.{in_tick}
use Rattle.joint_run.specs.Joint.{Beside, joint_board, joint_pins}
use Rattle.joint_run.specs.Run.{Board, World}
use Rattle.mcs48_core.specs.declared.levels.Pins.{Pins}
use Rattle.law_agreement.proofs.Columns.{bus_low}
use Rattle.fw_kernel.specs.declared.cells.TheConstants.{HELD, PENDING}

module _ (edges : List Edge) (events : List HostEvent) (d : Board) (to : d.State → Beside)
    (over : IsOver edges events d to) where
  abbrev joint : Board
  joint = joint_board edges events

  -- what a board above the joint one shows of the columns is a byte
  pub low_over : (p1 p2 c : ℕ) (s : d.State) → (d.pins p1 p2 c s).bus < 256
  low_over p1 p2 c s =
      subst (λ (p : Pins). p.bus < 256) (sym (over.pins p1 p2 c s)) (bus_low edges events p1 p2 c (to s))

  module _ (w : World d.State) where
    abbrev u : World Beside
    u = under to w

    -- a tick reads the same columns on it as on the joint board
    pub down_over : (c : ℕ) → column_read d w c ≡ column_read joint u c
    down_over c =
        let p2 : ℕ = w.cpu.p2 in
        let n : ℕ = 16 + 16 * c in
        ap (λ (p : Pins). 255 - p.bus) (over.pins (32 + c) p2 (w.cycle + n) (in_tick d w n))
        ∙ ap (λ s. 255 - (joint_pins edges (32 + c) p2 (w.cycle + n) s).bus)
        (ticks_over edges events d to over n w.cycle p2 w.board)

    -- the edges that a tick shows are those of the joint run
    pub edges_over : (bytes : List ℕ) → edges_now bytes d w ≡ edges_now bytes joint u
    edges_over bytes =
        columns_same (changed_now bytes d w) (changed_now bytes joint u) (column_read d w) (column_read joint u) 0 12 refl
        (λ c l. ap (λ v. changed_by (debounces bytes) (slice_index w.cpu.ram (PENDING + c))
        (bit_xor (slice_index w.cpu.ram (HELD + c)) v))
        (down_over c)) (λ c l. down_over c)
