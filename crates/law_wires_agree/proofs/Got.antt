-- A frame for the keyboard: it can't be broken off.
use Rattle.std.proofs.Common.{◌≡◌, ℕ, suc, zero, ◌+◌, ◌*◌, ◌≤◌, ◌<◌, List, Bool, true, false, ◌&&◌, refl, ap, sym, ◌∙◌, inl, inr, arith}
use Rattle.ctl_link.specs.declared.link.Link.TheVariants.{Request, Busy}
use Rattle.ctl_link.specs.declared.port.LinkEnd.{LinkEnd}
use Rattle.ctl_link.specs.Link.{handed_over, is_busy}
use Rattle.board_terms.specs.declared.event.HostEvent.{HostEvent}
use Rattle.host_turn.specs.Run.{Side}
use Rattle.board_terms.specs.declared.lines.Lines.{Lines}
use Rattle.ctl_wire.specs.declared.wire.Wire.{Wire}
use Rattle.ctl_wire.specs.declared.wire.Wire.TheVariants.{Send}
use Rattle.ctl_wire.specs.Wire.{drive, is_breakable}
use Rattle.ctl_wire.specs.Wires.{Pc, board_cycle}
use Rattle.model_controller.specs.declared.UnderWay.{UnderWay}
use Rattle.model_controller.specs.declared.meeting.Meeting.TheVariants.{Got}
use Rattle.model_controller.specs.ByteTime.{quietly, byte_cycle, carried, Begins, IsWhole}
use Rattle.model_controller.proofs.Quiet.{quiet_more}
use Rattle.law_wires_agree.specs.Without.{seen_in_bytes}
use Rattle.law_wires_agree.specs.Cycles.{board_cycles}
use Rattle.law_wires_agree.specs.Cells.{IsFrame}
use Rattle.law_wires_agree.specs.InFrame.{at_edge, up_to}
use Rattle.law_wires_agree.specs.Laws.{FrameShown}
use Rattle.law_wires_agree.proofs.Spans.{IsAt, On}
use Rattle.law_wires_agree.proofs.Between.{stays_free}
use Rattle.law_wires_agree.proofs.Frames.{fall_cycle, cell}
use Rattle.law_wires_agree.proofs.Ways.{IsWay, got_way}
use Rattle.law_wires_agree.proofs.CellByCell.{IsThrough, IsAfterCells, holds_so, cycles_more}

module _ (events : List HostEvent) (latch : ℕ → Lines) (now byte : ℕ) (bits : ℕ → Bool) (b : Pc)
    (is : IsFrame latch now bits) (at : IsAt b (Request byte) true) where
  abbrev pc_at : ℕ → Pc
  pc_at t = board_cycles events latch t now b

  abbrev w : ℕ → Wire
  w k = Send byte (k + 1)

  abbrev q : LinkEnd Wire
  q = record b.side.port { link = Busy (Send byte 1) }

  abbrev way : IsWay b.side.port q (Request byte) w false bits
  way = got_way byte bits b.side.port

  -- each cell passes
  pub through : (k : ℕ) → k < 10 → IsThrough events latch now bits is b q (Request byte) w false at way k
  through k below =
      elim (holds_so events latch now bits is b q (Request byte) w false at way k below) [
        | inl passes ↦ passes
        | inr broken ↦ let o = broken.1.opened in absurd (cc (o.1))
      ]

  still_on : (v : Pc) (n : ℕ) (c : Bool) (begin : ℕ) → On v (Send byte n) c begin → v.side.port.link ≡ Busy (Send byte n)
  still_on v n c begin (inl on) = on.link_is
  still_on v n c begin (inr broken) = absurd (cc (broken.0))

  -- from cycle n of cell k on
  level : (k n : ℕ) → k < 10 → n ≤ 31 → (pc_at (32 * k + suc n)).side.port.link ≡ Busy (w k)
  level zero n below short =
      let x : ℕ = 32 * 0 + now in
      let c = cell events latch x (bits 0) b (Request byte) (w 0) q (Begins false)
      (is.cells 0 below) at (way.first x) way.begins (way.starts x) n short in
      let more : pc_at (32 * 0 + suc n)
      ≡ board_cycles events latch (suc n) x b = cycles_more events latch (32 * 0) (suc n) (32 * 0 + suc n) now b refl in
      ap (λ (v : Pc). v.side.port.link) more ∙ still_on (board_cycles events latch (suc n) x b) 1 (latch (n + x)).clk x c.1
  level (suc k) n below short =
      let x : ℕ = 32 * suc k + now in
      let b' : Pc = pc_at (32 * suc k) in
      let t = through k (omega (arith, below)) in
      let c = cell events latch x (bits (suc k)) b' (Busy (w k)) (w (suc k))
      (record b'.side.port { link = Busy (w (suc k)) }) (at_edge false (suc k)) (is.cells (suc k) below) t.there
      (way.next k x b'.side.port (omega (arith, below))) refl (way.kind k x b'.side.port (omega (arith, below)) t.there.link_is) n short in
      let more : pc_at (32 * suc k + suc n)
      ≡ board_cycles events latch (suc n) x b' = cycles_more events latch (32 * suc k) (suc n) (32 * suc k + suc n) now b refl in
      ap (λ (v : Pc). v.side.port.link) more ∙ still_on (board_cycles events latch (suc n) x b') (suc k + 1) (latch (n + x)).clk x c.1

  -- in byte time nothing comes over the link in its cells
  quiet_cells : (k n : ℕ) (m : Side UnderWay)
      → up_to events false k n now m ≡ quietly events (32 * k + n) (suc now) (byte_cycle events now (Begins false) m)
  quiet_cells zero n m = let z : n ≡ 32 * 0 + n = omega arith in
      ap (λ j. quietly events j (suc now) (byte_cycle events now (Begins false) m)) z
  quiet_cells (suc k) n m =
      let x : ℕ = 32 * suc k + now in
      let y : Side UnderWay = byte_cycle events now (Begins false) m in
      let e : 32 * k + 31 + suc n ≡ 32 * suc k + n = omega arith in
      let z : 32 * k + 31 + suc now ≡ x = omega arith in
      ap (λ v. quietly events (suc n) x v) (quiet_cells k 31 m)
      ∙ sym (quiet_more events (32 * k + 31) (suc n) (32 * suc k + n) (suc now) y e
      ∙ ap (λ j. quietly events (suc n) j (quietly events (32 * k + 31) (suc now) y)) z)

  -- and so it is handed over
  pub got_frame : (seen_in_bytes (pc_at 321).side ≡ carried events (Got byte) now (seen_in_bytes b.side)) × IsAfterCells (pc_at 321)
  got_frame =
      let t = through 9 (omega arith) in
      let b' : Pc = pc_at 320 in
      let more : pc_at 321 ≡ board_cycle events (320 + now) (latch (320 + now)) b' = cycles_more events latch 320 1 321 now b refl in
      let c = fall_cycle events (320 + now) (latch (320 + now)) b' (Busy (w 9)) (handed_over b'.side.port) IsWhole t.there is.ends
      (ap (λ d. Rattle.ctl_wire.specs.Wire.edge_at (320 + now) (d && (drive (Busy (w 9))).dat) (Busy (w 9)) b'.side.port) is.last) refl in (
        ap (λ (v : Pc). seen_in_bytes v.side) more ∙ c.0
            ∙ ap (λ v. byte_cycle events (320 + now) IsWhole v) (t.agrees ∙ quiet_cells 9 31 (seen_in_bytes b.side)),
        record {
          low = ap (λ (v : Pc). v.clock) more ∙ c.2;
          free = ap (λ (v : Pc). is_busy v.side.port.link) more ∙ ap (λ v. is_busy v.port.link) c.1
              ∙ stays_free is_breakable events (320 + now) (record b'.side { port = handed_over b'.side.port }) refl;
        },
      )

-- in each cell of a frame for the keyboard the controller puts the frame's next bit on the data wire
pub frame_shown : FrameShown
frame_shown events latch now byte bits b is here high k n below short =
    ap (λ l. (drive l).dat) (level events latch now byte bits b is (record { link_is = here; clock_is = high }) k n below short)
