-- A tick from its look on, by its meeting.
use Rattle.std.proofs.Common.{◌≡◌, ℕ, suc, ◌+◌, ◌*◌, ◌≤◌, ◌<◌, List, Bool, true, false, Some, refl, ap, sym, ◌∙◌, inl, inr, arith}
use Rattle.std.specs.declared.option.Option.{Option}
use Rattle.ctl_link.specs.declared.link.Link.TheVariants.{Free, Request}
use Rattle.ctl_link.specs.Link.{is_busy}
use Rattle.board_terms.specs.declared.event.HostEvent.{HostEvent}
use Rattle.host_turn.specs.Run.{Side}
use Rattle.board_terms.specs.declared.lines.Lines.{Lines}
use Rattle.board_terms.specs.Frame.{byte_of}
use Rattle.ctl_wire.specs.declared.wire.Wire.TheVariants.{Recv}
use Rattle.ctl_wire.specs.Wires.{Pc}
use Rattle.model_controller.specs.declared.UnderWay.{UnderWay}
use Rattle.model_controller.specs.ByteTime.{quietly, carried, meeting_in, meeting_of, ended_as, sent_or_cut}
use Rattle.model_controller.specs.declared.meeting.Meeting.{Meeting}
use Rattle.model_controller.specs.declared.meeting.Meeting.TheVariants.{Sent, Got, Cut}
use Rattle.law_wires_agree.specs.Without.{seen_in_bytes, without_bits, link_by}
use Rattle.law_wires_agree.specs.Cycles.{board_cycles}
use Rattle.law_wires_agree.specs.Cells.{IsUp, IsFrame, bits_to}
use Rattle.law_wires_agree.specs.Flips.{IsFlip}
use Rattle.law_wires_agree.specs.Ticks.{Ticked, IsNone, SentTick, GotTick, CutTick, StillTick, leaves_clock}
use Rattle.law_wires_agree.proofs.Spans.{IsAt}
use Rattle.law_wires_agree.proofs.Between.{between, low_span}
use Rattle.law_wires_agree.proofs.Pulls.{pulled_span}
use Rattle.model_controller.proofs.Quiet.{quiet_more}
use Rattle.ctl_wire.proofs.Pulls.{pulled_is_low}
use Rattle.law_wires_agree.proofs.Broken.{whole}
use Rattle.law_wires_agree.proofs.Got.{got_frame}
use Rattle.law_wires_agree.proofs.Turned.{flips_seen}
use Rattle.law_wires_agree.proofs.Ways.{sent_way, afterwards_first}
use Rattle.law_wires_agree.proofs.CellByCell.{cycles_more, holds_so, IsAfterCells}
use Rattle.law_wires_agree.proofs.Meetings.{free_at, request_at, free_or_pulls, not_busy, cut_of, none_passes, none_ends}

module _ (events : List HostEvent) (latch : ℕ → Lines) (start rest : ℕ) (at256 : Pc) where
  abbrev at288 : Pc
  at288 = board_cycles events latch 32 (256 + start) at256

  abbrev at609 : Pc
  at609 = board_cycles events latch 321 (288 + start) at288

  abbrev at_end : Pc
  at_end = board_cycles events latch rest (609 + start) at609

  whole_run : (k : ℕ) → k ≡ 353 + rest → board_cycles events latch k (256 + start) at256 ≡ at_end
  whole_run k e =
      let y : 32 + (321 + rest) ≡ k = omega (arith, e) in
      let p : 32 + (256 + start) ≡ 288 + start = omega arith in
      let q : 321 + (288 + start) ≡ 609 + start = omega arith in
      cycles_more events latch 32 (321 + rest) k (256 + start) at256 y
      ∙ ap (λ j. board_cycles events latch (321 + rest) j at288) p
      ∙ cycles_more events latch 321 rest (321 + rest) (288 + start) at288 refl
      ∙ ap (λ j. board_cycles events latch rest j at609) q

  module _ (up : IsUp latch (256 + start) (288 + start)) (idle : is_busy at256.side.port.link ≡ false) where
    -- from the look up to the meeting the keyboard lets the clock go
    pub up288 : (o : ℕ) → 256 + start ≤ o → o < 256 + start + 32 → (latch o).clk ≡ true
    up288 o l u = up o (omega (arith, l)) (omega (arith, u))

    to288 : (seen_in_bytes at288.side ≡ quietly events 32 (256 + start) (seen_in_bytes at256.side)) × (is_busy at288.side.port.link ≡ false)
    to288 = between events latch 32 (256 + start) at256 up288 idle

    -- from the look to the end, by its parts
    pub joins : (tested : Bool) (offer : Option ℕ) (meeting final : Meeting)
        → meeting_in tested offer (seen_in_bytes at256.side) (seen_in_bytes at288.side) ≡ meeting
        → ended_as events meeting (288 + start) (seen_in_bytes at288.side) ≡ final
        → seen_in_bytes at609.side ≡ carried events meeting (288 + start) (seen_in_bytes at288.side)
        → (seen_in_bytes at_end.side ≡ quietly events rest (609 + start) (seen_in_bytes at609.side))
        × (is_busy at_end.side.port.link ≡ false)
        → (k : ℕ) → k ≡ 353 + rest → Ticked events latch start rest at256 tested offer final k
    joins tested offer meeting final is meets passes ends k e = record {
      meets = ap (λ v. ended_as events (meeting_in tested offer (seen_in_bytes at256.side) v) (288 + start) v) (sym to288.0)
          ∙ ap (λ v. ended_as events v (288 + start) (seen_in_bytes at288.side)) is ∙ meets;
      idle_again = ap (λ v. is_busy v.side.port.link) (whole_run k e) ∙ ends.1;
      agrees = ap (λ v. seen_in_bytes v.side) (whole_run k e) ∙ ends.0 ∙ ap (λ v. quietly events rest (609 + start) v) passes
          ∙ ap (λ v. quietly events rest (609 + start) (carried events v (288 + start) (seen_in_bytes at288.side))) (sym is)
          ∙ ap (λ v. quietly events rest (609 + start)
          (carried events (meeting_in tested offer (seen_in_bytes at256.side) v) (288 + start) v)) to288.0;
    }

    -- after a frame the clock is low for 15 more cycles, and then high
    afterwards : (more : ℕ) → rest ≡ 15 + more → IsAfterCells at609
        → ((o : ℕ) → 609 + start ≤ o → o < 609 + start + 15 → (latch o).clk ≡ false) → IsUp latch (624 + start) (609 + rest + start)
        → (seen_in_bytes at_end.side ≡ quietly events rest (609 + start) (seen_in_bytes at609.side))
        × (is_busy at_end.side.port.link ≡ false)
    afterwards more er is low high =
        let p : 15 + more ≡ rest = sym er in
        let q : 15 + (609 + start) ≡ 624 + start = omega arith in
        let first = low_span events latch 15 (609 + start) at609 low is.low is.free in
        let b' : Pc = board_cycles events latch 15 (609 + start) at609 in
        let later_on = between events latch more (624 + start) b' (λ o l u. high o l (omega (arith, u, er))) first.1 in
        let all : at_end ≡ board_cycles events latch more (624 + start) b' =
        cycles_more events latch 15 more rest (609 + start) at609 p ∙ ap (λ j. board_cycles events latch more j b') q in (
          ap (λ v. seen_in_bytes v.side) all ∙ later_on.0 ∙ ap (λ v. quietly events more (624 + start) v) first.0
              ∙ sym (quiet_more events 15 more rest (609 + start) (seen_in_bytes at609.side) p
              ∙ ap (λ j. quietly events more j (quietly events 15 (609 + start) (seen_in_bytes at609.side))) q),
          ap (λ v. is_busy v.side.port.link) all ∙ later_on.1,
        )

    -- what the frame of the keyboard begins as
    pub begins : (byte : ℕ) → at256.side.port.link ≡ Free → at288.side.port.link ≡ Free
        → meeting_of (link_by without_bits at256.side.port.link) (Some byte) (link_by without_bits at288.side.port.link) ≡ Sent byte
    begins byte earlier later =
        ap (λ l. meeting_of (link_by without_bits l) (Some byte) (link_by without_bits at288.side.port.link)) earlier
        ∙ ap (λ l. meeting_of Free (Some byte) (link_by without_bits l)) later

    -- the keyboard sends, and its byte arrives, or comes wrong
    pub sent_tick : (byte more : ℕ) (bits : ℕ → Bool) → at256.side.port.link ≡ Free → at288.side.port.link ≡ Free
        → IsFlip at288.side.port.flip → (frame : IsFrame latch (288 + start) bits)
        → byte_of (bits_to bits 11) ≡ Some byte → ((i : ℕ) → i < 10 → leaves_clock events latch start at256 i ≡ true)
        → rest ≡ 15 + more → ((o : ℕ) → 609 + start ≤ o → o < 609 + start + 15 → (latch o).clk ≡ false)
        → IsUp latch (624 + start) (609 + rest + start)
        → (k : ℕ) → k ≡ 353 + rest → Ticked events latch start rest at256 true (Some byte) (Sent byte) k
    sent_tick byte more bits earlier later flip frame right leaves er low high k e =
        let at : IsAt at288 Free true = free_at events latch (256 + start) at256 up288 earlier later in
        let comes = flips_seen bits byte at288.side.port.flip right flip in
        let way = sent_way bits at288.side.port in
        elim (holds_so events latch (288 + start) bits frame at288 (afterwards_first (bits 0) at288.side.port) Free
        (λ k. Recv at288.side.port.flip (bits_to bits (suc k))) true at way 9 (omega arith)) [
          | inl through ↦
              let passes = whole events latch (288 + start) byte bits frame at288 at comes through in
              joins true (Some byte) (Sent byte) (Sent byte) (begins byte earlier later)
              (ap (λ l. sent_or_cut byte l) passes.2) passes.0 (afterwards more er passes.1 low high) k e
          | inr off ↦
              let j : ℕ = off.0 in
              let b = off.1 in
              absurd (cc (
                leaves j b.few,
                pulled_is_low
                    (board_cycles events latch (32 * j + 18) (288 + start) at288).side.port.link b.since b.pulls,
              ))
        ]

    -- the keyboard takes the controller's byte
    pub got_tick : (byte more : ℕ) (offer : Option ℕ) (bits : ℕ → Bool) → at256.side.port.link ≡ Request byte
        → IsFrame latch (288 + start) bits
        → rest ≡ 15 + more → ((o : ℕ) → 609 + start ≤ o → o < 609 + start + 15 → (latch o).clk ≡ false)
        → IsUp latch (624 + start) (609 + rest + start)
        → (k : ℕ) → k ≡ 353 + rest → Ticked events latch start rest at256 true offer (Got byte) k
    got_tick byte more offer bits earlier frame er low high k e =
        let at : IsAt at288 (Request byte) true = request_at events latch (256 + start) at256 byte up288 earlier in
        let met : meeting_of (link_by without_bits at256.side.port.link) offer (link_by without_bits at288.side.port.link) ≡ Got byte =
        ap (λ l. meeting_of (link_by without_bits l) offer (link_by without_bits at288.side.port.link)) earlier in
        let passes = got_frame events latch (288 + start) byte bits at288 frame at in
        joins true offer (Got byte) (Got byte) met refl passes.0 (afterwards more er passes.1 low high) k e

    -- nothing passes: the keyboard leaves the clock alone
    pub still_tick : (tested : Bool) (offer : Option ℕ) (meeting : Meeting)
        → meeting_in tested offer (seen_in_bytes at256.side) (seen_in_bytes at288.side) ≡ meeting → IsNone meeting
        → IsUp latch (288 + start) (609 + rest + start)
        → (k : ℕ) → k ≡ 353 + rest → Ticked events latch start rest at256 tested offer meeting k
    still_tick tested offer meeting met none high k e =
        let first = between events latch 321 (288 + start) at288 (λ o l u. high o l (omega (arith, u))) to288.1 in
        let last = between events latch rest (609 + start) at609 (λ o l u. high o (omega (arith, l)) (omega (arith, u))) first.1 in
        joins tested offer meeting meeting met
        (none_ends events meeting (288 + start) (seen_in_bytes at288.side) none)
        (first.0 ∙ sym (none_passes events meeting (288 + start) (seen_in_bytes at288.side) none)) last k e

    -- the controller pulls before the first edge: the keyboard lets go again before offset 320
    pub cut_tick : (byte : ℕ) → at256.side.port.link ≡ Free → (at288.side.port.link ≡ Free → ⊥)
        → IsUp latch (320 + start) (609 + rest + start)
        → (k : ℕ) → k ≡ 353 + rest → Ticked events latch start rest at256 true (Some byte) Cut k
    cut_tick byte earlier later high k e =
        elim (free_or_pulls events latch 32 (256 + start) at256 (omega arith) up288 earlier) [
          | inl free ↦ absurd (later free)
          | inr pulls ↦
              let p : 32 + 289 ≡ 321 = refl in
              let q : 32 + (288 + start) ≡ 320 + start = omega arith in
              let since : 256 + start ≤ pulls.since = pulls.from in
              let first = pulled_span events latch 32 (288 + start) at288 pulls.since pulls.is (omega (arith, since)) in
              let b' : Pc = board_cycles events latch 32 (288 + start) at288 in
              let idle' : is_busy b'.side.port.link ≡ false = not_busy b'.side.port.link pulls.since first.1 in
              let later_on = between events latch 289 (320 + start) b' (λ o l u. high o l (omega (arith, u))) idle' in
              let at : at609 ≡ board_cycles events latch 289 (320 + start) b' =
              cycles_more events latch 32 289 321 (288 + start) at288 p ∙ ap (λ j. board_cycles events latch 289 j b') q in
              let m : Side UnderWay = seen_in_bytes at288.side in
              let passes : seen_in_bytes at609.side ≡ quietly events 321 (288 + start) m =
              ap (λ v. seen_in_bytes v.side) at ∙ later_on.0 ∙ ap (λ v. quietly events 289 (320 + start) v) first.0
              ∙ sym (quiet_more events 32 289 321 (288 + start) m p
              ∙ ap (λ j. quietly events 289 j (quietly events 32 (288 + start) m)) q) in
              let last = between events latch rest (609 + start) at609
              (λ o l u. high o (omega (arith, l)) (omega (arith, u))) (ap (λ v. is_busy v.side.port.link) at ∙ later_on.1) in
              let met : meeting_of (link_by without_bits at256.side.port.link) (Some byte)
              (link_by without_bits at288.side.port.link) ≡ Cut =
              ap (λ l. meeting_of (link_by without_bits l) (Some byte) (link_by without_bits at288.side.port.link))
              earlier ∙ cut_of byte at288.side.port.link pulls.since pulls.is in
              joins true (Some byte) Cut Cut met refl passes last k e
        ]

-- a tick in which a right frame is sent is in byte time a tick in which its byte arrives
pub all_sent : SentTick
all_sent events latch start rest more byte k bits b up here there flip frame right leaves ends er e =
    sent_tick events latch start rest b up (ap is_busy here) byte more bits here there flip frame right leaves er ends.low ends.high k e

-- a tick in which the keyboard clocks a requested frame is in byte time a tick in which it gets the byte
pub all_got : GotTick
all_got events latch start rest more byte k offer bits b up here frame ends er e =
    got_tick events latch start rest b up (ap is_busy here) byte more offer bits here frame er ends.low ends.high k e

-- a tick whose link isn't free any longer after the look is in byte time one whose byte is cut
pub all_cut : CutTick
all_cut events latch start rest byte k b up here there high e =
    cut_tick events latch start rest b up (ap is_busy here) byte here there high k e

-- a tick in which the keyboard leaves the clock alone is in byte time one in which no byte passes
pub all_still : StillTick
all_still events latch start rest k tested offer meeting b up idle met none high e =
    still_tick events latch start rest b up idle tested offer meeting met none high k e
