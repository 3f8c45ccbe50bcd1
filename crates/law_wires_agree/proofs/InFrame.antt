-- Each cycle of a frame.
use Rattle.std.proofs.Common.{◌≡◌, ℕ, suc, ◌+◌, ◌*◌, ◌≤◌, ◌<◌, List, Bool, true, false, ap, ◌∙◌, inl, inr, subst, refl, arith}
use Rattle.std.specs.Prelude.{nat_lt}
use Rattle.std.proofs.lemmas.Bool.Decides.{nat_tests}
use Rattle.board_terms.specs.declared.event.HostEvent.{HostEvent}
use Rattle.board_terms.specs.declared.lines.Lines.{Lines}
use Rattle.model_controller.specs.ByteTime.{quietly}
use Rattle.model_controller.specs.declared.UnderWay.{UnderWay}
use Rattle.host_turn.specs.Run.{Side}
use Rattle.ctl_link.specs.declared.link.Link.TheVariants.{Free}
use Rattle.ctl_link.specs.declared.port.LinkEnd.{LinkEnd}
use Rattle.ctl_wire.specs.declared.wire.Wire.{Wire}
use Rattle.ctl_wire.specs.declared.wire.Wire.TheVariants.{Recv}
use Rattle.ctl_wire.proofs.Pulls.{pulled_is_low}
use Rattle.ctl_wire.specs.Wires.{Pc}
use Rattle.law_wires_agree.specs.Cells.{IsFrame, IsDown, bits_to}
use Rattle.law_wires_agree.specs.Cycles.{board_cycles}
use Rattle.law_wires_agree.specs.InFrame.{up_to, lets_look, SentInBytes, GotInBytes, SentEndsInBytes, GotEndsInBytes}
use Rattle.law_wires_agree.specs.Without.{seen_in_bytes}
use Rattle.law_wires_agree.proofs.Spans.{IsAt}
use Rattle.law_wires_agree.proofs.Between.{low_span}
use Rattle.law_wires_agree.proofs.Broken.{whole}
use Rattle.law_wires_agree.proofs.Got.{through, got_frame}
use Rattle.law_wires_agree.proofs.Turned.{flips_seen}
use Rattle.law_wires_agree.proofs.Ways.{sent_way, afterwards_first}
use Rattle.law_wires_agree.proofs.CellByCell.{IsBroken, IsAfterCells, holds_so, cycles_more}

module _ (events : List HostEvent) (latch : ℕ → Lines) (now : ℕ) (bits : ℕ → Bool) (b : Pc)
    (is : IsFrame latch now bits) (at : IsAt b Free true) where
  abbrev w : ℕ → Wire
  w k = Recv b.side.port.flip (bits_to bits (suc k))

  abbrev q : LinkEnd Wire
  q = afterwards_first (bits 0) b.side.port

  abbrev Off : ℕ → Type 0
  Off i = IsBroken events latch now bits is b q Free w true at (sent_way bits b.side.port) i

  abbrev Agrees : ℕ → ℕ → Type 0
  Agrees k n = seen_in_bytes (board_cycles events latch (32 * k + suc n) now b).side ≡ up_to events true k n now (seen_in_bytes b.side)

  -- a frame that is broken off, but not seen so before this cell
  cut_cell : (k n : ℕ) → n ≤ 31 → ((i : ℕ) → i < k → lets_look events latch now b i ≡ true) → (j : ℕ) → Off j
      → (c d : Bool) → nat_lt j k ≡ c → nat_lt k j ≡ d → Agrees k n
  cut_cell k n short lets j off true d e f =
      let l : j < k = grind (arith, nat_tests, e) in
      absurd (cc (lets j l, pulled_is_low (board_cycles events latch (32 * j + 18) now b).side.port.link off.since off.pulls))
  cut_cell k n short lets j off false true e f = (off.before k (grind (arith, nat_tests, f))).in_cell n short
  cut_cell k n short lets j off false false e f =
      let z : j ≡ k = grind (arith, nat_tests, e, f) in
      subst (λ i. Agrees i n) z (off.in_cell n short)

  -- up to the cell at whose look the controller pulls the clock, byte time is what the wires are
  pub in_sent : (k n : ℕ) → k < 10 → n ≤ 31 → ((i : ℕ) → i < k → lets_look events latch now b i ≡ true) → Agrees k n
  in_sent k n below short lets =
      elim (holds_so events latch now bits is b q Free w true at (sent_way bits b.side.port) k below) [
        | inl passes ↦ (passes.up_to_here k (omega arith)).in_cell n short
        | inr off ↦ cut_cell k n short lets off.0 off.1 (nat_lt off.0 k) (nat_lt k off.0) refl refl
      ]

-- after the last edge, while the clock stays low
afterwards_low : (events : List HostEvent) (latch : ℕ → Lines) (now n : ℕ) (b : Pc) (m : Side UnderWay)
    → IsAfterCells (board_cycles events latch 321 now b)
    → seen_in_bytes (board_cycles events latch 321 now b).side ≡ m → IsDown latch (321 + now) (321 + now + n)
    → seen_in_bytes (board_cycles events latch (321 + n) now b).side ≡ quietly events n (321 + now) m
afterwards_low events latch now n b m afterwards is down =
    ap (λ (v : Pc). seen_in_bytes v.side) (cycles_more events latch 321 n (321 + n) now b refl)
    ∙ (low_span events latch n (321 + now) (board_cycles events latch 321 now b) down afterwards.low afterwards.free).0
    ∙ ap (λ v. quietly events n (321 + now) v) is

-- in each cycle of the keyboard's frame byte time is what the wires are without their bits
pub sent_in_bytes : SentInBytes
sent_in_bytes events latch now bits b is here high k n below short lets =
    in_sent events latch now bits b is (record { link_is = here; clock_is = high }) k n below short lets

-- in each cycle of a frame for the keyboard byte time is what the wires are without their bits
pub got_in_bytes : GotInBytes
got_in_bytes events latch now byte bits b is here high k n below short =
    ((through events latch now byte bits b is (record { link_is = here; clock_is = high }) k below).up_to_here k
    (omega arith)).in_cell n short

-- after the keyboard's eleventh edge its byte has arrived in byte time as on the wires
pub sent_ends : SentEndsInBytes
sent_ends events latch now byte n bits b is right here high flip lets down =
    let at : IsAt b Free true = record { link_is = here; clock_is = high } in
    let comes = flips_seen bits byte b.side.port.flip right flip in
    elim (holds_so events latch now bits is b (afterwards_first (bits 0) b.side.port) Free
    (λ k. Recv b.side.port.flip (bits_to bits (suc k))) true at (sent_way bits b.side.port) 9 (omega arith)) [
      | inl passes ↦
          let e = whole events latch now byte bits is b at comes passes in
          afterwards_low events latch now n b
          (Rattle.model_controller.specs.ByteTime.carried events
          (Rattle.model_controller.specs.declared.meeting.Meeting.TheVariants.Sent byte) now (seen_in_bytes b.side)) e.1 e.0 down
      | inr off ↦
          let j : ℕ = off.0 in
          let o = off.1 in
          absurd (cc (lets j o.few, pulled_is_low (board_cycles events latch (32 * j + 18) now b).side.port.link o.since o.pulls))
    ]

-- after the eleventh edge of a frame for the keyboard the byte has passed in byte time as on the wires
pub got_ends : GotEndsInBytes
got_ends events latch now byte n bits b is here high down =
    let e = got_frame events latch now byte bits b is (record { link_is = here; clock_is = high }) in
    afterwards_low events latch now n b
    (Rattle.model_controller.specs.ByteTime.carried events
    (Rattle.model_controller.specs.declared.meeting.Meeting.TheVariants.Got byte) now (seen_in_bytes b.side)) e.1 e.0 down
