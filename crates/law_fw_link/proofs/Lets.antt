-- The looks of a sent frame, reported from the tick's look at the clock, from that at data and from the first edge; and
-- what the link is there.
use Rattle.std.proofs.Common.{◌≡◌, ◌≤◌, ◌<◌, ℕ, ◌+◌, ◌*◌, List, Bool, true, false, Some, refl, ap, sym}
use Rattle.std.proofs.Common.{◌∙◌, subst, inl, inr, arith}
use Rattle.board_terms.specs.declared.event.HostEvent.{HostEvent}
use Rattle.board_terms.specs.declared.lines.Lines.{Lines}
use Rattle.ctl_link.specs.Pulls.{pulled}
use Rattle.ctl_link.specs.declared.link.Link.{Link}
use Rattle.ctl_link.specs.declared.link.Link.TheVariants.{Free, Hold, Ask, Request, Busy}
use Rattle.ctl_wire.specs.declared.wire.Wire.{Wire}
use Rattle.ctl_wire.specs.Wire.{drive}
use Rattle.ctl_wire.specs.Wires.{Pc}
use Rattle.law_wires_agree.proofs.Meetings.{request_at, free_or_pulls}
use Rattle.law_wires_agree.proofs.Pulls.{pulled_span}
use Rattle.law_wires_agree.proofs.Spans.{IsAt}
use Rattle.law_wires_agree.proofs.CellByCell.{cycles_more}
use Rattle.law_wires_agree.specs.Cells.{IsUp}
use Rattle.law_wires_agree.specs.Cycles.{board_cycles}
use Rattle.law_wires_agree.specs.Ticks.{at_meeting, leaves_clock, leaves_cycle}

-- a controller that pulls holds the clock low
pulls_low : (l : Link Wire) (h : ℕ) → pulled l ≡ Some h → (drive l).clk ≡ false
pulls_low Free h e = absurd cc
pulls_low (Hold since) h e = refl
pulls_low (Ask byte since) h e = refl
pulls_low (Request byte) h e = absurd cc
pulls_low (Busy w) h e = absurd cc

-- the state at offset 288, counted from offset 260
pub from_data : (events : List HostEvent) (lines : ℕ → Lines) (start : ℕ) (b : Pc)
    → at_meeting events lines start b ≡ board_cycles events lines 28 (260 + start)
    (board_cycles events lines 4 (256 + start) b)
from_data events lines start b =
    let p : 4 + (256 + start) ≡ 260 + start = omega arith in
    cycles_more events lines 4 28 32 (256 + start) b refl ∙ ap
    (λ c. board_cycles events lines 28 c (board_cycles events lines 4 (256 + start) b)) p

-- whether the controller leaves the clock alone at a look, by the PC's side at the tick's look at the clock
abbrev pub lets_at : List HostEvent → (ℕ → Lines) → ℕ → Pc → ℕ → Bool
lets_at events lines start b look = (drive (board_cycles events lines (4 + look) (256 + start) b).side.port.link).clk

-- the same by the cycles after the first edge
pub as_cycle : (events : List HostEvent) (lines : ℕ → Lines) (start : ℕ) (b : Pc) (look n : ℕ) → look ≡ 28 + n
    → lets_at events lines start b look ≡ leaves_cycle events lines start b n
as_cycle events lines start b look n e =
    let p : 32 + (256 + start) ≡ 288 + start = omega arith in
    let q : 32 + n ≡ 4 + look = omega (arith, e) in
    ap (λ (c : Pc). (drive c.side.port.link).clk)
    (cycles_more events lines 32 n (4 + look) (256 + start) b q
    ∙ ap (λ c. board_cycles events lines n c (at_meeting events lines start b)) p)

module _ (events : List HostEvent) (lines : ℕ → Lines) (start : ℕ) where
  -- whether the controller leaves the clock alone at the look of cell k, by the PC's side at the first edge
  abbrev pub lets_from : Pc → ℕ → Bool
  lets_from c k = (drive (board_cycles events lines (32 * k + 18) (288 + start) c).side.port.link).clk

  -- by that at the look at data
  abbrev lets_after : Pc → ℕ → Bool
  lets_after b k = (drive (board_cycles events lines (28 + 32 * k + 18) (260 + start) b).side.port.link).clk

  -- these are one
  pub from_edge : (b : Pc) (k : ℕ) → lets_after b k ≡ lets_from (board_cycles events lines 28 (260 + start) b) k
  from_edge b k =
      let p : 28 + (260 + start) ≡ 288 + start = omega arith in
      ap (λ (c : Pc). (drive c.side.port.link).clk)
      (cycles_more events lines 28 (32 * k + 18) (28 + 32 * k + 18) (260 + start) b (omega arith)
      ∙ ap (λ c. board_cycles events lines (32 * k + 18) c (board_cycles events lines 28 (260 + start) b)) p)

  -- whether the controller leaves the clock alone at a cell's look is the same from the look at the clock and from
  -- that at data
  pub from_look : (b : Pc) (k : ℕ)
      → lets_after (board_cycles events lines 4 (256 + start) b) k ≡ leaves_clock events lines start b k
  from_look b k =
      from_edge (board_cycles events lines 4 (256 + start) b) k
      ∙ ap (λ c. lets_from c k) (sym (from_data events lines start b))

  -- one that is pulled since the looks is so at the first look of the frame
  pub pulled_lets : (c : Pc) (since : ℕ) → 256 + start ≤ since → pulled c.side.port.link ≡ Some since
      → lets_from c 0 ≡ false
  pulled_lets c since from pulls =
      pulls_low (board_cycles events lines 18 (288 + start) c).side.port.link since
      (pulled_span events lines 18 (288 + start) c since pulls (omega (arith, from))).1

module _ (events : List HostEvent) (lines : ℕ → Lines) (start : ℕ) (b : Pc)
    (up : IsUp lines (256 + start) (288 + start)) where
  up_to_edge : (o : ℕ) → 256 + start ≤ o → o < 256 + start + 32 → (lines o).clk ≡ true
  up_to_edge o l u = up o l (omega (arith, u))

  -- a link that is free at the tick's look at the clock, and no longer at the first edge, shows the clock low at the
  -- first look of the frame
  pub pulled_look : b.side.port.link ≡ Free → ((at_meeting events lines start b).side.port.link ≡ Free → ⊥)
      → leaves_clock events lines start b 0 ≡ false
  pulled_look here gone =
      elim (free_or_pulls events lines 32 (256 + start) b (omega arith) up_to_edge here) [
        | inl still ↦ absurd (gone still)
        | inr p ↦ pulled_lets events lines start (at_meeting events lines start b) p.since p.from p.is
      ]

  -- a request stays one up to the first edge
  pub request_at_edge : (byte : ℕ) → b.side.port.link ≡ Request byte
      → IsAt (board_cycles events lines 28 (260 + start) (board_cycles events lines 4 (256 + start) b)) (Request byte)
      true
  request_at_edge byte here =
      subst (λ q. IsAt q (Request byte) true) (from_data events lines start b)
      (request_at events lines (256 + start) b byte up_to_edge here)
