-- Spans of cycles while a byte is under way.
use Rattle.std.proofs.Common.{◌≡◌, ℕ, suc, zero, ◌+◌, ◌≤◌, ◌<◌, List, false, not, ◌&&◌, refl, ap, sym, ◌∙◌, inl, inr, arith}
use Rattle.ctl_link.specs.declared.link.Link.TheVariants.{Busy}
use Rattle.board_terms.specs.declared.event.HostEvent.{HostEvent}
use Rattle.board_terms.specs.declared.lines.Lines.{Lines}
use Rattle.ctl_wire.specs.declared.wire.Wire.{Wire}
use Rattle.ctl_wire.specs.Wires.{Pc, board_cycle}
use Rattle.model_controller.specs.ByteTime.{quietly}
use Rattle.law_wires_agree.specs.Without.{seen_in_bytes}
use Rattle.law_wires_agree.specs.Cycles.{board_cycles}
use Rattle.law_wires_agree.proofs.Spans.{IsAt, On, busy_cycle}
use Rattle.law_wires_agree.proofs.Pulls.{pulled_span}

-- cycles without a falling clock while a byte is under way; the cycle before them is `before`
pub busy_span : (events : List HostEvent) (latch : ℕ → Lines) (n before : ℕ) (b : Pc) (w : Wire) → n ≤ 31
    → IsAt b (Busy w) (latch before).clk
    → ((o : ℕ) → before ≤ o → o < before + n → ((latch o).clk && not (latch (suc o)).clk) ≡ false)
    → (seen_in_bytes (board_cycles events latch n (suc before) b).side ≡ quietly events n (suc before) (seen_in_bytes b.side))
    × On (board_cycles events latch n (suc before) b) w (latch (n + before)).clk (suc before)
busy_span events latch zero before b w short at h =
    let z : 0 + before ≡ before = omega arith in
    (refl, inl (record { link_is = at.link_is; clock_is = at.clock_is ∙ ap (λ k. (latch k).clk) (sym z) }))
busy_span events latch (suc n) before b w short at h =
    let one = busy_cycle events (suc before) (latch (suc before)) b w (latch before).clk at (h before (omega arith) (omega arith)) in
    let next : Pc = board_cycle events (suc before) (latch (suc before)) b in
    elim one.1 [
      | inl stays ↦
          let rest = busy_span events latch n (suc before) next w (omega (arith, short)) stays (λ o l u. h o (omega arith) (omega arith)) in
          let z : n + suc before ≡ suc n + before = omega arith in (
            rest.0 ∙ ap (λ m. quietly events n (suc (suc before)) m) one.0,
            elim rest.1 [
              | inl on ↦ inl (record { link_is = on.link_is; clock_is = on.clock_is ∙ ap (λ k. (latch k).clk) z })
              | inr broken ↦ let p = broken.1 in inr (broken.0, record { since = p.since; from = omega (arith, p.from); is = p.is })
            ],
          )
      | inr broken ↦
          let p = broken.1 in
          let rest = pulled_span events latch n (suc (suc before)) next p.since p.is (omega (arith, p.from, short)) in (
            rest.0 ∙ ap (λ m. quietly events n (suc (suc before)) m) one.0,
            inr (broken.0, record { since = p.since; from = p.from; is = rest.1 }),
          )
    ]
