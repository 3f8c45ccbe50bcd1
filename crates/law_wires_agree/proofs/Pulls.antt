-- While the controller pulls the clock, no latch of the keyboard changes anything.
use Rattle.std.proofs.Common.{◌≡◌, ℕ, suc, zero, ◌+◌, ◌≤◌, ◌<◌, List, Bool, not, ◌&&◌, Some, refl, ap, ◌∙◌, subst, sym, arith}
use Rattle.ctl_link.specs.declared.link.Link.TheVariants.{Free}
use Rattle.ctl_link.specs.declared.port.LinkEnd.{LinkEnd}
use Rattle.ctl_link.specs.Link.{settled, is_busy}
use Rattle.ctl_link.proofs.Breaks.{unbroken, pulled_idle}
use Rattle.ctl_link.specs.Pulls.{pulled, Begins}
use Rattle.ctl_link.proofs.Pulls.{keeps_pull, begins_pull}
use Rattle.board_terms.specs.declared.event.HostEvent.{HostEvent}
use Rattle.board_terms.specs.declared.lines.Lines.{Lines}
use Rattle.ctl_wire.specs.declared.wire.Wire.{Wire}
use Rattle.ctl_wire.proofs.Pulls.{look_keeps}
use Rattle.host_turn.specs.Run.{Side, goes_on}
use Rattle.host_turn.proofs.Turns.{turn_of}
use Rattle.host_turn.specs.Cycle.{port_by}
use Rattle.ctl_wire.specs.Wires.{Pc, board_cycle, looked, wires}
use Rattle.ctl_wire.specs.Wire.{is_breakable}
use Rattle.model_controller.specs.ByteTime.{quietly}
use Rattle.law_wires_agree.specs.Without.{seen_in_bytes}
use Rattle.law_wires_agree.specs.Cycles.{board_cycles}
use Rattle.law_wires_agree.specs.Laws.{WhilePulled}
use Rattle.law_wires_agree.proofs.Spans.{board_by, still_cycle}

module _ (F : Type 0) (opens : F → Bool) where
  -- a cycle keeps a pull of less than 64 cycles
  pub stays_pulled : (events : List HostEvent) (now : ℕ) (s : Side F) (h : ℕ) → pulled s.port.link ≡ Some h
      → now < h + 64 → pulled (goes_on opens events now s).port.link ≡ Some h
  unfolding goes_on
  stays_pulled events now s h e early =
      let p : LinkEnd F = port_by (turn_of events now s) s.port in
      ap (λ q. pulled (settled now q).port.link) (unbroken opens now p (pulled_idle opens s.port.link h e)) ∙ keeps_pull F now p h e early

  -- from a free link it stays free, or the controller begins to pull
  pub free_begins : (events : List HostEvent) (now : ℕ) (s : Side F) → s.port.link ≡ Free
      → Begins now (goes_on opens events now s).port.link
  unfolding goes_on
  free_begins events now s e =
      let p : LinkEnd F = port_by (turn_of events now s) s.port in
      subst (λ q. Begins now (settled now q).port.link) (sym (unbroken opens now p (ap is_busy e))) (begins_pull F now p e)

-- the look, while the controller pulls
looks_pulled : (now : ℕ) (latch : Lines) (b : Pc) (h : ℕ) → pulled b.side.port.link ≡ Some h → (looked now (wires latch b) b).side ≡ b.side
looks_pulled now latch b h e =
    ap (λ q. record b.side { port = q })
    (look_keeps (b.clock && not (wires latch b).clk) now (wires latch b).dat b.side.port b.side.port.link h e)

-- cycles in which the controller pulls, whatever the keyboard does
pub pulled_span : (events : List HostEvent) (latch : ℕ → Lines) (n now : ℕ) (b : Pc) (h : ℕ)
    → pulled b.side.port.link ≡ Some h → now + n ≤ h + 64
    → (seen_in_bytes (board_cycles events latch n now b).side ≡ quietly events n now (seen_in_bytes b.side))
    × (pulled (board_cycles events latch n now b).side.port.link ≡ Some h)
pulled_span events latch zero now b h e l = (refl, e)
pulled_span events latch (suc n) now b h e l =
    let next : Pc = board_cycle events now (latch now) b in
    let same : (looked now (wires (latch now) b) b).side ≡ b.side = looks_pulled now (latch now) b h e in
    let on : pulled next.side.port.link
    ≡ Some h = ap (λ s. pulled s.port.link) (board_by events now (latch now) b b.side same)
    ∙ stays_pulled Wire is_breakable events now b.side h e (omega (arith, l)) in
    let rest = pulled_span events latch n (suc now) next h on (omega (arith, l)) in
    (rest.0 ∙ ap (λ m. quietly events n (suc now) m) (still_cycle events now (latch now) b same), rest.1)

-- in the 64 cycles of a pull the PC's side goes on as in byte time, whatever the keyboard drives
pub while_pulled : WhilePulled
while_pulled events latch n now b since e l = pulled_span events latch n now b since e l
