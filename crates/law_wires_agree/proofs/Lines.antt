-- Lines that agree give one PC's side.
use Rattle.std.proofs.Common.{◌≡◌, ℕ, suc, zero, ◌+◌, ◌≤◌, ◌<◌, List, refl, ap, ◌∙◌, arith}
use Rattle.board_terms.specs.declared.event.HostEvent.{HostEvent}
use Rattle.board_terms.specs.declared.lines.Lines.{Lines}
use Rattle.ctl_wire.specs.Wires.{Pc, board_cycle}
use Rattle.law_wires_agree.specs.Cycles.{board_cycles}

-- if the keyboard drives the same in n cycles, the PC's side is the same after them
pub same_lines : (events : List HostEvent) (one other : ℕ → Lines) (n now : ℕ) (b : Pc)
    → ((o : ℕ) → now ≤ o → o < now + n → one o ≡ other o)
    → board_cycles events one n now b ≡ board_cycles events other n now b
same_lines events one other zero now b same = refl
same_lines events one other (suc n) now b same =
    ap (λ l. board_cycles events one n (suc now) (board_cycle events now l b)) (same now (omega arith) (omega arith))
    ∙ same_lines events one other n (suc now) (board_cycle events now (other now) b) (λ o a u. same o (omega (arith, a)) (omega (arith, u)))
