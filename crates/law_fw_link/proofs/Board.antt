-- The joint run's board, and any above it, under a frame's latch: the cycles at the wires, and what the looks see.
use Rattle.std.proofs.Common.{◌≡◌, ◌≤◌, ◌<◌, ℕ, suc, zero, ◌+◌, List, [], ◌++◌, true, ◌&&◌, ◌==◌, refl, ap, sym}
use Rattle.std.proofs.Common.{◌∙◌, arith}
use Rattle.std.proofs.lemmas.List.{append-nil}
use Rattle.board_terms.specs.declared.event.Edge.{Edge}
use Rattle.board_terms.specs.declared.event.HostEvent.{HostEvent}
use Rattle.board_terms.specs.declared.lines.Lines.{Lines}
use Rattle.ctl_wire.specs.Wire.{drive}
use Rattle.law_fw_link.proofs.Latches.{driven}
use Rattle.law_fw_link.proofs.Over.{IsOver, driven_over}
use Rattle.law_fw_link.proofs.Watching.{same_number}
use Rattle.host_turn.specs.Run.{lights_said}
use Rattle.joint_run.specs.Joint.{Beside, latch_of, lights_of, joint_cycle, joint_pins, joint_board}
use Rattle.joint_run.specs.Run.{Board}
use Rattle.mcs48_core.specs.declared.levels.Pins.{Pins}
use Rattle.ctl_wire.specs.Wires.{board_cycle}
use Rattle.law_wires_agree.specs.Cycles.{board_cycles}

none_said : (now shown lights : ℕ) → lights ≡ shown → lights_said now shown lights ≡ []
none_said now shown lights e = let s : (lights == shown) ≡ true = same_number lights shown e in rw s refl

-- a cycle in which the lights stay as they are shown
pub one_cycle : (events : List HostEvent) (p2 now : ℕ) (s : Beside) → lights_of p2 ≡ s.shown
    → joint_cycle events p2 now s ≡ record { pc = board_cycle events now (latch_of p2) s.pc; shown = s.shown }
unfolding joint_cycle
one_cycle events p2 now s e =
    let said : s.pc.side.log ++ lights_said now s.shown (lights_of p2) ≡ s.pc.side.log =
    ap (λ l. s.pc.side.log ++ l) (none_said now s.shown (lights_of p2) e) ∙ append-nil s.pc.side.log in
    ap (λ l. record {
      pc = board_cycle events now (latch_of p2) (record s.pc { side = record s.pc.side { log = l } });
      shown = lights_of p2;
    }) said
    ∙ ap (λ z. record { pc = board_cycle events now (latch_of p2) s.pc; shown = z }) e

-- cycles over a latch that leaves the lights as they are
pub at_wires : (edges : List Edge) (events : List HostEvent) (x : ℕ) (latch : ℕ → ℕ) (lines : ℕ → Lines) (n from : ℕ)
    (s : Beside)
    → ((o : ℕ) → from ≤ o → o < from + n → lights_of (latch o) ≡ s.shown)
    → ((o : ℕ) → from ≤ o → o < from + n → lines (x + o) ≡ latch_of (latch o))
    → driven (joint_board edges events) x latch n from s
    ≡ record { pc = board_cycles events lines n (x + from) s.pc; shown = s.shown }
at_wires edges events x latch lines zero from s lit is = refl
at_wires edges events x latch lines (suc n) from s lit is =
    let first : joint_cycle events (latch from) (x + from) s
    ≡ record { pc = board_cycle events (x + from) (lines (x + from)) s.pc; shown = s.shown } =
    one_cycle events (latch from) (x + from) s (lit from (omega arith) (omega arith))
    ∙ ap (λ q. record { pc = board_cycle events (x + from) q s.pc; shown = s.shown })
    (sym (is from (omega arith) (omega arith))) in
    let next : x + (from + 1) ≡ suc (x + from) = omega arith in
    ap (λ t. driven (joint_board edges events) x latch n (from + 1) t) first
    ∙ at_wires edges events x latch lines n (from + 1)
    (record { pc = board_cycle events (x + from) (lines (x + from)) s.pc; shown = s.shown })
    (λ o a b. lit o (omega (arith, a)) (omega (arith, b))) (λ o a b. is o (omega (arith, a)) (omega (arith, b)))
    ∙ ap (λ c. record {
      pc = board_cycles events lines n c (board_cycle events (x + from) (lines (x + from)) s.pc);
      shown = s.shown;
    }) next

-- any board above the joint board
module _ (edges : List Edge) (events : List HostEvent) (d : Board) (to : d.State → Beside)
    (over : IsOver edges events d to) where
  -- its joint board is known by the cycles at the wires, over a latch that leaves the lights as they are
  pub over_wires : (x : ℕ) (latch : ℕ → ℕ) (lines : ℕ → Lines) (n : ℕ) (s : d.State)
      → ((o : ℕ) → lights_of (latch o) ≡ (to s).shown)
      → ((o : ℕ) → o < n → lines (x + o) ≡ latch_of (latch o))
      → to (driven d x latch n 0 s) ≡ record { pc = board_cycles events lines n x (to s).pc; shown = (to s).shown }
  over_wires x latch lines n s lit is =
      let z : x + 0 ≡ x = omega arith in
      driven_over edges events d to over x latch n 0 s
      ∙ at_wires edges events x latch lines n 0 (to s) (λ o a b. lit o) (λ o a b. is o (omega (arith, b)))
      ∙ ap (λ c. record { pc = board_cycles events lines n c (to s).pc; shown = (to s).shown }) z

  -- what a look sees is what both sides drive
  pub clock_is : (p1 p2 cycle : ℕ) (s : d.State)
      → (d.pins p1 p2 cycle s).t0 ≡ ((latch_of p2).clk && (drive (to s).pc.side.port.link).clk)
  unfolding joint_pins
  clock_is p1 p2 cycle s = ap (λ (l : Pins). l.t0) (over.pins p1 p2 cycle s)

  -- the data wire is high exactly if both the keyboard and the controller let it go
  pub data_is : (p1 p2 cycle : ℕ) (s : d.State)
      → (d.pins p1 p2 cycle s).t1 ≡ ((latch_of p2).dat && (drive (to s).pc.side.port.link).dat)
  unfolding joint_pins
  data_is p1 p2 cycle s = ap (λ (l : Pins). l.t1) (over.pins p1 p2 cycle s)
