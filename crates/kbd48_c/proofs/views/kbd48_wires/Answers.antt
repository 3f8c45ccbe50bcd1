use Rattle.std.proofs.Common.{◌≡◌, refl, subst, pos}
use Rattle.joint_run.specs.Joint.{latch_of}
use Rattle.ctl_wire.specs.Wires.{wires}
use Rattle.live_board.specs.Pasts.{Past}
use Rattle.live_board.specs.States.{HasPast}
use Rattle.kbd48_c.specs.Exports.{HasShownWires}
use Rattle.kbd48_c.proofs.Through.{through_look}
use Rattle.kbd48_c.proofs.views.kbd48_wires.Goals as goal

pub returns-in-Some-clause-wires : goal.returns-in-Some-clause-wires
returns-in-Some-clause-wires c =
    through_look (HasShownWires c.wires-line.result.clk c.wires-line.result.dat) c.args.handle.now.keyboard
    c.holding.result.keyboard (pos 0) c.in-Some.keyboard.value
    c.in-Some.ensures.taken c.holding.ensures (
      (refl, refl),
      subst (λ k. (p : Past) → (s : HasPast p k) → c.wires-line.result ≡ wires (latch_of s.world.cpu.p2) s.world.board.pc)
          c.deref.ensures c.wires-line.ensures.state,
    )
