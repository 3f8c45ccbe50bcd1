-- A cycle of the loop is a cycle of the joint run.
use Rattle.std.proofs.Common.{◌≡◌, ℕ, zero, suc, ◌+◌, List, refl, ap, ◌∙◌}
use Rattle.board_terms.specs.declared.event.HostEvent.{HostEvent}
use Rattle.std.specs.Prelude.{slice_get}
use Rattle.ctl_half.specs.Controllers.{looked}
use Rattle.ctl_wire.specs.Wires.{board_cycle}
use Rattle.host_turn.specs.Host.{turn}
use Rattle.host_turn.specs.Run.{goes_on}
use Rattle.joint_run.specs.Joint.{Beside, joint_cycle}
use Rattle.joint_run.specs.Run.{after_cycles}
use Rattle.law_halves_agree.specs.Law.{pc_side}
use Rattle.law_halves_agree.specs.Loop.{host_at, loop_cycle, wires_at, with_host}
use Rattle.law_halves_agree.proofs.Pins.{pins_are}

-- what is beside the processor after a cycle
pub one_cycle : (events : List HostEvent) (p2 now : ℕ) (s : Beside)
    → loop_cycle events p2 now (pc_side s) ≡ pc_side (joint_cycle events p2 now s)
unfolding joint_cycle board_cycle goes_on
one_cycle events p2 now s =
    let at = pc_side s in
    let ctl = looked now (wires_at p2 at.ctl) at.ctl in
    let acted = turn now ctl.port.filled (slice_get events at.done) (host_at ctl at) in
    let port = (with_host acted.host ctl).port in
    ap (λ settled. record (loop_cycle events p2 now at) {
      ctl = record { port = settled.port; clock = ctl.clock; pins = 0xb0 };
    }) (pins_are now port)

-- and after several
pub more_cycles : (events : List HostEvent) (p2 n now : ℕ) (s : Beside)
    → after_cycles n now (loop_cycle events p2) (pc_side s) ≡ pc_side (after_cycles n now (joint_cycle events p2) s)
more_cycles events p2 zero now s = refl
more_cycles events p2 (suc n) now s =
    ap (after_cycles n (now + 1) (loop_cycle events p2)) (one_cycle events p2 now s)
    ∙ more_cycles events p2 n (now + 1) (joint_cycle events p2 now s)
