-- A tick start on time keeps the cadence.
use Rattle.std.proofs.Common.{◌≡◌, ◌≤◌, ℕ, ◌+◌, ◌-◌, ◌*◌, arith}
use Rattle.board_terms.specs.Cadence.{IsNear}
use Rattle.joint_run.specs.Joint.{Beside}
use Rattle.joint_run.specs.Run.{World}
use Rattle.law_fw_logic.specs.Ticks.{IsOnTime}

-- it is as many cycles late as the prescaler says, less two: one at most
pub record InTime (n : ℕ) (w : World Beside) : Type 0 where
  pub cycle : w.cycle ≡ 4096 + 2048 * n + (w.cpu.pre - 2)
  pub most : w.cpu.pre - 2 ≤ 1
  pub near : IsNear n (w.cycle - 4096)
  pub stamp : w.cycle ≡ 4096 + (w.cycle - 4096)

-- so it is where the prescaler is 2 or 3
pub on_time : (n : ℕ) (w : World Beside) → IsOnTime n w → 2 ≤ w.cpu.pre → w.cpu.pre ≤ 3 → InTime n w
on_time n w time least most = record {
  cycle = omega (arith, time, least);
  most = omega (arith, most);
  near = record { least = omega (arith, time, least); most = omega (arith, time, most) };
  stamp = omega (arith, time, least);
}
