-- What the joint run does from a stage on, until it comes to one of a set.
use Rattle.std.specs.Prelude.{◌≡◌, ◌≤◌, ◌<◌, ℕ, ◌+◌, true, List, Some}
use Rattle.mcs48_isa.specs.declared.operation.Decoded.{Decoded}
use Rattle.mcs48_core.specs.Cpu.{Cpu}
use Rattle.mcs48_core.specs.Step.{row_at}
use Rattle.joint_run.specs.Run.{Board, World}
use Rattle.joint_run.specs.Starts.{calm}
use Rattle.law_fw_logic.proofs.TimerParts.{IsFree, is_closed, IsTiming, IsLater, IsAsking, timer_parts, total}
use Rattle.law_fw_logic.proofs.Path.{Stage, Code, world_at}

-- the rows at the places of a code are those of its bytes, and take 1 or 2 cycles
abbrev pub HasRows : Code → Type 0
HasRows code = (pc : ℕ) (r : Decoded) → code.row pc ≡ Some r → (row_at code.bytes pc ≡ Some r) × (r.cycles ≤ 2)

-- the instruction at the counter lets no interrupt in, so it isn't a service's end
pub record LetsNone (bytes : List ℕ) (m : Cpu) : Type 0 where
  pub row : Decoded
  pub is : row_at bytes m.pc ≡ Some row
  pub closed : is_closed row.op ≡ true

-- the joint run comes from a stage to one of the set; it meets no tick start, no interrupt can come, and where the code
-- leaves the timer alone it goes on by the cycles, and asks if it overflows
pub record Leads (d : Board) (code : Code) (x : ℕ) (s : Stage d.State) (Q : Stage d.State → Type 0) : Type 0 where
  pub steps : ℕ
  pub end : Stage d.State
  pub run : calm d code.tick code.bytes steps (world_at x s) ≡ Some (world_at x end)
  pub goal : Q end
  pub each : (k : ℕ) (one : World d.State) → k < steps → calm d code.tick code.bytes k (world_at x s) ≡ Some one
      → LetsNone code.bytes one.cpu
  pub free : IsFree end.cpu
  pub order : s.off ≤ end.off
  pub timer_later : code.timed ≡ true → IsTiming (timer_parts s.cpu) → total (timer_parts s.cpu) + end.off < 8192 + s.off
      → IsLater (timer_parts s.cpu) (timer_parts end.cpu) s.off end.off
  pub over : code.timed ≡ true → IsTiming (timer_parts s.cpu) → s.cpu.tim_on ≡ true
      → IsAsking (timer_parts s.cpu) (timer_parts end.cpu) s.off end.off
