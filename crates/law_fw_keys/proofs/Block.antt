-- What a block of code leaves that writes no port: place, time, A and memory.
use Rattle.std.specs.Prelude.{◌≡◌, ◌≤◌, ◌<◌, ℕ, List, length, slice_index}
use Rattle.mcs48_core.specs.Cpu.{Cpu}
use Rattle.joint_run.specs.Run.{Board, after_cycles}
use Rattle.law_fw_logic.proofs.TimerParts.{IsFree}
use Rattle.mcs48_ranges.specs.Sizes.{IsFine}
use Rattle.law_fw_logic.proofs.Path.{Stage}
use Rattle.law_fw_logic.proofs.Block.{memory, scratched, Shape}

-- the block ends at a place in time, and A and memory are then of the set
pub record Ends (d : Board) (x : ℕ) (m : Cpu) (board : d.State) (pc max : ℕ) (M : ℕ → (ℕ → ℕ) → List ℕ → Type 0)
    (e : Stage d.State) : Type 0 where
  pub now : ℕ → ℕ
  pub ring : List ℕ
  pub cpu : e.cpu ≡ scratched m pc (memory now ring) e.cpu
  pub short : e.off ≤ max
  pub board_now : e.board ≡ after_cycles e.off x (d.cycle m.p2) board
  pub facts : M e.cpu.a now ring

-- what every block may assume: no interrupt comes, and bytes are bytes
abbrev pub Safe : Cpu → ℕ → (ℕ → ℕ) → List ℕ → Type 0
Safe m pc f ring = IsFree m × IsFine (scratched m pc (memory f ring) m)

-- the same of the cells and the ring
pub record Bytes (f : ℕ → ℕ) (ring : List ℕ) : Type 0 where
  pub cell : (i : ℕ) → i < 112 → f i < 256
  pub size : length ring ≡ 16
  pub byte : (i : ℕ) → i < 16 → slice_index ring i < 256

abbrev pub ShapeA : (d : Board) → ℕ → Cpu → d.State → ℕ → ℕ → ℕ → (ℕ → ℕ) → List ℕ → Stage d.State → Type 0
ShapeA d x m board pc max v f ring e = Shape d x m board pc max f ring e × (e.cpu.a ≡ v)
