-- What a block of code leaves that writes no port. Its offsets count from its own start.
use Rattle.std.specs.Prelude.{◌≡◌, ℕ, zero, suc, ◌+◌, true, false, ◌==◌, nat_le, if◌then◌else◌, List, ◌∷◌}
use Rattle.mcs48_core.specs.Cpu.{Cpu}
use Rattle.joint_run.specs.Run.{Board, after_cycles}
use Rattle.law_fw_logic.proofs.Path.{Stage}

-- cells by a function, before a list
abbrev pub before : (ℕ → ℕ) → ℕ → ℕ → List ℕ → List ℕ
before f at zero ring = ring
before f at (suc n) ring = f at ∷ before f (at + 1) n ring

-- cells with one of them changed
abbrev pub put : (ℕ → ℕ) → ℕ → ℕ → ℕ → ℕ
put f k v i = if i == k then v else f i

-- data memory: 112 cells, and the ring
abbrev pub memory : (ℕ → ℕ) → List ℕ → List ℕ
memory f ring = before f 0 112 ring

-- a processor at a place with a memory, in bank 1 and the lower half of the program, and with what a block may use: A,
-- the carries and the timer
abbrev pub scratched : Cpu → ℕ → List ℕ → Cpu → Cpu
scratched m pc ram e =
    record m {
      pc = pc;
      rb = true;
      mb = false;
      ram = ram;
      a = e.a;
      c = e.c;
      ac = e.ac;
      t = e.t;
      pre = e.pre;
      tf = e.tf;
      rq = e.rq;
      last_t1 = e.last_t1;
    }

abbrev pub begin_at : (d : Board) → ℕ → (ℕ → ℕ) → List ℕ → Cpu → d.State → Stage d.State
begin_at d pc f ring m board = record { cpu = scratched m pc (memory f ring) m; board = board; off = 0 }

-- where a path of known instructions ends
abbrev pub Shape : (d : Board) → ℕ → Cpu → d.State → ℕ → ℕ → (ℕ → ℕ) → List ℕ → Stage d.State → Type 0
Shape d x m board pc max f ring e =
    (e.cpu ≡ scratched m pc (memory f ring) e.cpu) × (nat_le e.off max ≡ true) ×
    (e.board ≡ after_cycles e.off 0 (λ o. d.cycle m.p2 (x + o)) board)

-- where a block ends: the place, the cells, the cycles it took, and the board; A, the carries and the timer are its own
pub record At (d : Board) (k : Cpu) (pc : ℕ) (f : ℕ → ℕ) (ring : List ℕ) (cycles : ℕ) (board : d.State)
    (e : Stage d.State) : Type 0 where
  pub cpu : e.cpu ≡ scratched k pc (memory f ring) e.cpu
  pub off : e.off ≡ cycles
  pub now : e.board ≡ board
