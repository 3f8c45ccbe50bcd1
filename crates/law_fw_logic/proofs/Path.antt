-- What is to be shown for a path of instructions that is executed by the definitions of a step.
use Rattle.std.specs.Prelude.{◌≡◌, ℕ, zero, suc, ◌+◌, ◌%◌, Bool, true, false, not, ◌==◌, List, [], ◌∷◌, Some, None}
use Rattle.std.specs.declared.option.Option.{Option}
use Rattle.mcs48_isa.specs.declared.operation.Decoded.{Decoded}
use Rattle.mcs48_isa.specs.declared.operation.Op.{Op}
use Rattle.mcs48_isa.specs.declared.operation.Op.TheVariants.{Moves, Alu, Unary, Flow, PortIo, Control}
use Rattle.mcs48_isa.specs.declared.operation.FlowOp.{FlowOp}
use Rattle.mcs48_isa.specs.declared.operation.FlowOp.TheVariants.{Jmp, Call, Ret, Retr, Jmpp, Djnz, Jb, Jc, Jnc, Jz}
use Rattle.mcs48_isa.specs.declared.operation.FlowOp.TheVariants.{Jnz, Jt0, Jnt0, Jt1, Jnt1, Jf0, Jf1, Jtf, Jni}
use Rattle.mcs48_core.specs.declared.levels.Pins.{Pins}
use Rattle.mcs48_core.specs.Cpu.{Cpu}
use Rattle.bits.specs.Bits.{bit}
use Rattle.mcs48_core.specs.Registers.{past, register, with_register}
use Rattle.mcs48_core.specs.Flow.{branch}
use Rattle.mcs48_core.specs.Timer.{after_timer}
use Rattle.mcs48_core.specs.Step.{effect}
use Rattle.joint_run.specs.Run.{Board, World, after_cycles}
use Rattle.law_fw_logic.proofs.TimerParts.{is_plain, is_closed}

-- a state at an offset from a cycle
pub record Stage (S : Type 0) : Type 0 where
  pub cpu : Cpu
  pub board : S
  pub off : ℕ

abbrev pub world_at : {S : Type 0} → ℕ → Stage S → World S
world_at x s = record { cpu = s.cpu; board = s.board; cycle = x + s.off }

abbrev pub pins_at : (d : Board) → ℕ → Stage d.State → Pins
pins_at d x s = d.pins s.cpu.p1 s.cpu.p2 (x + s.off) s.board

-- the stage after an instruction of these cycles that leaves this processor
abbrev pub moved : (d : Board) → ℕ → ℕ → Cpu → Stage d.State → Stage d.State
moved d x c m s = record { cpu = m; board = after_cycles c s.off (λ o. d.cycle m.p2 (x + o)) s.board; off = s.off + c }

-- the condition of a jump
abbrev pub condition : FlowOp → Pins → Cpu → Option Bool
condition (Djnz r to) pins m = Some (not ((register r m + 255) % 256 == 0))
condition (Jb b to) pins m = Some (bit b m.a)
condition (Jc to) pins m = Some m.c
condition (Jnc to) pins m = Some (not m.c)
condition (Jz to) pins m = Some (m.a == 0)
condition (Jnz to) pins m = Some (not (m.a == 0))
condition (Jt0 to) pins m = Some pins.t0
condition (Jnt0 to) pins m = Some (not pins.t0)
condition (Jt1 to) pins m = Some pins.t1
condition (Jnt1 to) pins m = Some (not pins.t1)
condition (Jf0 to) pins m = Some m.f0
condition (Jf1 to) pins m = Some m.f1
condition (Jni to) pins m = Some (not pins.int_pin)
condition (Jmp to) pins m = None
condition (Call to) pins m = None
condition Ret pins m = None
condition Retr pins m = None
condition Jmpp pins m = None
condition (Jtf to) pins m = Some m.tf

-- a jump whose condition is answered
abbrev pub answered : FlowOp → Bool → Cpu → Cpu
answered (Djnz r to) b m = branch b to (with_register r ((register r m + 255) % 256) m)
answered (Jb k to) b m = branch b to m
answered (Jc to) b m = branch b to m
answered (Jnc to) b m = branch b to m
answered (Jz to) b m = branch b to m
answered (Jnz to) b m = branch b to m
answered (Jt0 to) b m = branch b to m
answered (Jnt0 to) b m = branch b to m
answered (Jt1 to) b m = branch b to m
answered (Jnt1 to) b m = branch b to m
answered (Jf0 to) b m = branch b to m
answered (Jf1 to) b m = branch b to m
answered (Jni to) b m = branch b to m
answered (Jtf to) b m = branch b to (record m { tf = false })
answered op b m = m

-- notes of a path: so many instructions; instructions up to a place; instructions up to a test, and its answer; a count
-- (DJNZ), and its answer; A, or the data memory, in other words; instructions up to a test, both ways of which meet
-- at a place in one state, by the state before, the answer and the timer
pub data Note : Type 0 where
  Run : ℕ → Note
  Until : ℕ → Note
  Go : Bool → Note
  Count : Bool → Note
  Acc : ℕ → Note
  Ram : List ℕ → Note
  Fork : ℕ → (Cpu → Bool → Cpu → Cpu) → Note

-- the code that is executed: the rows at its places, the place of the tick, the image's bytes, and whether the timer is
-- left alone
pub record Code : Type 0 where
  pub bytes : List ℕ
  pub row : ℕ → Option Decoded
  pub tick : ℕ
  pub timed : Bool

-- an instruction that a path may have
abbrev pub is_taken : Bool → Op → Bool
is_taken true op = is_plain op
is_taken false op = is_closed op

-- the processor after a row
abbrev pub left : (d : Board) → Code → ℕ → Decoded → Stage d.State → Cpu
left d code x r s = after_timer s.cpu.run r.cycles (pins_at d x s) (effect r.op code.bytes (pins_at d x s) (past s.cpu))

-- an instruction that isn't asked
abbrev pub Plainly : (d : Board) → Code → ℕ → Option Decoded → Stage d.State → (Stage d.State → Type 0) → Type 0
Plainly d code x None s K = ⊥
Plainly d code x (Some r) s K =
    elim (is_taken code.timed r.op) [ true ↦ K (moved d x r.cycles (left d code x r s) s) | false ↦ ⊥ ]

-- and it isn't the tick's
abbrev pub Quiet : (d : Board) → Code → ℕ → Stage d.State → (Stage d.State → Type 0) → Type 0
Quiet d code x s K = elim (s.cpu.pc % 2048 == code.tick) [ true ↦ ⊥ | false ↦ Plainly d code x (code.row s.cpu.pc) s K ]

abbrev pub Runs : (d : Board) → Code → ℕ → ℕ → Stage d.State → (Stage d.State → Type 0) → Type 0
Runs d code x zero s K = K s
Runs d code x (suc n) s K = Quiet d code x s (λ t. Runs d code x n t K)

-- such instructions up to one that is the last by its place
abbrev pub Untils : (d : Board) → Code → ℕ → (ℕ → Bool) → ℕ → Stage d.State → (Stage d.State → Type 0) → Type 0
Untils d code x last zero s K = ⊥
Untils d code x last (suc n) s K =
    elim (last s.cpu.pc) [ true ↦ K s | false ↦ Quiet d code x s (λ t. Untils d code x last n t K) ]

-- a test: a jump with a condition that isn't a count
abbrev pub is_test : Op → Bool
is_test (Flow (Jb b to)) = true
is_test (Flow (Jc to)) = true
is_test (Flow (Jnc to)) = true
is_test (Flow (Jz to)) = true
is_test (Flow (Jnz to)) = true
is_test (Flow (Jt0 to)) = true
is_test (Flow (Jnt0 to)) = true
is_test (Flow (Jt1 to)) = true
is_test (Flow (Jnt1 to)) = true
is_test (Flow (Jf0 to)) = true
is_test (Flow (Jf1 to)) = true
is_test op = false

abbrev pub is_tested : Option Decoded → Bool
is_tested None = false
is_tested (Some r) = is_test r.op

-- whether a place has a test
abbrev pub tests_at : Code → ℕ → Bool
tests_at code pc = is_tested (code.row pc)

abbrev pub Is : Option Bool → Bool → Type 0 → Type 0
Is None o P = ⊥
Is (Some b) o P = (b ≡ o) × P

abbrev pub Jumps : (d : Board) → Code → ℕ → Option Decoded → Bool → Stage d.State → (Stage d.State → Type 0) → Type 0
Jumps d code x None b s K = ⊥
Jumps d code x (Some r) b s K = elim r.op [
  | Flow op ↦ elim (is_taken code.timed (Flow op)) [
    | true ↦ Is (condition op (pins_at d x s) (past s.cpu)) b
        (K (moved d x r.cycles (after_timer s.cpu.run r.cycles (pins_at d x s) (answered op b (past s.cpu))) s))
    | false ↦ ⊥
  ]
  | Moves op ↦ ⊥
  | Alu op ↦ ⊥
  | Unary op ↦ ⊥
  | PortIo op ↦ ⊥
  | Control op ↦ ⊥
]

abbrev pub Answers : (d : Board) → Code → ℕ → Bool → Stage d.State → (Stage d.State → Type 0) → Type 0
Answers d code x b s K = elim (s.cpu.pc % 2048
    == code.tick) [ true ↦ ⊥ | false ↦ Jumps d code x (code.row s.cpu.pc) b s K ]

-- the stage after a jump of these cycles, answered
abbrev pub jumped : (d : Board) → ℕ → ℕ → FlowOp → Bool → Stage d.State → Stage d.State
jumped d x cycles op b s = moved d x cycles (after_timer s.cpu.run cycles (pins_at d x s) (answered op b (past s.cpu)))
    s

-- both ways of a jump; they meet at one offset, with one board, and the path goes on with the answer as a term
abbrev pub Meets : (d : Board) → Code → ℕ → ℕ → (Cpu → Bool → Cpu → Cpu) → ℕ → FlowOp → Stage d.State → Option Bool
    → (Stage d.State → Type 0) → Type 0
Meets d code x p F cycles op s None K = ⊥
Meets d code x p F cycles op s (Some b) K =
    Untils d code x (λ pc. pc == p) 200 (jumped d x cycles op true s) (λ t.
    (t.cpu ≡ F s.cpu true t.cpu) × Untils d code x (λ pc. pc == p) 200 (jumped d x cycles op false s) (λ u.
    (u.cpu ≡ F s.cpu false u.cpu) × (u.board ≡ t.board) × (u.off ≡ t.off)
    × ((e : Cpu) → K (record { cpu = F s.cpu b e; board = t.board; off = t.off }))))

abbrev pub Forks : (d : Board) → Code → ℕ → ℕ → (Cpu → Bool → Cpu → Cpu) → Option Decoded → Stage d.State
    → (Stage d.State → Type 0) → Type 0
Forks d code x p F None s K = ⊥
Forks d code x p F (Some r) s K = elim r.op [
  | Flow op ↦ elim (is_taken code.timed
      (Flow op)) [ true ↦ Meets d code x p F r.cycles op s (condition op (pins_at d x s) (past s.cpu)) K | false ↦ ⊥ ]
  | Moves op ↦ ⊥
  | Alu op ↦ ⊥
  | Unary op ↦ ⊥
  | PortIo op ↦ ⊥
  | Control op ↦ ⊥
]

abbrev pub Parts : (d : Board) → Code → ℕ → ℕ → (Cpu → Bool → Cpu → Cpu) → Stage d.State → (Stage d.State → Type 0)
    → Type 0
Parts d code x p F s K = elim (s.cpu.pc % 2048
    == code.tick) [ true ↦ ⊥ | false ↦ Forks d code x p F (code.row s.cpu.pc) s K ]

abbrev pub Path : (d : Board) → Code → ℕ → List Note → Stage d.State → (Stage d.State → Type 0) → Type 0
Path d code x [] s Q = Q s
Path d code x (Run n ∷ rest) s Q = Runs d code x n s (λ t. Path d code x rest t Q)
Path d code x (Until p ∷ rest) s Q = Untils d code x (λ pc. pc == p) 1000 s (λ t. Path d code x rest t Q)
Path d code x (Go b ∷ rest) s Q =
    Untils d code x (tests_at code) 1000 s (λ t. Answers d code x b t (λ u. Path d code x rest u Q))
Path d code x (Count b ∷ rest) s Q = Answers d code x b s (λ t. Path d code x rest t Q)
Path d code x (Acc v ∷ rest) s Q = (s.cpu.a ≡ v) × Path d code x rest (record s { cpu = record s.cpu { a = v } }) Q
Path d code x (Ram ram ∷ rest) s Q =
    (s.cpu.ram ≡ ram) × Path d code x rest (record s { cpu = record s.cpu { ram = ram } }) Q
Path d code x (Fork p F ∷ rest) s Q =
    Untils d code x (tests_at code) 1000 s (λ t. Parts d code x p F t (λ u. Path d code x rest u Q))
