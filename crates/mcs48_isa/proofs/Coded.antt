-- The row that the bytes of an operation begin.
use Rattle.std.proofs.Common.{◌≡◌, ℕ, ◌+◌, ◌*◌, ◌/◌, ◌%◌, ◌<◌, IsSomeAnd, Some, None, refl, arith, subst}
use Rattle.std.specs.declared.option.Option.{Option}
use Rattle.mcs48_isa.specs.declared.operation.Decoded.{Decoded}
use Rattle.mcs48_isa.specs.declared.operation.MoveOp.{MoveOp}
use Rattle.mcs48_isa.specs.declared.operation.AluOp.{AluOp}
use Rattle.mcs48_isa.specs.declared.operation.UnaryOp.{UnaryOp}
use Rattle.mcs48_isa.specs.declared.operation.FlowOp.{FlowOp}
use Rattle.mcs48_isa.specs.declared.operation.PortOp.{PortOp}
use Rattle.mcs48_isa.specs.declared.operation.ControlOp.{ControlOp}
use Rattle.mcs48_isa.specs.declared.operation.Op.{Op}
use Rattle.mcs48_isa.specs.declared.operation.Op.TheVariants.{Moves, Alu, Unary, Flow, PortIo, Control}
use Rattle.mcs48_isa.specs.declared.operation.MoveOp.TheVariants.{MovAR, MovAI, MovRA, MovIA, MovRN, MovIN}
use Rattle.mcs48_isa.specs.declared.operation.MoveOp.TheVariants.{XchR, XchI, XchdI, MovxAI, MovxIA}
use Rattle.mcs48_isa.specs.declared.operation.AluOp.TheVariants.{AddR, AddI, AddcR, AddcI, AnlR, AnlI, OrlR, OrlI, XrlR, XrlI}
use Rattle.mcs48_isa.specs.declared.operation.UnaryOp.TheVariants.{IncR, IncI, DecR}
use Rattle.mcs48_isa.specs.declared.operation.FlowOp.TheVariants.{Jmp, Call, Djnz, Jb}
use Rattle.mcs48_isa.specs.declared.operation.PortOp.TheVariants.{MovdAP, MovdPA, OrldPA, AnldPA}
use Rattle.mcs48_isa.specs.declared.operation.ControlOp.TheVariants.{Nop}
use Rattle.mcs48_isa.specs.declared.operation.Code.{Code}
use Rattle.mcs48_isa.specs.Encoding.{code_of, row_of_code}
use Rattle.mcs48_isa.specs.Operands.{IsMove, IsAlu, IsUnary, IsFlow, IsPort, IsOp}
use Rattle.mcs48_isa.specs.Table.{row_of}
use Rattle.mcs48_isa.proofs.Cases.{pointers, ports, registers}

-- the row of the bytes of an operation is that operation, with its length
abbrev pub IsCoded : Op → Type 0
IsCoded op =
    let code = code_of op in
    IsSomeAnd (row_of_code code) (λ d. (d.op ≡ op) × (d.len ≡ code.len))

-- the same of a jump with this first byte, to this address
abbrev IsJump : (ℕ → FlowOp) → ℕ → ℕ → ℕ → Type 0
IsJump op b n a = IsSomeAnd (row_of b n) (λ d. (d.op ≡ Flow (op a)) × (d.len ≡ 2))

jumps : (p n : ℕ) → p < 8 → IsJump Jmp (0x04 + 32 * p) n (p * 256 + n)
jumps p n h =
    registers (λ p. IsJump Jmp (0x04 + 32 * p) n (p * 256 + n))
    ((refl, refl), (refl, refl), (refl, refl), (refl, refl), (refl, refl), (refl, refl), (refl, refl), (refl, refl))
    p h

calls : (p n : ℕ) → p < 8 → IsJump Call (0x14 + 32 * p) n (p * 256 + n)
calls p n h =
    registers (λ p. IsJump Call (0x14 + 32 * p) n (p * 256 + n))
    ((refl, refl), (refl, refl), (refl, refl), (refl, refl), (refl, refl), (refl, refl), (refl, refl), (refl, refl))
    p h

page_and_low : (a : ℕ) → a / 256 * 256 + a % 256 ≡ a
page_and_low a = omega arith

move_coded : (op : MoveOp) → IsMove op → IsCoded (Moves op)
move_coded (MovAR r) within =
    registers (λ r. IsCoded (Moves (MovAR r)))
    ((refl, refl), (refl, refl), (refl, refl), (refl, refl), (refl, refl), (refl, refl), (refl, refl), (refl, refl))
    r within
move_coded (MovAI i) within =
    pointers (λ i. IsCoded (Moves (MovAI i)))
    ((refl, refl), (refl, refl))
    i within
move_coded (MovRA r) within =
    registers (λ r. IsCoded (Moves (MovRA r)))
    ((refl, refl), (refl, refl), (refl, refl), (refl, refl), (refl, refl), (refl, refl), (refl, refl), (refl, refl))
    r within
move_coded (MovIA i) within =
    pointers (λ i. IsCoded (Moves (MovIA i)))
    ((refl, refl), (refl, refl))
    i within
move_coded (MovRN r n) within =
    registers (λ r. IsCoded (Moves (MovRN r n)))
    ((refl, refl), (refl, refl), (refl, refl), (refl, refl), (refl, refl), (refl, refl), (refl, refl), (refl, refl))
    r within
move_coded (MovIN i n) within =
    pointers (λ i. IsCoded (Moves (MovIN i n)))
    ((refl, refl), (refl, refl))
    i within
move_coded (XchR r) within =
    registers (λ r. IsCoded (Moves (XchR r)))
    ((refl, refl), (refl, refl), (refl, refl), (refl, refl), (refl, refl), (refl, refl), (refl, refl), (refl, refl))
    r within
move_coded (XchI i) within =
    pointers (λ i. IsCoded (Moves (XchI i)))
    ((refl, refl), (refl, refl))
    i within
move_coded (XchdI i) within =
    pointers (λ i. IsCoded (Moves (XchdI i)))
    ((refl, refl), (refl, refl))
    i within
move_coded (MovxAI i) within =
    pointers (λ i. IsCoded (Moves (MovxAI i)))
    ((refl, refl), (refl, refl))
    i within
move_coded (MovxIA i) within =
    pointers (λ i. IsCoded (Moves (MovxIA i)))
    ((refl, refl), (refl, refl))
    i within
move_coded op within = (refl, refl)

alu_coded : (op : AluOp) → IsAlu op → IsCoded (Alu op)
alu_coded (AddR r) within =
    registers (λ r. IsCoded (Alu (AddR r)))
    ((refl, refl), (refl, refl), (refl, refl), (refl, refl), (refl, refl), (refl, refl), (refl, refl), (refl, refl))
    r within
alu_coded (AddI i) within =
    pointers (λ i. IsCoded (Alu (AddI i)))
    ((refl, refl), (refl, refl))
    i within
alu_coded (AddcR r) within =
    registers (λ r. IsCoded (Alu (AddcR r)))
    ((refl, refl), (refl, refl), (refl, refl), (refl, refl), (refl, refl), (refl, refl), (refl, refl), (refl, refl))
    r within
alu_coded (AddcI i) within =
    pointers (λ i. IsCoded (Alu (AddcI i)))
    ((refl, refl), (refl, refl))
    i within
alu_coded (AnlR r) within =
    registers (λ r. IsCoded (Alu (AnlR r)))
    ((refl, refl), (refl, refl), (refl, refl), (refl, refl), (refl, refl), (refl, refl), (refl, refl), (refl, refl))
    r within
alu_coded (AnlI i) within =
    pointers (λ i. IsCoded (Alu (AnlI i)))
    ((refl, refl), (refl, refl))
    i within
alu_coded (OrlR r) within =
    registers (λ r. IsCoded (Alu (OrlR r)))
    ((refl, refl), (refl, refl), (refl, refl), (refl, refl), (refl, refl), (refl, refl), (refl, refl), (refl, refl))
    r within
alu_coded (OrlI i) within =
    pointers (λ i. IsCoded (Alu (OrlI i)))
    ((refl, refl), (refl, refl))
    i within
alu_coded (XrlR r) within =
    registers (λ r. IsCoded (Alu (XrlR r)))
    ((refl, refl), (refl, refl), (refl, refl), (refl, refl), (refl, refl), (refl, refl), (refl, refl), (refl, refl))
    r within
alu_coded (XrlI i) within =
    pointers (λ i. IsCoded (Alu (XrlI i)))
    ((refl, refl), (refl, refl))
    i within
alu_coded op within = (refl, refl)

unary_coded : (op : UnaryOp) → IsUnary op → IsCoded (Unary op)
unary_coded (IncR r) within =
    registers (λ r. IsCoded (Unary (IncR r)))
    ((refl, refl), (refl, refl), (refl, refl), (refl, refl), (refl, refl), (refl, refl), (refl, refl), (refl, refl))
    r within
unary_coded (IncI i) within =
    pointers (λ i. IsCoded (Unary (IncI i)))
    ((refl, refl), (refl, refl))
    i within
unary_coded (DecR r) within =
    registers (λ r. IsCoded (Unary (DecR r)))
    ((refl, refl), (refl, refl), (refl, refl), (refl, refl), (refl, refl), (refl, refl), (refl, refl), (refl, refl))
    r within
unary_coded op within = (refl, refl)

flow_coded : (op : FlowOp) → IsFlow op → IsCoded (Flow op)
flow_coded (Jmp a) within =
    subst (IsJump Jmp (0x04 + 32 * (a / 256)) (a % 256)) (page_and_low a) (jumps (a / 256) (a % 256) (omega arith))
flow_coded (Call a) within =
    subst (IsJump Call (0x14 + 32 * (a / 256)) (a % 256)) (page_and_low a) (calls (a / 256) (a % 256) (omega arith))
flow_coded (Djnz r n) within =
    registers (λ r. IsCoded (Flow (Djnz r n)))
    ((refl, refl), (refl, refl), (refl, refl), (refl, refl), (refl, refl), (refl, refl), (refl, refl), (refl, refl))
    r within
flow_coded (Jb b n) within =
    registers (λ b. IsCoded (Flow (Jb b n)))
    ((refl, refl), (refl, refl), (refl, refl), (refl, refl), (refl, refl), (refl, refl), (refl, refl), (refl, refl))
    b within
flow_coded op within = (refl, refl)

port_coded : (op : PortOp) → IsPort op → IsCoded (PortIo op)
port_coded (MovdAP p) within =
    ports (λ p. IsCoded (PortIo (MovdAP p)))
    ((refl, refl), (refl, refl), (refl, refl), (refl, refl))
    p within
port_coded (MovdPA p) within =
    ports (λ p. IsCoded (PortIo (MovdPA p)))
    ((refl, refl), (refl, refl), (refl, refl), (refl, refl))
    p within
port_coded (OrldPA p) within =
    ports (λ p. IsCoded (PortIo (OrldPA p)))
    ((refl, refl), (refl, refl), (refl, refl), (refl, refl))
    p within
port_coded (AnldPA p) within =
    ports (λ p. IsCoded (PortIo (AnldPA p)))
    ((refl, refl), (refl, refl), (refl, refl), (refl, refl))
    p within
port_coded op within = (refl, refl)

control_coded : (op : ControlOp) → IsCoded (Control op)
control_coded Nop = (refl, refl)
control_coded op = (refl, refl)

-- the bytes of each operation are read as that operation, with its length
pub coded : (op : Op) → IsOp op → IsCoded op
coded (Moves op) within = move_coded op within
coded (Alu op) within = alu_coded op within
coded (Unary op) within = unary_coded op within
coded (Flow op) within = flow_coded op within
coded (PortIo op) within = port_coded op within
coded (Control op) within = control_coded op

weakened : (r : Option Decoded) (P Q : Decoded → Type 0) → ((d : Decoded) → P d → Q d) → IsSomeAnd r P → IsSomeAnd r Q
weakened (Some d) P Q follows holds = follows d holds
weakened None P Q follows holds = absurd holds

-- the two parts, of a code that is given by an equation
pub coded_operation : (op : Op) → IsOp op → (code : Code) → code ≡ code_of op →
    IsSomeAnd (row_of_code code) (λ d. d.op ≡ op)
coded_operation op within code is =
    rw is (weakened (row_of_code (code_of op)) (λ d. (d.op ≡ op) × (d.len ≡ (code_of op).len)) (λ d. d.op ≡ op)
    (λ d parts. parts.0) (coded op within))

-- the bytes of each operation are read with its length
pub coded_length : (op : Op) → IsOp op → (code : Code) → code ≡ code_of op →
    IsSomeAnd (row_of_code code) (λ d. d.len ≡ code.len)
coded_length op within code is =
    rw is (weakened (row_of_code (code_of op)) (λ d. (d.op ≡ op) × (d.len ≡ (code_of op).len))
    (λ d. d.len ≡ (code_of op).len) (λ d parts. parts.1) (coded op within))
