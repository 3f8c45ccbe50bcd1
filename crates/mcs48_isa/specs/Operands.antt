-- The operands that an operation may have.
use Rattle.std.specs.Prelude.{◌<◌, ◌≤◌}
use Rattle.mcs48_isa.specs.declared.operation.Op.{Op}
use Rattle.mcs48_isa.specs.declared.operation.Op.TheVariants.{Moves, Alu, Unary, Flow, PortIo}
use Rattle.mcs48_isa.specs.declared.operation.MoveOp.{MoveOp}
use Rattle.mcs48_isa.specs.declared.operation.MoveOp.TheVariants.{MovAR, MovAI, MovRA, MovIA, MovRN, MovIN, XchR, XchI, XchdI, MovxAI, MovxIA}
use Rattle.mcs48_isa.specs.declared.operation.AluOp.{AluOp}
use Rattle.mcs48_isa.specs.declared.operation.AluOp.TheVariants.{AddR, AddI, AddcR, AddcI, AnlR, AnlI, OrlR, OrlI, XrlR, XrlI}
use Rattle.mcs48_isa.specs.declared.operation.UnaryOp.{UnaryOp}
use Rattle.mcs48_isa.specs.declared.operation.UnaryOp.TheVariants.{IncR, IncI, DecR}
use Rattle.mcs48_isa.specs.declared.operation.FlowOp.{FlowOp}
use Rattle.mcs48_isa.specs.declared.operation.FlowOp.TheVariants.{Jmp, Call, Djnz, Jb}
use Rattle.mcs48_isa.specs.declared.operation.PortOp.{PortOp}
use Rattle.mcs48_isa.specs.declared.operation.PortOp.TheVariants.{MovdAP, MovdPA, OrldPA, AnldPA}

-- a register is 0 to 7, and a pointer register, that of @Ri, 0 or 1
abbrev pub IsMove : MoveOp → Type 0
IsMove (MovAR r) = r < 8
IsMove (MovAI i) = i < 2
IsMove (MovRA r) = r < 8
IsMove (MovIA i) = i < 2
IsMove (MovRN r n) = r < 8
IsMove (MovIN i n) = i < 2
IsMove (XchR r) = r < 8
IsMove (XchI i) = i < 2
IsMove (XchdI i) = i < 2
IsMove (MovxAI i) = i < 2
IsMove (MovxIA i) = i < 2
IsMove _ = Unit {0}

-- a register and a pointer register, as above
abbrev pub IsAlu : AluOp → Type 0
IsAlu (AddR r) = r < 8
IsAlu (AddI i) = i < 2
IsAlu (AddcR r) = r < 8
IsAlu (AddcI i) = i < 2
IsAlu (AnlR r) = r < 8
IsAlu (AnlI i) = i < 2
IsAlu (OrlR r) = r < 8
IsAlu (OrlI i) = i < 2
IsAlu (XrlR r) = r < 8
IsAlu (XrlI i) = i < 2
IsAlu _ = Unit {0}

-- a register and a pointer register, as above
abbrev pub IsUnary : UnaryOp → Type 0
IsUnary (IncR r) = r < 8
IsUnary (IncI i) = i < 2
IsUnary (DecR r) = r < 8
IsUnary _ = Unit {0}

-- an address of JMP and CALL is below 2,048, a register and a bit are 0 to 7
abbrev pub IsFlow : FlowOp → Type 0
IsFlow (Jmp a) = a < 2048
IsFlow (Call a) = a < 2048
IsFlow (Djnz r n) = r < 8
IsFlow (Jb b n) = b < 8
IsFlow _ = Unit {0}

-- a port of the expander is 4 to 7
abbrev pub IsPort : PortOp → Type 0
IsPort (MovdAP p) = (4 ≤ p) × (p < 8)
IsPort (MovdPA p) = (4 ≤ p) × (p < 8)
IsPort (OrldPA p) = (4 ≤ p) × (p < 8)
IsPort (AnldPA p) = (4 ≤ p) × (p < 8)
IsPort _ = Unit {0}

-- each operand is in its range
abbrev pub IsOp : Op → Type 0
IsOp (Moves op) = IsMove op
IsOp (Alu op) = IsAlu op
IsOp (Unary op) = IsUnary op
IsOp (Flow op) = IsFlow op
IsOp (PortIo op) = IsPort op
IsOp _ = Unit {0}
