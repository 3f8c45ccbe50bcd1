-- Operands that are bytes, addresses or registers, and the bytes of a row.
use Rattle.std.proofs.Common.{◌≡◌, ◌<◌, ℕ, Bool, true, ltb, refl, arith}
use Rattle.std.proofs.lemmas.Bool.Decides.{nat_tests}
use Rattle.mcs48_isa.specs.declared.operation.Op.{Op}
use Rattle.mcs48_isa.specs.declared.operation.Op.TheVariants.{Moves, Alu, Unary, Flow, PortIo, Control}
use Rattle.mcs48_isa.specs.declared.operation.MoveOp.{MoveOp}
use Rattle.mcs48_isa.specs.declared.operation.MoveOp.TheVariants.{MovAN, MovRN, MovIN}
use Rattle.mcs48_isa.specs.declared.operation.AluOp.{AluOp}
use Rattle.mcs48_isa.specs.declared.operation.AluOp.TheVariants.{AddN, AddcN, AnlN, OrlN, XrlN}
use Rattle.mcs48_isa.specs.declared.operation.UnaryOp.TheVariants.{IncR, DecR}
use Rattle.mcs48_isa.specs.declared.operation.FlowOp.{FlowOp}
use Rattle.mcs48_isa.specs.declared.operation.FlowOp.TheVariants.{Jmp, Call, Ret, Retr, Jmpp, Djnz, Jb, Jc, Jnc, Jz, Jnz}
use Rattle.mcs48_isa.specs.declared.operation.FlowOp.TheVariants.{Jt0, Jnt0, Jt1, Jnt1, Jf0, Jf1, Jtf, Jni}
use Rattle.mcs48_isa.specs.declared.operation.PortOp.{PortOp}
use Rattle.mcs48_isa.specs.declared.operation.PortOp.TheVariants.{AnlP1, AnlP2, AnlBus, OrlP1, OrlP2, OrlBus}
use Rattle.mcs48_isa.specs.Operands.{IsOp}

-- an operand that is a byte of the program is one, and an address is in the memory
abbrev pub small_move : MoveOp → Bool
small_move (MovAN n) = ltb n 256
small_move (MovRN r n) = ltb n 256
small_move (MovIN i n) = ltb n 256
small_move op = true

abbrev pub small_alu : AluOp → Bool
small_alu (AddN n) = ltb n 256
small_alu (AddcN n) = ltb n 256
small_alu (AnlN n) = ltb n 256
small_alu (OrlN n) = ltb n 256
small_alu (XrlN n) = ltb n 256
small_alu op = true

abbrev pub small_flow : FlowOp → Bool
small_flow (Jmp to) = ltb to 2048
small_flow (Call to) = ltb to 2048
small_flow Ret = true
small_flow Retr = true
small_flow Jmpp = true
small_flow (Djnz r to) = ltb to 256
small_flow (Jb k to) = ltb to 256
small_flow (Jc to) = ltb to 256
small_flow (Jnc to) = ltb to 256
small_flow (Jz to) = ltb to 256
small_flow (Jnz to) = ltb to 256
small_flow (Jt0 to) = ltb to 256
small_flow (Jnt0 to) = ltb to 256
small_flow (Jt1 to) = ltb to 256
small_flow (Jnt1 to) = ltb to 256
small_flow (Jf0 to) = ltb to 256
small_flow (Jf1 to) = ltb to 256
small_flow (Jtf to) = ltb to 256
small_flow (Jni to) = ltb to 256

abbrev pub small_port : PortOp → Bool
small_port (AnlP1 n) = ltb n 256
small_port (AnlP2 n) = ltb n 256
small_port (AnlBus n) = ltb n 256
small_port (OrlP1 n) = ltb n 256
small_port (OrlP2 n) = ltb n 256
small_port (OrlBus n) = ltb n 256
small_port op = true

abbrev pub small : Op → Bool
small (Moves op) = small_move op
small (Alu op) = small_alu op
small (Unary op) = true
small (Flow op) = small_flow op
small (PortIo op) = small_port op
small (Control op) = true

-- a register that a row gives a value is one of the eight
abbrev pub gives_low : Op → Bool
gives_low (Moves (MovRN r n)) = ltb r 8
gives_low (Unary (IncR r)) = ltb r 8
gives_low (Unary (DecR r)) = ltb r 8
gives_low (Flow (Djnz r n)) = ltb r 8
gives_low op = true

low : (r : ℕ) → r < 8 → ltb r 8 ≡ true
low r h = grind (arith, nat_tests, h)

-- a register that an instruction of the set names is one of the eight
pub operands_low : (op : Op) → IsOp op → gives_low op ≡ true
operands_low (Moves (MovRN r n)) o = low r o
operands_low (Unary (IncR r)) o = low r o
operands_low (Unary (DecR r)) o = low r o
operands_low (Flow (Djnz r n)) o = low r o
operands_low op o = refl

-- the bytes of a row
abbrev pub size : Op → ℕ
size (Moves (MovAN n)) = 2
size (Moves (MovRN r n)) = 2
size (Moves (MovIN i n)) = 2
size (Alu (AddN n)) = 2
size (Alu (AddcN n)) = 2
size (Alu (AnlN n)) = 2
size (Alu (OrlN n)) = 2
size (Alu (XrlN n)) = 2
size (Flow Ret) = 1
size (Flow Retr) = 1
size (Flow Jmpp) = 1
size (Flow op) = 2
size (PortIo (AnlP1 n)) = 2
size (PortIo (AnlP2 n)) = 2
size (PortIo (AnlBus n)) = 2
size (PortIo (OrlP1 n)) = 2
size (PortIo (OrlP2 n)) = 2
size (PortIo (OrlBus n)) = 2
size op = 1
