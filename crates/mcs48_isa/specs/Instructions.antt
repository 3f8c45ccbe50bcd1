-- The instruction set, as the manual's page has it: one line an instruction, with its word, its operands, its first
-- byte and its machine cycles. Its text and its bytes follow from its line.
use Rattle.std.specs.Prelude.{ℕ, ◌+◌, ◌*◌, List, [], ◌∷◌, ◌++◌, codes}
use Prim.Native.String.{String}
use Rattle.mcs48_isa.specs.declared.operation.MoveOp.{MoveOp}
use Rattle.mcs48_isa.specs.declared.operation.AluOp.{AluOp}
use Rattle.mcs48_isa.specs.declared.operation.UnaryOp.{UnaryOp}
use Rattle.mcs48_isa.specs.declared.operation.FlowOp.{FlowOp}
use Rattle.mcs48_isa.specs.declared.operation.PortOp.{PortOp}
use Rattle.mcs48_isa.specs.declared.operation.ControlOp.{ControlOp}
use Rattle.mcs48_isa.specs.declared.operation.Op.{Op}
use Rattle.mcs48_isa.specs.declared.operation.Op.TheVariants.{Moves, Alu, Unary, Flow, PortIo, Control}
use Rattle.mcs48_isa.specs.declared.operation.MoveOp.TheVariants.{MovAN, MovAR, MovAI, MovRA, MovIA, MovRN, MovIN, MovAPsw, MovPswA, MovAT, MovTA, XchR, XchI, XchdI, Movp, Movp3, MovxAI, MovxIA}
use Rattle.mcs48_isa.specs.declared.operation.AluOp.TheVariants.{AddR, AddI, AddN, AddcR, AddcI, AddcN, AnlR, AnlI, AnlN, OrlR, OrlI, OrlN, XrlR, XrlI, XrlN}
use Rattle.mcs48_isa.specs.declared.operation.UnaryOp.TheVariants.{IncA, IncR, IncI, DecA, DecR, ClrA, CplA, DaA, SwapA, RlA, RlcA, RrA, RrcA, ClrC, CplC, ClrF0, CplF0, ClrF1, CplF1}
use Rattle.mcs48_isa.specs.declared.operation.FlowOp.TheVariants.{Jmp, Call, Ret, Retr, Jmpp, Djnz, Jb, Jc, Jnc, Jz, Jnz, Jt0, Jnt0, Jt1, Jnt1, Jf0, Jf1, Jtf, Jni}
use Rattle.mcs48_isa.specs.declared.operation.PortOp.TheVariants.{InP1, InP2, InsBus, OutlP1, OutlP2, OutlBus, AnlP1, AnlP2, AnlBus, OrlP1, OrlP2, OrlBus, MovdAP, MovdPA, OrldPA, AnldPA}
use Rattle.mcs48_isa.specs.declared.operation.ControlOp.TheVariants.{Nop, EnI, DisI, EnTcnti, DisTcnti, SelRb0, SelRb1, SelMb0, SelMb1, StrtT, StrtCnt, StopTcnt, Ent0Clk}

-- an operand: this text; one of eight registers, of two pointer registers or of four ports of the expander, by its
-- number; # and a value; an address; or a target in the page of the second byte, by its low byte
pub data Operand : Type 0 where
  Is : List ℕ → Operand
  Register : ℕ → Operand
  Pointer : ℕ → Operand
  Expander : ℕ → Operand
  Immediate : ℕ → Operand
  Address : ℕ → Operand
  Target : ℕ → Operand

-- an instruction: its word, its operands, its first byte before numbers of operands are added, and its machine cycles
pub record Entry : Type 0 where
  pub word : List ℕ
  pub operands : List Operand
  pub first : ℕ
  pub cycles : ℕ

abbrev pub named : List ℕ → List Operand → ℕ → ℕ → Entry
named word operands first cycles = record { word = word; operands = operands; first = first; cycles = cycles }

abbrev pub entry : String → List Operand → ℕ → ℕ → Entry
entry word operands first cycles = named (codes word) operands first cycles

abbrev pub text : String → Operand
text word = Is (codes word)

-- the character of a register, a pointer register, a port or a bit below 10
abbrev pub digit : ℕ → List ℕ
digit k = (48 + k) ∷ []

-- data moves
abbrev pub move_entry : MoveOp → Entry
move_entry (MovAN n) = entry "MOV" (text "A" ∷ Immediate n ∷ []) 0x23 2
move_entry (MovAR r) = entry "MOV" (text "A" ∷ Register r ∷ []) 0xf8 1
move_entry (MovAI i) = entry "MOV" (text "A" ∷ Pointer i ∷ []) 0xf0 1
move_entry (MovRA r) = entry "MOV" (Register r ∷ text "A" ∷ []) 0xa8 1
move_entry (MovIA i) = entry "MOV" (Pointer i ∷ text "A" ∷ []) 0xa0 1
move_entry (MovRN r n) = entry "MOV" (Register r ∷ Immediate n ∷ []) 0xb8 2
move_entry (MovIN i n) = entry "MOV" (Pointer i ∷ Immediate n ∷ []) 0xb0 2
move_entry MovAPsw = entry "MOV" (text "A" ∷ text "PSW" ∷ []) 0xc7 1
move_entry MovPswA = entry "MOV" (text "PSW" ∷ text "A" ∷ []) 0xd7 1
move_entry MovAT = entry "MOV" (text "A" ∷ text "T" ∷ []) 0x42 1
move_entry MovTA = entry "MOV" (text "T" ∷ text "A" ∷ []) 0x62 1
move_entry (XchR r) = entry "XCH" (text "A" ∷ Register r ∷ []) 0x28 1
move_entry (XchI i) = entry "XCH" (text "A" ∷ Pointer i ∷ []) 0x20 1
move_entry (XchdI i) = entry "XCHD" (text "A" ∷ Pointer i ∷ []) 0x30 1
move_entry Movp = entry "MOVP" (text "A" ∷ text "@A" ∷ []) 0xa3 2
move_entry Movp3 = entry "MOVP3" (text "A" ∷ text "@A" ∷ []) 0xe3 2
move_entry (MovxAI i) = entry "MOVX" (text "A" ∷ Pointer i ∷ []) 0x80 2
move_entry (MovxIA i) = entry "MOVX" (Pointer i ∷ text "A" ∷ []) 0x90 2

-- operations of the accumulator with an operand
abbrev pub alu_entry : AluOp → Entry
alu_entry (AddR r) = entry "ADD" (text "A" ∷ Register r ∷ []) 0x68 1
alu_entry (AddI i) = entry "ADD" (text "A" ∷ Pointer i ∷ []) 0x60 1
alu_entry (AddN n) = entry "ADD" (text "A" ∷ Immediate n ∷ []) 0x03 2
alu_entry (AddcR r) = entry "ADDC" (text "A" ∷ Register r ∷ []) 0x78 1
alu_entry (AddcI i) = entry "ADDC" (text "A" ∷ Pointer i ∷ []) 0x70 1
alu_entry (AddcN n) = entry "ADDC" (text "A" ∷ Immediate n ∷ []) 0x13 2
alu_entry (AnlR r) = entry "ANL" (text "A" ∷ Register r ∷ []) 0x58 1
alu_entry (AnlI i) = entry "ANL" (text "A" ∷ Pointer i ∷ []) 0x50 1
alu_entry (AnlN n) = entry "ANL" (text "A" ∷ Immediate n ∷ []) 0x53 2
alu_entry (OrlR r) = entry "ORL" (text "A" ∷ Register r ∷ []) 0x48 1
alu_entry (OrlI i) = entry "ORL" (text "A" ∷ Pointer i ∷ []) 0x40 1
alu_entry (OrlN n) = entry "ORL" (text "A" ∷ Immediate n ∷ []) 0x43 2
alu_entry (XrlR r) = entry "XRL" (text "A" ∷ Register r ∷ []) 0xd8 1
alu_entry (XrlI i) = entry "XRL" (text "A" ∷ Pointer i ∷ []) 0xd0 1
alu_entry (XrlN n) = entry "XRL" (text "A" ∷ Immediate n ∷ []) 0xd3 2

-- operations on one value or flag
abbrev pub unary_entry : UnaryOp → Entry
unary_entry IncA = entry "INC" (text "A" ∷ []) 0x17 1
unary_entry (IncR r) = entry "INC" (Register r ∷ []) 0x18 1
unary_entry (IncI i) = entry "INC" (Pointer i ∷ []) 0x10 1
unary_entry DecA = entry "DEC" (text "A" ∷ []) 0x07 1
unary_entry (DecR r) = entry "DEC" (Register r ∷ []) 0xc8 1
unary_entry ClrA = entry "CLR" (text "A" ∷ []) 0x27 1
unary_entry CplA = entry "CPL" (text "A" ∷ []) 0x37 1
unary_entry DaA = entry "DA" (text "A" ∷ []) 0x57 1
unary_entry SwapA = entry "SWAP" (text "A" ∷ []) 0x47 1
unary_entry RlA = entry "RL" (text "A" ∷ []) 0xe7 1
unary_entry RlcA = entry "RLC" (text "A" ∷ []) 0xf7 1
unary_entry RrA = entry "RR" (text "A" ∷ []) 0x77 1
unary_entry RrcA = entry "RRC" (text "A" ∷ []) 0x67 1
unary_entry ClrC = entry "CLR" (text "C" ∷ []) 0x97 1
unary_entry CplC = entry "CPL" (text "C" ∷ []) 0xa7 1
unary_entry ClrF0 = entry "CLR" (text "F0" ∷ []) 0x85 1
unary_entry CplF0 = entry "CPL" (text "F0" ∷ []) 0x95 1
unary_entry ClrF1 = entry "CLR" (text "F1" ∷ []) 0xa5 1
unary_entry CplF1 = entry "CPL" (text "F1" ∷ []) 0xb5 1

-- jumps, calls and returns
abbrev pub flow_entry : FlowOp → Entry
flow_entry (Jmp a) = entry "JMP" (Address a ∷ []) 0x04 2
flow_entry (Call a) = entry "CALL" (Address a ∷ []) 0x14 2
flow_entry Ret = entry "RET" [] 0x83 2
flow_entry Retr = entry "RETR" [] 0x93 2
flow_entry Jmpp = entry "JMPP" (text "@A" ∷ []) 0xb3 2
flow_entry (Djnz r n) = entry "DJNZ" (Register r ∷ Target n ∷ []) 0xe8 2
flow_entry (Jb b n) = named (codes "JB" ++ digit b) (Target n ∷ []) (0x12 + 32 * b) 2
flow_entry (Jc n) = entry "JC" (Target n ∷ []) 0xf6 2
flow_entry (Jnc n) = entry "JNC" (Target n ∷ []) 0xe6 2
flow_entry (Jz n) = entry "JZ" (Target n ∷ []) 0xc6 2
flow_entry (Jnz n) = entry "JNZ" (Target n ∷ []) 0x96 2
flow_entry (Jt0 n) = entry "JT0" (Target n ∷ []) 0x36 2
flow_entry (Jnt0 n) = entry "JNT0" (Target n ∷ []) 0x26 2
flow_entry (Jt1 n) = entry "JT1" (Target n ∷ []) 0x56 2
flow_entry (Jnt1 n) = entry "JNT1" (Target n ∷ []) 0x46 2
flow_entry (Jf0 n) = entry "JF0" (Target n ∷ []) 0xb6 2
flow_entry (Jf1 n) = entry "JF1" (Target n ∷ []) 0x76 2
flow_entry (Jtf n) = entry "JTF" (Target n ∷ []) 0x16 2
flow_entry (Jni n) = entry "JNI" (Target n ∷ []) 0x86 2

-- ports, the bus and the port expander; the four ports of the expander are added to a byte as 4 to 7
abbrev pub port_entry : PortOp → Entry
port_entry InP1 = entry "IN" (text "A" ∷ text "P1" ∷ []) 0x09 2
port_entry InP2 = entry "IN" (text "A" ∷ text "P2" ∷ []) 0x0a 2
port_entry InsBus = entry "INS" (text "A" ∷ text "BUS" ∷ []) 0x08 2
port_entry OutlP1 = entry "OUTL" (text "P1" ∷ text "A" ∷ []) 0x39 2
port_entry OutlP2 = entry "OUTL" (text "P2" ∷ text "A" ∷ []) 0x3a 2
port_entry OutlBus = entry "OUTL" (text "BUS" ∷ text "A" ∷ []) 0x02 2
port_entry (AnlP1 n) = entry "ANL" (text "P1" ∷ Immediate n ∷ []) 0x99 2
port_entry (AnlP2 n) = entry "ANL" (text "P2" ∷ Immediate n ∷ []) 0x9a 2
port_entry (AnlBus n) = entry "ANL" (text "BUS" ∷ Immediate n ∷ []) 0x98 2
port_entry (OrlP1 n) = entry "ORL" (text "P1" ∷ Immediate n ∷ []) 0x89 2
port_entry (OrlP2 n) = entry "ORL" (text "P2" ∷ Immediate n ∷ []) 0x8a 2
port_entry (OrlBus n) = entry "ORL" (text "BUS" ∷ Immediate n ∷ []) 0x88 2
port_entry (MovdAP p) = entry "MOVD" (text "A" ∷ Expander p ∷ []) 0x08 2
port_entry (MovdPA p) = entry "MOVD" (Expander p ∷ text "A" ∷ []) 0x38 2
port_entry (OrldPA p) = entry "ORLD" (Expander p ∷ text "A" ∷ []) 0x88 2
port_entry (AnldPA p) = entry "ANLD" (Expander p ∷ text "A" ∷ []) 0x98 2

-- interrupts, banks, the timer and the clock output
abbrev pub control_entry : ControlOp → Entry
control_entry Nop = entry "NOP" [] 0x00 1
control_entry EnI = entry "EN" (text "I" ∷ []) 0x05 1
control_entry DisI = entry "DIS" (text "I" ∷ []) 0x15 1
control_entry EnTcnti = entry "EN" (text "TCNTI" ∷ []) 0x25 1
control_entry DisTcnti = entry "DIS" (text "TCNTI" ∷ []) 0x35 1
control_entry SelRb0 = entry "SEL" (text "RB0" ∷ []) 0xc5 1
control_entry SelRb1 = entry "SEL" (text "RB1" ∷ []) 0xd5 1
control_entry SelMb0 = entry "SEL" (text "MB0" ∷ []) 0xe5 1
control_entry SelMb1 = entry "SEL" (text "MB1" ∷ []) 0xf5 1
control_entry StrtT = entry "STRT" (text "T" ∷ []) 0x55 1
control_entry StrtCnt = entry "STRT" (text "CNT" ∷ []) 0x45 1
control_entry StopTcnt = entry "STOP" (text "TCNT" ∷ []) 0x65 1
control_entry Ent0Clk = entry "ENT0" (text "CLK" ∷ []) 0x75 1

-- the line of an operation
abbrev pub entry_of : Op → Entry
entry_of (Moves op) = move_entry op
entry_of (Alu op) = alu_entry op
entry_of (Unary op) = unary_entry op
entry_of (Flow op) = flow_entry op
entry_of (PortIo op) = port_entry op
entry_of (Control op) = control_entry op
