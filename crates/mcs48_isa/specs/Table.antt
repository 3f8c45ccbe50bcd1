-- The opcode table: what each first byte begins, in byte order.
use Rattle.std.specs.Prelude.{ℕ, ◌+◌, ◌==◌, Bool, List, [], ◌∷◌, Some, None, slice_index_or}
use Rattle.std.specs.List.{list_any}
use Rattle.std.specs.declared.option.Option.{Option}
use Rattle.mcs48_isa.specs.declared.operation.Decoded.{Decoded}
use Rattle.mcs48_isa.specs.declared.operation.Op.{Op}
use Rattle.mcs48_isa.specs.declared.operation.Op.TheVariants.{Moves, Alu, Unary, Flow, PortIo, Control}
use Rattle.mcs48_isa.specs.declared.operation.MoveOp.TheVariants.{MovAN, MovAR, MovAI, MovRA, MovIA, MovRN, MovIN, MovAPsw, MovPswA, MovAT, MovTA, XchR, XchI, XchdI, Movp, Movp3, MovxAI, MovxIA}
use Rattle.mcs48_isa.specs.declared.operation.AluOp.TheVariants.{AddR, AddI, AddN, AddcR, AddcI, AddcN, AnlR, AnlI, AnlN, OrlR, OrlI, OrlN, XrlR, XrlI, XrlN}
use Rattle.mcs48_isa.specs.declared.operation.UnaryOp.TheVariants.{IncA, IncR, IncI, DecA, DecR, ClrA, CplA, DaA, SwapA, RlA, RlcA, RrA, RrcA, ClrC, CplC, ClrF0, CplF0, ClrF1, CplF1}
use Rattle.mcs48_isa.specs.declared.operation.FlowOp.TheVariants.{Jmp, Call, Ret, Retr, Jmpp, Djnz, Jb, Jc, Jnc, Jz, Jnz, Jt0, Jnt0, Jt1, Jnt1, Jf0, Jf1, Jtf, Jni}
use Rattle.mcs48_isa.specs.declared.operation.PortOp.TheVariants.{InP1, InP2, InsBus, OutlP1, OutlP2, OutlBus, AnlP1, AnlP2, AnlBus, OrlP1, OrlP2, OrlBus, MovdAP, MovdPA, OrldPA, AnldPA}
use Rattle.mcs48_isa.specs.declared.operation.ControlOp.TheVariants.{Nop, EnI, DisI, EnTcnti, DisTcnti, SelRb0, SelRb1, SelMb0, SelMb1, StrtT, StrtCnt, StopTcnt, Ent0Clk}

-- what a first byte says of the byte after it
abbrev pub Line : Type 0
Line = ℕ → Option Decoded

-- an operation of one byte that takes these machine cycles
abbrev pub one : Op → ℕ → Line
one op cycles n = Some (record { op = op; len = 1; cycles = cycles })

-- an operation of two bytes, which takes 2 machine cycles
abbrev pub two : (ℕ → Op) → Line
two op n = Some (record { op = op n; len = 2; cycles = 2 })

-- a byte without an instruction
abbrev pub none : Line
none n = None

-- a line for each first byte, which is beside it; n is the byte after it
abbrev pub lines : List Line
lines =
    one (Control Nop) 1 ∷  -- 00
    none ∷  -- 01
    one (PortIo OutlBus) 2 ∷  -- 02
    two (λ n. Alu (AddN n)) ∷  -- 03
    two (λ n. Flow (Jmp (0x000 + n))) ∷  -- 04
    one (Control EnI) 1 ∷  -- 05
    none ∷  -- 06
    one (Unary DecA) 1 ∷  -- 07
    one (PortIo InsBus) 2 ∷  -- 08
    one (PortIo InP1) 2 ∷  -- 09
    one (PortIo InP2) 2 ∷  -- 0A
    none ∷  -- 0B
    one (PortIo (MovdAP 4)) 2 ∷  -- 0C
    one (PortIo (MovdAP 5)) 2 ∷  -- 0D
    one (PortIo (MovdAP 6)) 2 ∷  -- 0E
    one (PortIo (MovdAP 7)) 2 ∷  -- 0F
    one (Unary (IncI 0)) 1 ∷  -- 10
    one (Unary (IncI 1)) 1 ∷  -- 11
    two (λ n. Flow (Jb 0 n)) ∷  -- 12
    two (λ n. Alu (AddcN n)) ∷  -- 13
    two (λ n. Flow (Call (0x000 + n))) ∷  -- 14
    one (Control DisI) 1 ∷  -- 15
    two (λ n. Flow (Jtf n)) ∷  -- 16
    one (Unary IncA) 1 ∷  -- 17
    one (Unary (IncR 0)) 1 ∷  -- 18
    one (Unary (IncR 1)) 1 ∷  -- 19
    one (Unary (IncR 2)) 1 ∷  -- 1A
    one (Unary (IncR 3)) 1 ∷  -- 1B
    one (Unary (IncR 4)) 1 ∷  -- 1C
    one (Unary (IncR 5)) 1 ∷  -- 1D
    one (Unary (IncR 6)) 1 ∷  -- 1E
    one (Unary (IncR 7)) 1 ∷  -- 1F
    one (Moves (XchI 0)) 1 ∷  -- 20
    one (Moves (XchI 1)) 1 ∷  -- 21
    none ∷  -- 22
    two (λ n. Moves (MovAN n)) ∷  -- 23
    two (λ n. Flow (Jmp (0x100 + n))) ∷  -- 24
    one (Control EnTcnti) 1 ∷  -- 25
    two (λ n. Flow (Jnt0 n)) ∷  -- 26
    one (Unary ClrA) 1 ∷  -- 27
    one (Moves (XchR 0)) 1 ∷  -- 28
    one (Moves (XchR 1)) 1 ∷  -- 29
    one (Moves (XchR 2)) 1 ∷  -- 2A
    one (Moves (XchR 3)) 1 ∷  -- 2B
    one (Moves (XchR 4)) 1 ∷  -- 2C
    one (Moves (XchR 5)) 1 ∷  -- 2D
    one (Moves (XchR 6)) 1 ∷  -- 2E
    one (Moves (XchR 7)) 1 ∷  -- 2F
    one (Moves (XchdI 0)) 1 ∷  -- 30
    one (Moves (XchdI 1)) 1 ∷  -- 31
    two (λ n. Flow (Jb 1 n)) ∷  -- 32
    none ∷  -- 33
    two (λ n. Flow (Call (0x100 + n))) ∷  -- 34
    one (Control DisTcnti) 1 ∷  -- 35
    two (λ n. Flow (Jt0 n)) ∷  -- 36
    one (Unary CplA) 1 ∷  -- 37
    none ∷  -- 38
    one (PortIo OutlP1) 2 ∷  -- 39
    one (PortIo OutlP2) 2 ∷  -- 3A
    none ∷  -- 3B
    one (PortIo (MovdPA 4)) 2 ∷  -- 3C
    one (PortIo (MovdPA 5)) 2 ∷  -- 3D
    one (PortIo (MovdPA 6)) 2 ∷  -- 3E
    one (PortIo (MovdPA 7)) 2 ∷  -- 3F
    one (Alu (OrlI 0)) 1 ∷  -- 40
    one (Alu (OrlI 1)) 1 ∷  -- 41
    one (Moves MovAT) 1 ∷  -- 42
    two (λ n. Alu (OrlN n)) ∷  -- 43
    two (λ n. Flow (Jmp (0x200 + n))) ∷  -- 44
    one (Control StrtCnt) 1 ∷  -- 45
    two (λ n. Flow (Jnt1 n)) ∷  -- 46
    one (Unary SwapA) 1 ∷  -- 47
    one (Alu (OrlR 0)) 1 ∷  -- 48
    one (Alu (OrlR 1)) 1 ∷  -- 49
    one (Alu (OrlR 2)) 1 ∷  -- 4A
    one (Alu (OrlR 3)) 1 ∷  -- 4B
    one (Alu (OrlR 4)) 1 ∷  -- 4C
    one (Alu (OrlR 5)) 1 ∷  -- 4D
    one (Alu (OrlR 6)) 1 ∷  -- 4E
    one (Alu (OrlR 7)) 1 ∷  -- 4F
    one (Alu (AnlI 0)) 1 ∷  -- 50
    one (Alu (AnlI 1)) 1 ∷  -- 51
    two (λ n. Flow (Jb 2 n)) ∷  -- 52
    two (λ n. Alu (AnlN n)) ∷  -- 53
    two (λ n. Flow (Call (0x200 + n))) ∷  -- 54
    one (Control StrtT) 1 ∷  -- 55
    two (λ n. Flow (Jt1 n)) ∷  -- 56
    one (Unary DaA) 1 ∷  -- 57
    one (Alu (AnlR 0)) 1 ∷  -- 58
    one (Alu (AnlR 1)) 1 ∷  -- 59
    one (Alu (AnlR 2)) 1 ∷  -- 5A
    one (Alu (AnlR 3)) 1 ∷  -- 5B
    one (Alu (AnlR 4)) 1 ∷  -- 5C
    one (Alu (AnlR 5)) 1 ∷  -- 5D
    one (Alu (AnlR 6)) 1 ∷  -- 5E
    one (Alu (AnlR 7)) 1 ∷  -- 5F
    one (Alu (AddI 0)) 1 ∷  -- 60
    one (Alu (AddI 1)) 1 ∷  -- 61
    one (Moves MovTA) 1 ∷  -- 62
    none ∷  -- 63
    two (λ n. Flow (Jmp (0x300 + n))) ∷  -- 64
    one (Control StopTcnt) 1 ∷  -- 65
    none ∷  -- 66
    one (Unary RrcA) 1 ∷  -- 67
    one (Alu (AddR 0)) 1 ∷  -- 68
    one (Alu (AddR 1)) 1 ∷  -- 69
    one (Alu (AddR 2)) 1 ∷  -- 6A
    one (Alu (AddR 3)) 1 ∷  -- 6B
    one (Alu (AddR 4)) 1 ∷  -- 6C
    one (Alu (AddR 5)) 1 ∷  -- 6D
    one (Alu (AddR 6)) 1 ∷  -- 6E
    one (Alu (AddR 7)) 1 ∷  -- 6F
    one (Alu (AddcI 0)) 1 ∷  -- 70
    one (Alu (AddcI 1)) 1 ∷  -- 71
    two (λ n. Flow (Jb 3 n)) ∷  -- 72
    none ∷  -- 73
    two (λ n. Flow (Call (0x300 + n))) ∷  -- 74
    one (Control Ent0Clk) 1 ∷  -- 75
    two (λ n. Flow (Jf1 n)) ∷  -- 76
    one (Unary RrA) 1 ∷  -- 77
    one (Alu (AddcR 0)) 1 ∷  -- 78
    one (Alu (AddcR 1)) 1 ∷  -- 79
    one (Alu (AddcR 2)) 1 ∷  -- 7A
    one (Alu (AddcR 3)) 1 ∷  -- 7B
    one (Alu (AddcR 4)) 1 ∷  -- 7C
    one (Alu (AddcR 5)) 1 ∷  -- 7D
    one (Alu (AddcR 6)) 1 ∷  -- 7E
    one (Alu (AddcR 7)) 1 ∷  -- 7F
    one (Moves (MovxAI 0)) 2 ∷  -- 80
    one (Moves (MovxAI 1)) 2 ∷  -- 81
    none ∷  -- 82
    one (Flow Ret) 2 ∷  -- 83
    two (λ n. Flow (Jmp (0x400 + n))) ∷  -- 84
    one (Unary ClrF0) 1 ∷  -- 85
    two (λ n. Flow (Jni n)) ∷  -- 86
    none ∷  -- 87
    two (λ n. PortIo (OrlBus n)) ∷  -- 88
    two (λ n. PortIo (OrlP1 n)) ∷  -- 89
    two (λ n. PortIo (OrlP2 n)) ∷  -- 8A
    none ∷  -- 8B
    one (PortIo (OrldPA 4)) 2 ∷  -- 8C
    one (PortIo (OrldPA 5)) 2 ∷  -- 8D
    one (PortIo (OrldPA 6)) 2 ∷  -- 8E
    one (PortIo (OrldPA 7)) 2 ∷  -- 8F
    one (Moves (MovxIA 0)) 2 ∷  -- 90
    one (Moves (MovxIA 1)) 2 ∷  -- 91
    two (λ n. Flow (Jb 4 n)) ∷  -- 92
    one (Flow Retr) 2 ∷  -- 93
    two (λ n. Flow (Call (0x400 + n))) ∷  -- 94
    one (Unary CplF0) 1 ∷  -- 95
    two (λ n. Flow (Jnz n)) ∷  -- 96
    one (Unary ClrC) 1 ∷  -- 97
    two (λ n. PortIo (AnlBus n)) ∷  -- 98
    two (λ n. PortIo (AnlP1 n)) ∷  -- 99
    two (λ n. PortIo (AnlP2 n)) ∷  -- 9A
    none ∷  -- 9B
    one (PortIo (AnldPA 4)) 2 ∷  -- 9C
    one (PortIo (AnldPA 5)) 2 ∷  -- 9D
    one (PortIo (AnldPA 6)) 2 ∷  -- 9E
    one (PortIo (AnldPA 7)) 2 ∷  -- 9F
    one (Moves (MovIA 0)) 1 ∷  -- A0
    one (Moves (MovIA 1)) 1 ∷  -- A1
    none ∷  -- A2
    one (Moves Movp) 2 ∷  -- A3
    two (λ n. Flow (Jmp (0x500 + n))) ∷  -- A4
    one (Unary ClrF1) 1 ∷  -- A5
    none ∷  -- A6
    one (Unary CplC) 1 ∷  -- A7
    one (Moves (MovRA 0)) 1 ∷  -- A8
    one (Moves (MovRA 1)) 1 ∷  -- A9
    one (Moves (MovRA 2)) 1 ∷  -- AA
    one (Moves (MovRA 3)) 1 ∷  -- AB
    one (Moves (MovRA 4)) 1 ∷  -- AC
    one (Moves (MovRA 5)) 1 ∷  -- AD
    one (Moves (MovRA 6)) 1 ∷  -- AE
    one (Moves (MovRA 7)) 1 ∷  -- AF
    two (λ n. Moves (MovIN 0 n)) ∷  -- B0
    two (λ n. Moves (MovIN 1 n)) ∷  -- B1
    two (λ n. Flow (Jb 5 n)) ∷  -- B2
    one (Flow Jmpp) 2 ∷  -- B3
    two (λ n. Flow (Call (0x500 + n))) ∷  -- B4
    one (Unary CplF1) 1 ∷  -- B5
    two (λ n. Flow (Jf0 n)) ∷  -- B6
    none ∷  -- B7
    two (λ n. Moves (MovRN 0 n)) ∷  -- B8
    two (λ n. Moves (MovRN 1 n)) ∷  -- B9
    two (λ n. Moves (MovRN 2 n)) ∷  -- BA
    two (λ n. Moves (MovRN 3 n)) ∷  -- BB
    two (λ n. Moves (MovRN 4 n)) ∷  -- BC
    two (λ n. Moves (MovRN 5 n)) ∷  -- BD
    two (λ n. Moves (MovRN 6 n)) ∷  -- BE
    two (λ n. Moves (MovRN 7 n)) ∷  -- BF
    none ∷  -- C0
    none ∷  -- C1
    none ∷  -- C2
    none ∷  -- C3
    two (λ n. Flow (Jmp (0x600 + n))) ∷  -- C4
    one (Control SelRb0) 1 ∷  -- C5
    two (λ n. Flow (Jz n)) ∷  -- C6
    one (Moves MovAPsw) 1 ∷  -- C7
    one (Unary (DecR 0)) 1 ∷  -- C8
    one (Unary (DecR 1)) 1 ∷  -- C9
    one (Unary (DecR 2)) 1 ∷  -- CA
    one (Unary (DecR 3)) 1 ∷  -- CB
    one (Unary (DecR 4)) 1 ∷  -- CC
    one (Unary (DecR 5)) 1 ∷  -- CD
    one (Unary (DecR 6)) 1 ∷  -- CE
    one (Unary (DecR 7)) 1 ∷  -- CF
    one (Alu (XrlI 0)) 1 ∷  -- D0
    one (Alu (XrlI 1)) 1 ∷  -- D1
    two (λ n. Flow (Jb 6 n)) ∷  -- D2
    two (λ n. Alu (XrlN n)) ∷  -- D3
    two (λ n. Flow (Call (0x600 + n))) ∷  -- D4
    one (Control SelRb1) 1 ∷  -- D5
    none ∷  -- D6
    one (Moves MovPswA) 1 ∷  -- D7
    one (Alu (XrlR 0)) 1 ∷  -- D8
    one (Alu (XrlR 1)) 1 ∷  -- D9
    one (Alu (XrlR 2)) 1 ∷  -- DA
    one (Alu (XrlR 3)) 1 ∷  -- DB
    one (Alu (XrlR 4)) 1 ∷  -- DC
    one (Alu (XrlR 5)) 1 ∷  -- DD
    one (Alu (XrlR 6)) 1 ∷  -- DE
    one (Alu (XrlR 7)) 1 ∷  -- DF
    none ∷  -- E0
    none ∷  -- E1
    none ∷  -- E2
    one (Moves Movp3) 2 ∷  -- E3
    two (λ n. Flow (Jmp (0x700 + n))) ∷  -- E4
    one (Control SelMb0) 1 ∷  -- E5
    two (λ n. Flow (Jnc n)) ∷  -- E6
    one (Unary RlA) 1 ∷  -- E7
    two (λ n. Flow (Djnz 0 n)) ∷  -- E8
    two (λ n. Flow (Djnz 1 n)) ∷  -- E9
    two (λ n. Flow (Djnz 2 n)) ∷  -- EA
    two (λ n. Flow (Djnz 3 n)) ∷  -- EB
    two (λ n. Flow (Djnz 4 n)) ∷  -- EC
    two (λ n. Flow (Djnz 5 n)) ∷  -- ED
    two (λ n. Flow (Djnz 6 n)) ∷  -- EE
    two (λ n. Flow (Djnz 7 n)) ∷  -- EF
    one (Moves (MovAI 0)) 1 ∷  -- F0
    one (Moves (MovAI 1)) 1 ∷  -- F1
    two (λ n. Flow (Jb 7 n)) ∷  -- F2
    none ∷  -- F3
    two (λ n. Flow (Call (0x700 + n))) ∷  -- F4
    one (Control SelMb1) 1 ∷  -- F5
    two (λ n. Flow (Jc n)) ∷  -- F6
    one (Unary RlcA) 1 ∷  -- F7
    one (Moves (MovAR 0)) 1 ∷  -- F8
    one (Moves (MovAR 1)) 1 ∷  -- F9
    one (Moves (MovAR 2)) 1 ∷  -- FA
    one (Moves (MovAR 3)) 1 ∷  -- FB
    one (Moves (MovAR 4)) 1 ∷  -- FC
    one (Moves (MovAR 5)) 1 ∷  -- FD
    one (Moves (MovAR 6)) 1 ∷  -- FE
    one (Moves (MovAR 7)) 1 ∷  -- FF
    []

-- the row that a first byte and the byte after it begin
abbrev pub row_of : ℕ → ℕ → Option Decoded
row_of b n = slice_index_or lines b none n

-- the 26 bytes without an instruction
abbrev pub empty_bytes : List ℕ
empty_bytes =
    0x01 ∷ 0x06 ∷ 0x0b ∷ 0x22 ∷ 0x33 ∷ 0x38 ∷ 0x3b ∷ 0x63 ∷ 0x66 ∷ 0x73 ∷ 0x82 ∷ 0x87 ∷ 0x8b ∷
    0x9b ∷ 0xa2 ∷ 0xa6 ∷ 0xb7 ∷ 0xc0 ∷ 0xc1 ∷ 0xc2 ∷ 0xc3 ∷ 0xd6 ∷ 0xe0 ∷ 0xe1 ∷ 0xe2 ∷ 0xf3 ∷ []

abbrev pub is_empty_byte : ℕ → Bool
is_empty_byte b = list_any (λ byte. byte == b) empty_bytes
