-- How long a listing is: its lines are short, and there are at most as many as places.
use Rattle.std.proofs.Common.{◌≡◌, ℕ, zero, suc, ◌+◌, ◌*◌, ◌≤◌, Bool, true, false, List, [], ◌∷◌, ◌++◌, length, nat_lt}
use Rattle.std.proofs.Common.{nat_eq, slice_index, Some, None, Option, if◌then◌else◌, arith, lit≤, length-append}
use Rattle.mcs48_isa.specs.declared.operation.Decoded.{Decoded}
use Rattle.mcs48_isa.specs.declared.operation.MoveOp.{MoveOp}
use Rattle.mcs48_isa.specs.declared.operation.AluOp.{AluOp}
use Rattle.mcs48_isa.specs.declared.operation.UnaryOp.{UnaryOp}
use Rattle.mcs48_isa.specs.declared.operation.FlowOp.{FlowOp}
use Rattle.mcs48_isa.specs.declared.operation.PortOp.{PortOp}
use Rattle.mcs48_isa.specs.declared.operation.ControlOp.{ControlOp}
use Rattle.mcs48_isa.specs.declared.operation.Op.{Op}
use Rattle.mcs48_isa.specs.declared.operation.Op.TheVariants.{Moves, Alu, Unary, Flow, PortIo, Control}
use Rattle.mcs48_isa.specs.declared.operation.MoveOp.TheVariants.{MovAPsw}
use Rattle.mcs48_isa.specs.declared.operation.AluOp.TheVariants.{AddN}
use Rattle.mcs48_isa.specs.declared.operation.UnaryOp.TheVariants.{IncA}
use Rattle.mcs48_isa.specs.declared.operation.FlowOp.TheVariants.{Ret}
use Rattle.mcs48_isa.specs.declared.operation.PortOp.TheVariants.{InP1}
use Rattle.mcs48_isa.specs.declared.operation.ControlOp.TheVariants.{Nop}
use Rattle.mcs48_isa.specs.Text.{text_of}
use Rattle.mcs48_isa.specs.Listing.{end_after, end_of, lines_from, line_at, size_of, instruction_at, statement_of, listing_of}

-- the longest texts have thirteen characters, as DJNZ R0,0FFFH
move-short : (op : MoveOp) (at : ℕ) → length (text_of (Moves op) at) ≤ 13
move-short MovAPsw at = lit≤ tt
move-short op at = lit≤ tt

alu-short : (op : AluOp) (at : ℕ) → length (text_of (Alu op) at) ≤ 13
alu-short (AddN n) at = lit≤ tt
alu-short op at = lit≤ tt

unary-short : (op : UnaryOp) (at : ℕ) → length (text_of (Unary op) at) ≤ 13
unary-short IncA at = lit≤ tt
unary-short op at = lit≤ tt

flow-short : (op : FlowOp) (at : ℕ) → length (text_of (Flow op) at) ≤ 13
flow-short Ret at = lit≤ tt
flow-short op at = lit≤ tt

port-short : (op : PortOp) (at : ℕ) → length (text_of (PortIo op) at) ≤ 13
port-short InP1 at = lit≤ tt
port-short op at = lit≤ tt

control-short : (op : ControlOp) (at : ℕ) → length (text_of (Control op) at) ≤ 13
control-short Nop at = lit≤ tt
control-short op at = lit≤ tt

text-short : (op : Op) (at : ℕ) → length (text_of op at) ≤ 13
text-short (Moves op) at = move-short op at
text-short (Alu op) at = alu-short op at
text-short (Unary op) at = unary-short op at
text-short (Flow op) at = flow-short op at
text-short (PortIo op) at = port-short op at
text-short (Control op) at = control-short op at

statement-short : (row : Option Decoded) (byte place : ℕ) → length (statement_of row byte place) ≤ 13
statement-short (Some d) byte place = text-short d.op place
statement-short None byte place = lit≤ tt

line-short : (bytes : List ℕ) (place : ℕ) → length (line_at bytes place) ≤ 14
line-short bytes place =
    let statement : List ℕ = statement_of (instruction_at bytes place) (slice_index bytes place) place in
    let short = statement-short (instruction_at bytes place) (slice_index bytes place) place in
    omega (arith, short, length-append statement (10 ∷ []))

either-within : (b : Bool) (line rest : List ℕ) (most : ℕ) → length line ≤ 14 → length rest ≤ most * 14
    → length (if b then line ++ rest else []) ≤ suc most * 14
either-within true line rest most short within = omega (arith, short, within, length-append line rest)
either-within false line rest most short within = omega arith

lines-within : (bytes : List ℕ) (end most place : ℕ) → length (lines_from bytes end most place) ≤ most * 14
lines-within bytes end zero place = omega arith
lines-within bytes end (suc most) place =
    let next : ℕ = place + size_of (instruction_at bytes place) in
    either-within (nat_lt place end) (line_at bytes place)
    (lines_from bytes end most next) most (line-short bytes place) (lines-within bytes end most next)

end-within : (bytes : List ℕ) → end_of bytes ≤ length bytes
end-within [] = omega arith
end-within (byte ∷ bytes) = one (end_of bytes) (end-within bytes)
  where
    zero_or_not : (b : Bool) → (if b then 0 else 1) ≤ suc (length bytes)
    zero_or_not true = omega arith
    zero_or_not false = omega arith

    one : (end : ℕ) → end ≤ length bytes → end_after byte end ≤ suc (length bytes)
    one zero h = zero_or_not (nat_eq byte 0)
    one (suc end) h = omega arith

-- the listing of 2,048 bytes
pub listing-within : (bytes : List ℕ) → length bytes ≡ 2048 → length (listing_of bytes) ≤ 28672
listing-within bytes long = omega (arith, long, end-within bytes, lines-within bytes (end_of bytes) (end_of bytes) 0)
