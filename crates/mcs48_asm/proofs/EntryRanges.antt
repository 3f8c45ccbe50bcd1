-- Each entry of the table is one that listings have, and its numbers are in their ranges.
use Rattle.std.proofs.Common.{◌≡◌, ◌<◌, ◌≤◌, ◌&&◌, ◌||◌, not, Bool, true, false, List, [], ◌∷◌, refl}
use Rattle.mcs48_isa.specs.declared.operation.MoveOp.{MoveOp}
use Rattle.mcs48_isa.specs.declared.operation.AluOp.{AluOp}
use Rattle.mcs48_isa.specs.declared.operation.UnaryOp.{UnaryOp}
use Rattle.mcs48_isa.specs.declared.operation.FlowOp.{FlowOp}
use Rattle.mcs48_isa.specs.declared.operation.PortOp.{PortOp}
use Rattle.mcs48_isa.specs.declared.operation.ControlOp.{ControlOp}
use Rattle.mcs48_isa.specs.declared.operation.Op.{Op}
use Rattle.mcs48_isa.specs.declared.operation.Op.TheVariants.{Moves, Alu, Unary, Flow, PortIo, Control}
use Rattle.mcs48_isa.specs.declared.operation.MoveOp.TheVariants.{MovAN}
use Rattle.mcs48_isa.specs.declared.operation.AluOp.TheVariants.{AddN}
use Rattle.mcs48_isa.specs.declared.operation.UnaryOp.TheVariants.{IncA}
use Rattle.mcs48_isa.specs.declared.operation.FlowOp.TheVariants.{Jb}
use Rattle.mcs48_isa.specs.declared.operation.PortOp.TheVariants.{InP1}
use Rattle.mcs48_isa.specs.declared.operation.ControlOp.TheVariants.{Nop}
use Rattle.mcs48_isa.specs.Instructions.{Operand, Is, Register, Pointer, Expander, Immediate, Address, Target, Entry, entry_of}
use Rattle.mcs48_isa.specs.Operands.{IsOp}
use Rattle.mcs48_isa.proofs.Cases.{registers}
use Rattle.mcs48_asm.specs.Rows.{instructions, is_instruction}
use Rattle.mcs48_asm.proofs.EntryLines.{is_entry}

-- an operand without a value of its own
abbrev pub is_fixed : Operand → Bool
is_fixed (Is word) = true
is_fixed (Register r) = true
is_fixed (Pointer i) = true
is_fixed (Expander p) = true
is_fixed operand = false

abbrev pub is_word : Operand → Bool
is_word (Is word) = true
is_word operand = false

-- an operand whose number has a range of its own
abbrev pub has_range : Operand → Bool
has_range (Is word) = false
has_range (Immediate n) = false
has_range (Target n) = false
has_range operand = true

-- of two operands the first has no value, and one of them at most has a range
abbrev pub is_paired : List Operand → Bool
is_paired (first ∷ second ∷ []) = is_fixed first && (is_word first || not (has_range second))
is_paired operands = true

-- the range of the number among operands
abbrev pub Range : List Operand → Type 0
Range [] = Unit {0}
Range (Is word ∷ operands) = Range operands
Range (Register r ∷ operands) = r < 8
Range (Pointer i ∷ operands) = i < 2
Range (Expander p ∷ operands) = (4 ≤ p) × (p < 8)
Range (Immediate n ∷ operands) = Range operands
Range (Address a ∷ operands) = a < 2048
Range (Target n ∷ operands) = Range operands

-- each entry is one that listings have
abbrev pub is_right_entry : Entry → Bool
is_right_entry entry = is_entry entry && is_paired entry.operands

-- and its numbers are in their ranges
abbrev pub IsRight : Entry → Type 0
IsRight entry = (is_right_entry entry ≡ true) × Range entry.operands

moves : (op : MoveOp) → IsOp (Moves op) → IsRight (entry_of (Moves op))
unfolding instructions is_instruction
moves (MovAN n) within = (refl, within)
moves op within = (refl, within)

alus : (op : AluOp) → IsOp (Alu op) → IsRight (entry_of (Alu op))
unfolding instructions is_instruction
alus (AddN n) within = (refl, within)
alus op within = (refl, within)

unaries : (op : UnaryOp) → IsOp (Unary op) → IsRight (entry_of (Unary op))
unfolding instructions is_instruction
unaries IncA within = (refl, within)
unaries op within = (refl, within)

flows : (op : FlowOp) → IsOp (Flow op) → IsRight (entry_of (Flow op))
unfolding instructions is_instruction
flows (Jb b n) within =
    (registers (λ b. is_right_entry (entry_of (Flow (Jb b n))) ≡ true) (refl, refl, refl, refl, refl, refl, refl, refl) b within, tt)
flows op within = (refl, within)

ports_ : (op : PortOp) → IsOp (PortIo op) → IsRight (entry_of (PortIo op))
unfolding instructions is_instruction
ports_ InP1 within = (refl, within)
ports_ op within = (refl, within)

controls : (op : ControlOp) → IsRight (entry_of (Control op))
unfolding instructions is_instruction
controls Nop = (refl, tt)
controls op = (refl, tt)

-- each operation's entry in the table is one that listings have, and its numbers are in their ranges
pub entries : (op : Op) → IsOp op → IsRight (entry_of op)
entries (Moves op) within = moves op within
entries (Alu op) within = alus op within
entries (Unary op) within = unaries op within
entries (Flow op) within = flows op within
entries (PortIo op) within = ports_ op within
entries (Control op) within = controls op
