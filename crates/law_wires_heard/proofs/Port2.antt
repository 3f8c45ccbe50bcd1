-- A step takes one or two cycles; one that changes the latch of port 2 takes two.
use Rattle.std.proofs.Common.{◌≡◌, ◌≤◌, ◌<◌, ◌⊎◌, inl, inr, ℕ, suc, zero, ◌+◌, ◌%◌, List, [], ◌∷◌, Bool, true, false, not, ◌&&◌, ◌||◌, ◌==◌}
use Rattle.std.proofs.Common.{Some, None, get_or, refl, ap, sym, ◌∙◌, subst, arith}
use Rattle.std.specs.declared.option.Option.{Option}
use Rattle.bits.proofs.Every.{both, same_of}
use Rattle.mcs48_core.specs.Cpu.{Cpu}
use Rattle.mcs48_core.specs.Control.{control}
use Rattle.mcs48_core.specs.Arithmetic.{alu, unary}
use Rattle.mcs48_core.specs.Flow.{flow}
use Rattle.mcs48_core.specs.Moves.{move}
use Rattle.mcs48_core.specs.Ports.{port}
use Rattle.mcs48_core.specs.Registers.{past}
use Rattle.mcs48_core.specs.Step.{Stepped, row_at, effect, executed, entered, takes_external, takes_timer, stepped}
use Rattle.mcs48_core.specs.Timer.{after_timer}
use Rattle.mcs48_core.specs.declared.levels.Pins.{Pins}
use Rattle.mcs48_isa.specs.Table.{Line, lines, none, row_of}
use Rattle.mcs48_isa.specs.declared.operation.AluOp.{AluOp}
use Rattle.mcs48_isa.specs.declared.operation.AluOp.TheVariants.{AddR}
use Rattle.mcs48_isa.specs.declared.operation.ControlOp.{ControlOp}
use Rattle.mcs48_isa.specs.declared.operation.ControlOp.TheVariants.{Nop}
use Rattle.mcs48_isa.specs.declared.operation.Decoded.{Decoded}
use Rattle.mcs48_isa.specs.declared.operation.FlowOp.{FlowOp}
use Rattle.mcs48_isa.specs.declared.operation.FlowOp.TheVariants.{Jmp}
use Rattle.mcs48_isa.specs.declared.operation.MoveOp.{MoveOp}
use Rattle.mcs48_isa.specs.declared.operation.MoveOp.TheVariants.{MovAN}
use Rattle.mcs48_isa.specs.declared.operation.Op.{Op}
use Rattle.mcs48_isa.specs.declared.operation.Op.TheVariants.{Moves, Alu, Unary, Flow, PortIo, Control}
use Rattle.mcs48_ranges.proofs.Rows.{row_timed}
use Rattle.mcs48_isa.specs.declared.operation.UnaryOp.{UnaryOp}
use Rattle.mcs48_isa.specs.declared.operation.UnaryOp.TheVariants.{IncA}

-- no operation but those of the ports writes a port
move_keeps : (op : MoveOp) (bytes : List ℕ) (m : Cpu) → (move op bytes m).p2 ≡ m.p2
move_keeps (MovAN n) bytes m = refl
move_keeps op bytes m = refl

alu_keeps : (op : AluOp) (m : Cpu) → (alu op m).p2 ≡ m.p2
alu_keeps (AddR r) m = refl
alu_keeps op m = refl

unary_keeps : (op : UnaryOp) (m : Cpu) → (unary op m).p2 ≡ m.p2
unary_keeps IncA m = refl
unary_keeps op m = refl

flow_keeps : (op : FlowOp) (bytes : List ℕ) (pins : Pins) (m : Cpu) → (flow op bytes pins m).p2 ≡ m.p2
flow_keeps (Jmp to) bytes pins m = refl
flow_keeps op bytes pins m = refl

control_keeps : (op : ControlOp) (m : Cpu) → (control op m).p2 ≡ m.p2
control_keeps Nop m = refl
control_keeps op m = refl

-- whether an operation is one of the ports
abbrev is_port : Op → Bool
is_port (PortIo op) = true
is_port (Moves op) = false
is_port (Alu op) = false
is_port (Unary op) = false
is_port (Flow op) = false
is_port (Control op) = false

effect_keeps : (op : Op) (bytes : List ℕ) (pins : Pins) (m : Cpu) → is_port op ≡ false → (effect op bytes pins m).p2 ≡ m.p2
effect_keeps (PortIo op) bytes pins m h = absurd cc
effect_keeps (Moves op) bytes pins m h = move_keeps op bytes m
effect_keeps (Alu op) bytes pins m h = alu_keeps op m
effect_keeps (Unary op) bytes pins m h = unary_keeps op m
effect_keeps (Flow op) bytes pins m h = flow_keeps op bytes pins m
effect_keeps (Control op) bytes pins m h = control_keeps op m

-- and those take two cycles
abbrev each : (Line → Bool) → List Line → Bool
each p [] = true
each p (x ∷ xs) = p x && each p xs

picked : (p : Line → Bool) (xs : List Line) (i : ℕ) → p none ≡ true → each p xs ≡ true → p (get_or xs i none) ≡ true
picked p [] i z h = z
picked p (x ∷ xs) zero z h = (both (p x) (each p xs) h).0
picked p (x ∷ xs) (suc i) z h = picked p xs i z (both (p x) (each p xs) h).1

abbrev is_slow : Option Decoded → Bool
is_slow None = true
is_slow (Some r) = not (is_port r.op) || (r.cycles == 2)

slow_lines : (n : ℕ) → each (λ line. is_slow (line n)) lines ≡ true
slow_lines n = refl

slow_by : (o : Option Decoded) (r : Decoded) → o ≡ Some r → is_slow o ≡ true → is_port r.op ≡ true → r.cycles ≡ 2
slow_by (Some q) r e h port =
    let g : q ≡ r = cc in
    let k : is_slow (Some r) ≡ true = rw (← g) h in
    same_of r.cycles 2 (sym (ap (λ b. not b || (r.cycles == 2)) port) ∙ k)
slow_by None r e h port = absurd cc

row_slow : (b n : ℕ) (r : Decoded) → row_of b n ≡ Some r → is_port r.op ≡ true → r.cycles ≡ 2
row_slow b n r e port = slow_by (row_of b n) r e (picked (λ line. is_slow (line n)) lines b refl (slow_lines n)) port

-- a step takes one or two cycles, and two where the latch isn't as it was
pub record IsTimed (m : Cpu) (next : Stepped) : Type 0 where
  pub least : 1 ≤ next.cycles
  pub most : next.cycles ≤ 2
  pub slow : (next.cpu.p2 ≡ m.p2) ⊎ (next.cycles ≡ 2)

same_some : {A : Type 0} (a b : A) → Some a ≡ Some b → a ≡ b
same_some a b e = cc

executed_timed : (bytes : List ℕ) (pins : Pins) (m : Cpu) (next : Stepped) (o : Option Decoded) → row_at bytes m.pc ≡ o
    → executed o bytes pins m ≡ Some next → IsTimed m next
executed_timed bytes pins m next None row e = absurd cc
executed_timed bytes pins m next (Some r) row e =
    let left : Cpu = after_timer m.run r.cycles pins (effect r.op bytes pins (past m)) in
    let one : Stepped = record { cpu = left; cycles = r.cycles } in
    let t = row_timed (get_or bytes (m.pc % 2048) 0) (get_or bytes ((m.pc + 1) % 2048) 0) r row in
    let some : 0 < r.cycles = t.0 in
    subst (λ n. IsTimed m n) (same_some one next e) (record {
      least = omega (arith, some);
      most = t.1;
      slow = by (is_port r.op) refl;
    })
  where
    by : (b : Bool) → is_port r.op ≡ b
        → ((after_timer m.run r.cycles pins (effect r.op bytes pins (past m))).p2 ≡ m.p2) ⊎ (r.cycles ≡ 2)
    by true here = inr (row_slow (get_or bytes (m.pc % 2048) 0) (get_or bytes ((m.pc + 1) % 2048) 0) r row here)
    by false other = inl (effect_keeps r.op bytes pins (past m) other)

entered_timed : (at : ℕ) (pins : Pins) (m k : Cpu) (next : Stepped) → k.p2 ≡ m.p2 → Some (entered at pins k) ≡ Some next → IsTimed m next
entered_timed at pins m k next same e =
    subst (λ n. IsTimed m n) (same_some (entered at pins k) next e)
    (record { least = omega arith; most = omega arith; slow = inl same })

stepped_by : (bytes : List ℕ) (pins : Pins) (m : Cpu) (next : Stepped) (x y : Bool)
    → (elim x as (λ v. Option Stepped) [
      | true ↦ Some (entered 3 pins m)
      | false ↦
          elim y as (λ v. Option Stepped) [
            | true ↦ Some (entered 7 pins (record m { rq = false }))
            | false ↦
                executed (row_at bytes m.pc) bytes pins m
          ]
    ]) ≡ Some next
    → IsTimed m next
stepped_by bytes pins m next true y e = entered_timed 3 pins m m next refl e
stepped_by bytes pins m next false true e = entered_timed 7 pins m (record m { rq = false }) next refl e
stepped_by bytes pins m next false false e = executed_timed bytes pins m next (row_at bytes m.pc) refl e

-- a step takes one or two cycles, and two if it changes the latch of port 2
pub stepped_timed : (bytes : List ℕ) (pins : Pins) (m : Cpu) (next : Stepped) → stepped bytes pins m ≡ Some next → IsTimed m next
stepped_timed bytes pins m next e = stepped_by bytes pins m next (takes_external pins m) (takes_timer m) e
