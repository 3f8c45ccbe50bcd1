-- One step: the entry of an interrupt or an instruction, and then the timer.
use Rattle.std.specs.Prelude.{ℕ, ◌≡◌, ◌+◌, ◌%◌, Bool, true, false, not, ◌&&◌, List, slice_index, Some, None, Ok, Err}
use Rattle.std.specs.declared.option.Option.{Option}
use Rattle.std.specs.declared.result.Result.{Result}
use Rattle.mcs48_isa.specs.declared.operation.Op.{Op}
use Rattle.mcs48_isa.specs.declared.operation.Op.TheVariants.{Moves, Alu, Unary, Flow, PortIo, Control}
use Rattle.mcs48_isa.specs.declared.operation.Decoded.{Decoded}
use Rattle.mcs48_isa.specs.Table.{row_of}
use Rattle.mcs48_core.specs.declared.levels.Pins.{Pins}
use Rattle.mcs48_core.specs.declared.stepping.Stuck.{Stuck}
use Rattle.mcs48_core.specs.Cpu.{Cpu}
use Rattle.mcs48_core.specs.Registers.{past}
use Rattle.mcs48_core.specs.Moves.{move}
use Rattle.mcs48_core.specs.Arithmetic.{alu, unary}
use Rattle.mcs48_core.specs.Flow.{flow, pushed}
use Rattle.mcs48_core.specs.Ports.{port}
use Rattle.mcs48_core.specs.Control.{control}
use Rattle.mcs48_core.specs.Timer.{after_timer}

-- what an instruction does, with the program counter after its first byte
abbrev pub effect : Op → List ℕ → Pins → Cpu → Cpu
effect (Moves op) bytes pins m = move op bytes m
effect (Alu op) bytes pins m = alu op m
effect (Unary op) bytes pins m = unary op m
effect (Flow op) bytes pins m = flow op bytes pins m
effect (PortIo op) bytes pins m = port op pins m
effect (Control op) bytes pins m = control op m

-- the processor after a step, and the step's cycles
pub record Stepped : Type 0 where
  pub cpu : Cpu
  pub cycles : ℕ

-- the row that the program has at the counter, modulo the memory's 2,048 places
abbrev pub row_at : List ℕ → ℕ → Option Decoded
row_at bytes pc = row_of (slice_index bytes (pc % 2048)) (slice_index bytes ((pc + 1) % 2048))

-- the step of an instruction, if there is one
abbrev pub executed : Option Decoded → List ℕ → Pins → Cpu → Option Stepped
executed None bytes pins m = None
executed (Some d) bytes pins m = Some (record {
  cpu = after_timer m.run d.cycles pins (effect d.op bytes pins (past m));
  cycles = d.cycles;
})

-- the step of an interrupt's entry: two cycles, and no instruction
abbrev pub entered : ℕ → Pins → Cpu → Stepped
entered at pins m = record { cpu = after_timer m.run 2 pins (record (pushed m) { pc = at; svc = true }); cycles = 2 }

-- an external interrupt is taken
abbrev pub takes_external : Pins → Cpu → Bool
takes_external pins m = not m.svc && m.ext_on && not pins.int_pin

-- a timer interrupt is taken, if no external one is
abbrev pub takes_timer : Cpu → Bool
takes_timer m = not m.svc && m.tim_on && m.rq

-- the step from a state, if the byte at the counter begins an instruction or an interrupt is taken
abbrev pub stepped : List ℕ → Pins → Cpu → Option Stepped
stepped bytes pins m =
    elim (takes_external pins m) [
      | true ↦ Some (entered 3 pins m)
      | false ↦ elim (takes_timer m) [
        | true ↦ Some (entered 7 pins (record m { rq = false }))
        | false ↦ executed (row_at bytes m.pc) bytes pins m
      ]
    ]

-- what a call of `step` answers and leaves: without a step, the counter and the byte, and all unchanged
abbrev pub IsStep : List ℕ → Cpu → Option Stepped → Result ℕ Stuck → Cpu → Type 0
IsStep bytes old (Some next) result new = (result ≡ Ok next.cycles) × (new ≡ next.cpu)
IsStep bytes old None result new =
    (result ≡ Err (record { pc = old.pc; byte = slice_index bytes (old.pc % 2048) })) × (new ≡ old)
