-- The text that shows a processor's state, in five lines.
use Rattle.std.specs.Prelude.{ℕ, Bool, if◌then◌else◌, List, [], ◌∷◌, ◌++◌, codes, flat_map, slice_index_or}
use Rattle.std.specs.Fmt.{decimal}
use Rattle.hex_text.specs.Digits.{hex_byte, hex_address}
use Rattle.mcs48_core.specs.declared.processor.Count.{Count}
use Rattle.mcs48_core.specs.declared.processor.Count.TheVariants.{Off, Timer, Counter}
use Rattle.mcs48_core.specs.Cpu.{Cpu}
use Rattle.mcs48_core.specs.Status.{psw_of}
use Rattle.mcs48_core.specs.Registers.{register}

-- a flag as a digit
abbrev pub flag : Bool → List ℕ
flag b = if b then codes "1" else codes "0"

-- an enabling as a word
abbrev pub switch : Bool → List ℕ
switch b = if b then codes "on" else codes "off"

-- how the timer runs, as a word
abbrev pub run_word : Count → List ℕ
run_word Off = codes "off"
run_word Timer = codes "timer"
run_word Counter = codes "counter"

-- the end of a line
abbrev pub line_end : List ℕ
line_end = 10 ∷ []

-- counter, accumulator, status, flag 1 and memory bank
abbrev pub counter_line : Cpu → List ℕ
counter_line m =
    codes "pc " ++ hex_address m.pc ++ codes " a " ++ hex_byte m.a ++ codes " psw " ++ hex_byte (psw_of m)
    ++ codes " f1 " ++ flag m.f1 ++ codes " mb " ++ flag m.mb ++ line_end

-- timer, prescaler, timer flag, and how the timer runs
abbrev pub timer_fields : Cpu → List ℕ
timer_fields m =
    codes "t " ++ hex_byte m.t ++ codes " pre " ++ hex_byte m.pre ++ codes " tf " ++ flag m.tf
    ++ codes " run " ++ run_word m.run

-- timer and interrupts
abbrev pub timer_line : Cpu → List ℕ
timer_line m =
    timer_fields m ++ codes " ext " ++ switch m.ext_on ++ codes " tim " ++ switch m.tim_on
    ++ codes " rq " ++ flag m.rq ++ codes " svc " ++ flag m.svc ++ line_end

-- the latches
abbrev pub latch_line : Cpu → List ℕ
latch_line m =
    codes "p1 " ++ hex_byte m.p1 ++ codes " p2 " ++ hex_byte m.p2 ++ codes " bus " ++ hex_byte m.bus ++ line_end

-- a register of the selected bank
abbrev pub shown_register : ℕ → Cpu → List ℕ
shown_register r m = codes " " ++ hex_byte (register r m)

-- the first four of them
abbrev pub first_registers : Cpu → List ℕ
first_registers m = codes "r" ++ shown_register 0 m ++ shown_register 1 m ++ shown_register 2 m ++ shown_register 3 m

-- all eight
abbrev pub register_line : Cpu → List ℕ
register_line m =
    first_registers m ++ shown_register 4 m ++ shown_register 5 m ++ shown_register 6 m ++ shown_register 7 m ++ line_end

-- the steps and the cycles done
abbrev pub count_line : ℕ → ℕ → List ℕ
count_line steps cycles = codes "steps " ++ decimal steps ++ codes " cycles " ++ decimal cycles ++ line_end

-- a line by its number, counted from 0
abbrev pub state_row : Cpu → ℕ → ℕ → ℕ → List ℕ
state_row m steps cycles row =
    let rows = counter_line m ∷ timer_line m ∷ latch_line m ∷ register_line m ∷ count_line steps cycles ∷ []
    in slice_index_or rows row []

-- the whole text: the five lines
abbrev pub state_text_of : Cpu → ℕ → ℕ → List ℕ
state_text_of m steps cycles = flat_map (state_row m steps cycles) (0 ∷ 1 ∷ 2 ∷ 3 ∷ 4 ∷ [])
