-- The sizes of what a processor keeps.
use Rattle.std.specs.Prelude.{◌≡◌, ◌<◌, ℕ, List, All, length}
use Rattle.mcs48_core.specs.declared.levels.Pins.{Pins}
use Rattle.mcs48_core.specs.Cpu.{Cpu}

-- 00 to FF
abbrev pub IsByte : ℕ → Type 0
IsByte b = b < 256

-- bytes are bytes, the counter has 12 bits, the prescaler counts to 32, data memory has 128 places, and the stack
-- pointer 3 bits
pub record AreFine (counter acc : ℕ) (cells : List ℕ) (timer prescaler port1 port2 port0 stack : ℕ) : Type 0 where
  pub pc : counter < 4096
  pub a : acc < 256
  pub ram : All IsByte cells
  pub long : length cells ≡ 128
  pub t : timer < 256
  pub pre : prescaler < 32
  pub p1 : port1 < 256
  pub p2 : port2 < 256
  pub bus : port0 < 256
  pub sp : stack < 8

-- of a processor, whatever its flags and modes
abbrev pub IsFine : Cpu → Type 0
IsFine m = AreFine m.pc m.a m.ram m.t m.pre m.p1 m.p2 m.bus m.sp

-- the levels of the bus are a byte; those of the ports are masked by the latches
abbrev pub IsFinePins : Pins → Type 0
IsFinePins pins = pins.bus < 256
