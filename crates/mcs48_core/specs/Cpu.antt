-- The processor as the manual has it: registers, flags, data memory, timer, interrupts and port latches.
use Rattle.std.specs.Prelude.{ℕ, Bool, List}
use Rattle.mcs48_core.specs.declared.processor.Count.{Count}

-- one field for each part; the flags of the status byte are apart
pub record Cpu : Type 0 where
  -- program counter, 12 bits, and accumulator
  pub pc : ℕ
  pub a : ℕ
  -- carry, half carry, flag 0, and the register bank: true is bank 1
  pub c : Bool
  pub ac : Bool
  pub f0 : Bool
  pub rb : Bool
  -- stack pointer, 0 to 7
  pub sp : ℕ
  -- flag 1, and the memory-bank flip-flop
  pub f1 : Bool
  pub mb : Bool
  -- data memory, 128 bytes
  pub ram : List ℕ
  -- timer, prescaler (0 to 31), timer flag, and how the timer runs
  pub t : ℕ
  pub pre : ℕ
  pub tf : Bool
  pub run : Count
  -- external and timer interrupts enabled, a timer request latched, an interrupt in service
  pub ext_on : Bool
  pub tim_on : Bool
  pub rq : Bool
  pub svc : Bool
  -- the latches of the ports and of the bus
  pub p1 : ℕ
  pub p2 : ℕ
  pub bus : ℕ
  -- clock output enabled, and the level of T1 at the last step
  pub clk : Bool
  pub last_t1 : Bool
