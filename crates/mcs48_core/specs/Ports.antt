-- The ports, the bus and the port expander. The program counter is after the first byte.
use Rattle.std.specs.Prelude.{bit_and, bit_or}
use Rattle.mcs48_isa.specs.declared.operation.PortOp.{PortOp}
use Rattle.mcs48_isa.specs.declared.operation.PortOp.TheVariants.{InP1, InP2, InsBus, OutlP1, OutlP2, OutlBus}
use Rattle.mcs48_isa.specs.declared.operation.PortOp.TheVariants.{AnlP1, AnlP2, AnlBus, OrlP1, OrlP2, OrlBus}
use Rattle.mcs48_isa.specs.declared.operation.PortOp.TheVariants.{MovdAP, MovdPA, OrldPA, AnldPA}
use Rattle.mcs48_core.specs.declared.levels.Pins.{Pins}
use Rattle.mcs48_core.specs.Cpu.{Cpu}
use Rattle.mcs48_core.specs.Registers.{past}

-- one equation a row
abbrev pub port : PortOp → Pins → Cpu → Cpu
-- a port is read as latch AND pin, the bus as its pins alone
port InP1 pins m = record m { a = bit_and m.p1 pins.p1 }
port InP2 pins m = record m { a = bit_and m.p2 pins.p2 }
port InsBus pins m = record m { a = pins.bus }
port OutlP1 pins m = record m { p1 = m.a }
port OutlP2 pins m = record m { p2 = m.a }
port OutlBus pins m = record m { bus = m.a }
-- AND and OR act on the latch
port (AnlP1 n) pins m = record (past m) { p1 = bit_and m.p1 n }
port (AnlP2 n) pins m = record (past m) { p2 = bit_and m.p2 n }
port (AnlBus n) pins m = record (past m) { bus = bit_and m.bus n }
port (OrlP1 n) pins m = record (past m) { p1 = bit_or m.p1 n }
port (OrlP2 n) pins m = record (past m) { p2 = bit_or m.p2 n }
port (OrlBus n) pins m = record (past m) { bus = bit_or m.bus n }
-- there is no port expander: it reads 0F, and writes to it are dropped
port (MovdAP p) pins m = record m { a = 15 }
port (MovdPA p) pins m = m
port (OrldPA p) pins m = m
port (AnldPA p) pins m = m
