-- The faults of a value change dump.
use Rattle.std.specs.Prelude.{ℕ}
use Rattle.capture_vcd.specs.declared.fault.Rule.{Rule}
use Rattle.capture_vcd.specs.declared.fault.Rule.TheVariants.{Form, Unit, NoUnit, Twice, Width, NoClock, NoData}
use Rattle.capture_vcd.specs.declared.fault.Rule.TheVariants.{Back, Unknown, Unfinished}
use Rattle.capture_vcd.specs.declared.fault.VcdFault.{VcdFault}

-- the number by which a message names the rule that is broken
abbrev pub number_of : Rule → ℕ
number_of Form = 1
number_of Unit = 2
number_of NoUnit = 3
number_of Twice = 4
number_of Width = 5
number_of NoClock = 6
number_of NoData = 7
number_of Back = 8
number_of Unknown = 9
number_of Unfinished = 10

-- a rule that is broken at a line
abbrev pub at_line : ℕ → Rule → VcdFault
at_line line rule = record { line = line; number = number_of rule }
