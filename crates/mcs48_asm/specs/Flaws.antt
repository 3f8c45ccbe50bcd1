-- What may be wrong with a line, and the number by which a message names it.
use Rattle.std.specs.Prelude.{ℕ}
use Rattle.mcs48_asm.specs.declared.flaw.Flaw.{Flaw}
use Rattle.mcs48_asm.specs.declared.flaw.Flaw.TheVariants.{Syntax, NoStatement, Misfit, UnknownName, NameTaken}
use Rattle.mcs48_asm.specs.declared.flaw.Flaw.TheVariants.{OffPage, PastEnd, PlaceTaken}

abbrev pub number_of : Flaw → ℕ
number_of Syntax = 1
number_of NoStatement = 2
number_of Misfit = 3
number_of UnknownName = 4
number_of NameTaken = 5
number_of OffPage = 6
number_of PastEnd = 7
number_of PlaceTaken = 8
