-- A pointer to a chip after the chip was lent: it leads to what was written last.
use Rattle.std.specs.Borrow.{Fml, MutBor, Lends}
use Rattle.chip_core.specs.declared.chip.Chip.{Chip}
use Rattle.chip_core.specs.contracts.chip.Chip as chip
use Rattle.kbd48_chip.specs.declared.chip_at.ChipAt.{ChipAt}
use Rattle.kbd48_chip.specs.contracts.chip_at.ChipAt as chip_at

-- with another chip there
abbrev pub with_chip : ChipAt → Chip → ChipAt
with_chip p c = record { at = p.at; chip = c }

abbrev pub lends_chip : MutBor ChipAt → MutBor Chip → Fml
lends_chip p c = Lends chip_at.the_row chip.the_row p c (with_chip p.now)
