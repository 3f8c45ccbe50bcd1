-- What a pointer to a chip owns: the memory, with the chip in it.
use base.Fml.{Fml}
use denote.RawPtr.{Ptr, lies_at}
use Rattle.std.specs.Borrow.{full_share}
use Rattle.chip_core.specs.declared.chip.Chip.{Chip}
use Rattle.chip_core.specs.contracts.chip.Chip.{the_row}

abbrev pub lies : Ptr → Chip → Fml
lies p c = lies_at the_row full_share p c
