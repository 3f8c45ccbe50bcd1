use Rattle.std.proofs.Common.{sym}
use Rattle.std.specs.List.{slice_split}
use Rattle.mcs48_asm.specs.Characters.{is_comma}
use Rattle.mcs48_asm.specs.Kept.{kept_value}
use Rattle.mcs48_asm.proofs.Parts.{outside-parts}
use Rattle.mcs48_asm.proofs.faults.is_off_page.Goals as goal

pub returns-in-Data : goal.returns-in-Data
returns-in-Data c = rw c.in-Data.is
    (sym (outside-parts (kept_value c.args.names.now.entries) c.args.start (slice_split is_comma c.in-Data.field-0.now)))
