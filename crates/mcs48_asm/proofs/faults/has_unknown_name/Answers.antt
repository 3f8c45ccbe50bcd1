use Rattle.std.proofs.Common.{sym, ◌∙◌}
use Rattle.std.specs.List.{slice_split}
use Rattle.mcs48_asm.specs.Characters.{is_comma}
use Rattle.mcs48_asm.specs.Kept.{kept_value}
use Rattle.mcs48_asm.proofs.Parts.{unknown-parts}
use Rattle.mcs48_asm.proofs.faults.has_unknown_name.Goals as goal

pub returns-in-Data : goal.returns-in-Data
returns-in-Data c = rw c.in-Data.is
    (c.has_unknown_part.ensures ∙ sym (unknown-parts (kept_value c.args.names.now.entries) (slice_split is_comma c.in-Data.text.now)))
