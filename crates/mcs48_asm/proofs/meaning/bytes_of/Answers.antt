use Rattle.std.specs.List.{slice_split}
use Rattle.mcs48_asm.specs.Characters.{is_comma}
use Rattle.mcs48_asm.specs.Kept.{kept_value}
use Rattle.mcs48_asm.proofs.Parts.{map-parts}
use Rattle.mcs48_asm.proofs.meaning.bytes_of.Goals as goal

pub returns-in-Data : goal.returns-in-Data
returns-in-Data c = rw
    (c.in-Data.is, ← map-parts (kept_value c.args.names.now.entries) (slice_split is_comma c.in-Data.text.now)) c.data_bytes.ensures
