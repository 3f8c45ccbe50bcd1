use Rattle.std.proofs.Common.{[], refl}
use Rattle.text_lines.proofs.FirstField.{fields-empty}
use Rattle.capture_vcd.specs.Reads.{reads_of}
use Rattle.capture_vcd.proofs.reader.Reader.new.Goals as goal

pub returns : goal.returns
unfolding reads_of
returns c = record { reads = rw (c.new.ensures, fields-empty [] refl) refl }
