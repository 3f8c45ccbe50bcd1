use Rattle.key_file.proofs.ReadsDescribed.{reads-described}
use Rattle.key_file.proofs.DescribesRead.{describes-read}
use Rattle.key_file.proofs.laws.described_histories.Goals as goal

pub returns : goal.returns
returns c = record { read = reads-described; described = describes-read }
