use Rattle.law_fw_link.proofs.FrameLaws.{got_law}
use Rattle.law_fw_link.proofs.Reading.{reads_law, drops_law}
use Rattle.law_fw_link.proofs.frames.frame_received.Goals as goal

pub returns : goal.returns
returns c = record { received = got_law; reads = reads_law; drops = drops_law }
