use Rattle.law_fw_link.proofs.FrameLaws.{sent_law}
use Rattle.law_fw_link.proofs.frames.frame_sent.Goals as goal

pub returns : goal.returns
returns c = record { sent = sent_law }
