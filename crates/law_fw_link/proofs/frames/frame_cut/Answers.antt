use Rattle.law_fw_link.proofs.FrameLaws.{cut_law, pulled_law}
use Rattle.law_fw_link.proofs.frames.frame_cut.Goals as goal

pub returns : goal.returns
returns c = record { cut = cut_law; pulled = pulled_law }
