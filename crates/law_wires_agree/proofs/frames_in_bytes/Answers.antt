use Rattle.law_wires_agree.proofs.InFrame.{sent_in_bytes, got_in_bytes, sent_ends, got_ends}
use Rattle.law_wires_agree.proofs.frames_in_bytes.Goals as goal

pub returns : goal.returns
returns c = record { sent = sent_in_bytes; got = got_in_bytes; sent_ends = sent_ends; got_ends = got_ends }
