use Rattle.app_answers.proofs.BytesAreSaid.{heard_at}
use Rattle.app_answers.proofs.feeding.text_of_bytes.Goals as goal

pub loop-byte-preserved : goal.loop-byte-preserved
loop-byte-preserved c = record {
  empty = c.hear.ensures.empty;
  said =
      heard_at (record { controller = c.loop-byte.controller; bios = c.loop-byte.bios })
      (record { controller = c.hear.new.controller; bios = c.hear.new.bios })
      c.args.bytes.now _ _ _ c.loop-byte.byte-index c.loop-byte-test.true c.hear.ensures.controller c.hear.ensures.bios
      c.in_ok-hear.ensures.said c.loop-byte.invariant.said;
}
