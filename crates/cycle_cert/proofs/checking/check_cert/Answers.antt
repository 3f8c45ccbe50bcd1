use Rattle.cycle_cert.proofs.Counted.{certificate_is, is_proved}
use Rattle.cycle_cert.proofs.checking.check_cert.Goals as goal

pub returns-clause-sound : goal.returns-clause-sound
returns-clause-sound c =
    is_proved c.args.image.now.bytes c.args.text.now _ c.judged.result
    (certificate_is c.args.text.now c.in_ok-draft.draft c.in-Some.target c.in_ok-draft.ensures.draft c.in-Some.is)
    c.judged.ensures.proved c.judged.ensures.sound
