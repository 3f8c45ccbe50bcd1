use Rattle.std.proofs.Common.{◌≡◌, true, ap, sym, ◌∙◌}
use Rattle.model_keyboard.specs.Codes.{keys_of}
use Rattle.model_keyboard.specs.Keyboard.{Keyboard}
use Rattle.model_keyboard.proofs.Known.{meets, counts}
use Rattle.model_keyboard.proofs.state.TickModel.advance.Goals as goal
use Rattle.model_keyboard.proofs.state.TickModel.advance.Goals.{then-not-was_tested, else-not-was_tested}

-- what repeats after the meeting and the test's count repeated before
pub scan-requires-clause-repeats : goal.scan-requires-clause-repeats
scan-requires-clause-repeats c =
    λ r h. let keys = keys_of c.args.layout.now in
    let from_meeting : c.if-not-was_tested.self.repeats ≡ c.meet.new.self.repeats = elim c.if-not-was_tested.branch [
      | then-not-was_tested w ↦ ap (λ (k : Keyboard). k.repeats) (w.self-is ∙ w.count_test.ensures) ∙ counts keys true c.meet.new.self
      | else-not-was_tested w ↦ ap (λ (k : Keyboard). k.repeats) w.self-is
    ] in
    let meeting = ap (λ (k : Keyboard). k.repeats) c.meet.ensures in
    c.requires.repeats r (meets keys c.args.m c.args.self.now r (sym (from_meeting ∙ meeting) ∙ h))
