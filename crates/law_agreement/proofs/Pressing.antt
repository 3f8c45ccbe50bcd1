-- What repeats as the keys' steps begin repeated at the tick's start: the meeting and the test's count may only end it.
use Rattle.std.proofs.Common.{◌≡◌, ◌==◌, not, Some, None, refl, sym, ◌∙◌, subst}
use Rattle.std.specs.declared.option.Option.{Option}
use Rattle.law_fw_keys.proofs.Keyboard.{IsPressedAt}
use Rattle.law_fw_keys.specs.Frameless.{IsPressed}
use Rattle.model_keyboard.proofs.Known.{meets, counts}
use Rattle.model_keyboard.specs.Codes.{Keys}
use Rattle.model_keyboard.specs.Keyboard.{Keyboard}
use Rattle.model_keyboard.specs.Layers.{Layers}
use Rattle.model_keyboard.specs.Tick.{met, tested_if}
use Rattle.model_keyboard.specs.declared.meeting.Meeting.{Meeting}
use Rattle.model_keyboard.specs.declared.state.Repeat.{Repeat}

-- what repeats as the keys' steps begin is a key that was pressed at the tick's start
pub pressed_at : (keys : Keys) (meeting : Meeting) (l : Layers) (k : Keyboard) → IsPressed keys l k.repeats
    → IsPressedAt keys meeting l k
pressed_at keys meeting l k is = by (tested_if (not (k.test == 0)) (met meeting keys k)).repeats refl
  where
    by : (o : Option Repeat) → (tested_if (not (k.test == 0)) (met meeting keys k)).repeats ≡ o → IsPressed keys l o
    by None e = tt
    by (Some r) e =
        subst (λ o. IsPressed keys l o)
        (meets keys meeting k r (sym (counts keys (not (k.test == 0)) (met meeting keys k)) ∙ e)) is
