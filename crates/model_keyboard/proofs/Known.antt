-- What the meeting does to the key that repeats: it goes on, or nothing repeats any more.
use Rattle.std.proofs.Common.{◌≡◌, ℕ, ◌==◌, ◌%◌, Bool, true, false, Some, None, refl}
use Rattle.std.specs.Prelude.{nat_lt, nat_le, if◌then◌else◌}
use Rattle.std.specs.declared.option.Option.{Option}
use Rattle.model_keyboard.specs.declared.meeting.Meeting.{Meeting}
use Rattle.model_keyboard.specs.declared.meeting.Meeting.TheVariants.{Got, Inhibited, Idle, Sent, Cut}
use Rattle.model_keyboard.specs.declared.state.Mode.{Mode}
use Rattle.model_keyboard.specs.declared.state.Mode.TheVariants.{Ready, WantRate, WantLights}
use Rattle.model_keyboard.specs.declared.state.Reply.{Reply}
use Rattle.model_keyboard.specs.declared.state.Repeat.{Repeat}
use Rattle.model_keyboard.specs.Codes.{Keys}
use Rattle.model_keyboard.specs.Keyboard.{Keyboard, offer}
use Rattle.model_keyboard.specs.Commands.{commanded, parameter, obeyed_in}
use Rattle.model_keyboard.specs.Tick.{met, tested_if, without_offered, sent_byte}
use Rattle.model_keyboard.proofs.Once.{either}

-- what repeats now repeated before
abbrev pub Keeps : Option Repeat → Option Repeat → Type 0
Keeps before now = (r : Repeat) → now ≡ Some r → before ≡ Some r

abbrev Keeping : Keyboard → Keyboard → Type 0
Keeping k k' = Keeps k.repeats k'.repeats

same : (o : Option Repeat) → Keeps o o
same o r h = h

gone : (o : Option Repeat) → Keeps o None
gone o r h = absurd cc

module _ (keys : Keys) where
  off : (r : Option Reply) (k : Keyboard) → Keeping k (without_offered r keys k)
  off (Some r) k = either (Keeping k) r.resets _ _ (λ _. gone k.repeats) (λ _. same k.repeats)
  off None k = same k.repeats

  sends : (o : Option ℕ) (k : Keyboard) → Keeping k (sent_byte o keys k)
  sends (Some b) k = off k.reply (record k { last = if b == 0xfe then k.last else b })
  sends None k = same k.repeats

  module _ (byte : ℕ) where
    command : (k : Keyboard) → Keeping k (commanded keys byte k)
    command k =
        either (Keeping k) (byte == 0xff) _ _ (λ _. same k.repeats) (λ _.
        either (Keeping k) (byte == 0xfe) _ _ (λ _. same k.repeats) (λ _.
        either (Keeping k) (byte == 0xf6) _ _ (λ _. gone k.repeats) (λ _.
        either (Keeping k) (byte == 0xf5) _ _ (λ _. gone k.repeats) (λ _.
        either (Keeping k) (byte == 0xf4) _ _ (λ _. gone k.repeats) (λ _.
        either (Keeping k) (byte == 0xf3) _ _ (λ _. same k.repeats) (λ _.
        either (Keeping k) (byte == 0xed) _ _ (λ _. same k.repeats) (λ _.
        either (Keeping k) (byte == 0xee) _ _ (λ _. same k.repeats) (λ _.
        either (Keeping k) (nat_le 0xef byte) _ _ (λ _. same k.repeats) (λ _. same k.repeats)))))))))

    param : (k with_it : Keyboard) → Keeping k with_it → Keeping k (parameter keys byte with_it k)
    param k with_it e =
        either (Keeping k) (nat_lt byte 0x80) _ _ (λ _. e) (λ _.
        either (Keeping k) (nat_lt byte 0xed) _ _ (λ _. same k.repeats) (λ _. command (record k { mode = Ready })))

    obeys : (m : Mode) (k : Keyboard) → Keeping k (obeyed_in m keys byte k)
    obeys Ready k = command k
    obeys WantRate k = param k (record k { rate = byte }) (same k.repeats)
    obeys WantLights k = param k (record k { lights = byte % 8 }) (same k.repeats)

  -- after a meeting nothing repeats that didn't before
  pub meets : (m : Meeting) (k : Keyboard) → Keeping k (met m keys k)
  meets Sent k = sends (offer k) k
  meets (Got byte true) k = obeys byte k.mode k
  meets (Got byte false) k = same k.repeats
  meets Inhibited k = same k.repeats
  meets Idle k = same k.repeats
  meets Cut k = same k.repeats

  -- the test's count leaves it
  pub counts : (running : Bool) (k : Keyboard) → (tested_if running k).repeats ≡ k.repeats
  counts true k = refl
  counts false k = refl
