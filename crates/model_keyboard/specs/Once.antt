-- Exactly once: what waits to be sent, and what leaves it.
use Rattle.std.specs.Prelude.{◌≡◌, ℕ, ◌==◌, Bool, true, false, ◌&&◌, ◌||◌, if◌then◌else◌, List, [], ◌∷◌, ◌++◌}
use Rattle.std.specs.Prelude.{Some, None, IsSome, slice_get}
use Rattle.std.specs.declared.option.Option.{Option}
use Rattle.model_keyboard.specs.declared.edge.TickEdge.{TickEdge}
use Rattle.model_keyboard.specs.declared.meeting.Meeting.{Meeting}
use Rattle.model_keyboard.specs.declared.meeting.Meeting.TheVariants.{Got, Inhibited, Idle, Sent, Cut}
use Rattle.model_keyboard.specs.declared.state.Reply.{Reply}
use Rattle.model_keyboard.specs.Codes.{Keys}
use Rattle.model_keyboard.specs.Queue.{KeyQueue, clear}
use Rattle.model_keyboard.specs.Keyboard.{Keyboard, offer}
use Rattle.model_keyboard.specs.Tick.{met, ticked}

-- the bytes that wait, in the order in which they will be offered: the reply, AA, the queue, and the 00 of an overrun
abbrev pub reply_bytes : Option Reply → List ℕ
reply_bytes (Some reply) = reply.byte ∷ []
reply_bytes None = []

abbrev pub byte_if : Bool → ℕ → List ℕ
byte_if due byte = if due then byte ∷ [] else []

abbrev pub queued : KeyQueue → List ℕ
queued q = q.bytes ++ byte_if q.overrun 0x00

abbrev pub waiting : Keyboard → List ℕ
waiting k = reply_bytes k.reply ++ (byte_if k.aa_due 0xaa ++ queued k.queue)

-- whether a reset is due once the reply is sent
abbrev pub is_reset_due : Option Reply → Bool
is_reset_due (Some reply) = reply.resets
is_reset_due None = false

-- the byte that is offered is the first that waits
abbrev pub OffersFirst : Type 0
OffersFirst = (k : Keyboard) → offer k ≡ slice_get (waiting k) 0

-- the byte that is sent is taken away, and nothing else, but if a reset is made
abbrev pub SentLeaves : Type 0
SentLeaves = (keys : Keys) (k : Keyboard) (byte : ℕ) → offer k ≡ Some byte → is_reset_due k.reply ≡ false
    → waiting k ≡ byte ∷ waiting (met Sent keys k)

-- a reset, once its reply is sent: that reply and a due AA are gone, and the queue is cleared
abbrev pub ResetLeaves : Type 0
ResetLeaves = (keys : Keys) (k : Keyboard) → is_reset_due k.reply ≡ true
    → waiting (met Sent keys k) ≡ queued (clear k.queue)

-- if nothing is sent and nothing is got nothing changes; a byte that was cut off is still offered
pub record NothingElseLeaves : Type 0 where
  pub inhibited : (keys : Keys) (k : Keyboard) → met Inhibited keys k ≡ k
  pub idle : (keys : Keys) (k : Keyboard) → met Idle keys k ≡ k
  pub cut : (keys : Keys) (k : Keyboard) → met Cut keys k ≡ k

-- the commands that clear the queue
abbrev pub clears_queue : ℕ → Bool
clears_queue byte = (byte == 0xf6) || (byte == 0xf5) || (byte == 0xf4)

-- a byte from the system leaves the queue as it is, but for these commands with right parity, and a due AA; it has a
-- reply, which takes the place of the one that waited
pub record GotKeeps (keys : Keys) (byte : ℕ) (good : Bool) (k : Keyboard) : Type 0 where
  pub queue : (met (Got byte good) keys k).queue ≡ (if good && clears_queue byte then clear k.queue else k.queue)
  pub aa_due : (met (Got byte good) keys k).aa_due ≡ k.aa_due
  pub reply : IsSome (met (Got byte good) keys k).reply

abbrev pub GotLeaves : Type 0
GotLeaves = (keys : Keys) (byte : ℕ) (good : Bool) (k : Keyboard) → GotKeeps keys byte good k

-- what waited waits on, in its order, and what is new is after it
pub record Extends (before after : List ℕ) : Type 0 where
  pub more : List ℕ
  pub is : after ≡ before ++ more

-- the rest of a tick, whatever its meeting: it takes nothing away. Codes may enter the queue, and AA may become due
pub record OnlyAdds (before after : Keyboard) : Type 0 where
  pub reply : after.reply ≡ before.reply
  pub aa_due : before.aa_due ≡ true → after.aa_due ≡ true
  pub queue : Extends (queued before.queue) (queued after.queue)

abbrev pub RestAdds : Type 0
RestAdds =
    (keys : Keys) (meeting : Meeting) (edges : List TickEdge) (k : Keyboard)
    → OnlyAdds (met meeting keys k) (ticked keys meeting edges k)

-- if the test had ended nothing gets ahead of what waits
abbrev pub StaysInLine : Type 0
StaysInLine =
    (keys : Keys) (meeting : Meeting) (edges : List TickEdge) (k : Keyboard) → k.test ≡ 0
    → Extends (waiting (met meeting keys k)) (waiting (ticked keys meeting edges k))

-- so a byte that was cut off is offered again
abbrev pub CutIsOffered : Type 0
CutIsOffered =
    (keys : Keys) (edges : List TickEdge) (k : Keyboard) (byte : ℕ) → k.test ≡ 0 → offer k ≡ Some byte
    → offer (ticked keys Cut edges k) ≡ Some byte
