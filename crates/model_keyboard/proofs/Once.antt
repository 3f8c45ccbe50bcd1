-- What leaves the keyboard leaves it once.
use Rattle.std.proofs.Common.{◌≡◌, ℕ, ◌%◌, ◌==◌, Bool, true, false, List, [], ◌∷◌, ◌++◌, Some, None, refl, ap, sym, ◌∙◌, arith}
use Rattle.std.specs.Prelude.{if◌then◌else◌, slice_get, nat_lt, nat_le, IsSome}
use Rattle.std.specs.declared.option.Option.{Option}
use Rattle.std.proofs.lemmas.Bool.Decides.{nat_tests}
use Rattle.std.proofs.lemmas.Bool.{eqb-true}
use Rattle.model_keyboard.specs.declared.meeting.Meeting.TheVariants.{Sent}
use Rattle.model_keyboard.specs.declared.state.Mode.{Mode}
use Rattle.model_keyboard.specs.declared.state.Mode.TheVariants.{Ready, WantRate, WantLights}
use Rattle.model_keyboard.specs.declared.state.Reply.{Reply}
use Rattle.model_keyboard.specs.Codes.{Keys}
use Rattle.model_keyboard.specs.Queue.{KeyQueue, first_of, without_first, clear}
use Rattle.model_keyboard.specs.Keyboard.{Keyboard, offered, offer}
use Rattle.model_keyboard.specs.Commands.{commanded, parameter, obeyed_in}
use Rattle.model_keyboard.specs.Tick.{reset, met, without_offered, sent_byte}
use Rattle.model_keyboard.specs.Once.{reply_bytes, byte_if, queued, waiting, is_reset_due, clears_queue, GotKeeps}

-- the offer
first_is : (bytes : List ℕ) (overrun : Bool) → first_of bytes overrun ≡ slice_get (bytes ++ byte_if overrun 0x00) 0
first_is [] true = refl
first_is [] false = refl
first_is (b ∷ rest) overrun = refl

offered_is : (r : Option Reply) (aa : Bool) (q : KeyQueue) → offered r aa q ≡ slice_get (reply_bytes r ++ (byte_if aa 0xaa ++ queued q)) 0
offered_is (Some r) aa q = refl
offered_is None true q = refl
offered_is None false q = first_is q.bytes q.overrun

-- the keyboard offers the first byte that waits
pub offers_first : (k : Keyboard) → offer k ≡ slice_get (waiting k) 0
offers_first k = offered_is k.reply k.aa_due k.queue

-- what is sent goes
dropped_is : (bytes : List ℕ) (overrun : Bool) (q : KeyQueue) (byte : ℕ) → q.bytes ≡ bytes → q.overrun ≡ overrun
    → first_of bytes overrun ≡ Some byte
    → bytes ++ byte_if overrun 0x00 ≡ byte ∷ queued (without_first bytes q)
dropped_is [] true q byte eb eo h = let e : 0x00 ≡ byte = cc in rw (eb, e) refl
dropped_is [] false q byte eb eo h = absurd cc
dropped_is (b ∷ rest) overrun q byte eb eo h = let e : b ≡ byte = cc in rw (eo, e) refl

-- whatever is done to the last byte sent
went_by : (keys : Keys) (k : Keyboard) (r : Option Reply) (aa : Bool) (byte : ℕ) → k.reply ≡ r → k.aa_due ≡ aa
    → offered r aa k.queue ≡ Some byte
    → is_reset_due r ≡ false → reply_bytes r ++ (byte_if aa 0xaa ++ queued k.queue) ≡ byte ∷ waiting (without_offered r keys k)
went_by keys k (Some r) aa byte er ea h n = let e : r.byte ≡ byte = cc in rw (n, ea, e) refl
went_by keys k None true byte er ea h n = let e : 0xaa ≡ byte = cc in rw (ea, er, e) refl
went_by keys k None false byte er ea h n = rw (ea, er) (dropped_is k.queue.bytes k.queue.overrun k.queue byte refl refl h)

-- a byte that is sent, unless it is a reset's reply, leaves just the others waiting
pub sent_leaves : (keys : Keys) (k : Keyboard) (byte : ℕ) → offer k ≡ Some byte → is_reset_due k.reply ≡ false
    → waiting k ≡ byte ∷ waiting (met Sent keys k)
sent_leaves keys k byte h n =
    went_by keys (record k { last = if byte == 0xfe then k.last else byte }) k.reply k.aa_due byte refl refl h n
    ∙ sym (ap (λ o. byte ∷ waiting (sent_byte o keys k)) h)

-- a reset leaves the cleared queue alone
reset_by : (keys : Keys) (k : Keyboard) (r : Option Reply) → k.reply ≡ r → is_reset_due r ≡ true
    → waiting (met Sent keys k) ≡ queued (clear k.queue)
reset_by keys k None e h = absurd cc
reset_by keys k (Some r) e h =
    let k' : Keyboard = record k { last = if r.byte == 0xfe then k.last else r.byte } in
    ap (λ v. waiting (sent_byte (offered v k.aa_due k.queue) keys k)) e
    ∙ ap (λ v. waiting (without_offered v keys k')) e
    ∙ ap (λ c. waiting (if c then reset keys k' else record k' { reply = None })) h

-- after the reply to a reset is sent only what the clear left of the queue waits
pub reset_leaves : (keys : Keys) (k : Keyboard) → is_reset_due k.reply ≡ true
    → waiting (met Sent keys k) ≡ queued (clear k.queue)
reset_leaves keys k h = reset_by keys k k.reply refl h

-- a command has a reply, and leaves AA, and the queue but for those that clear it
record Keeps (byte : ℕ) (k k' : Keyboard) : Type 0 where
  queue : k'.queue ≡ (if clears_queue byte then clear k.queue else k.queue)
  aa_due : k'.aa_due ≡ k.aa_due
  reply : IsSome k'.reply

-- what holds of both keyboards holds of the one that a test chooses
pub either : (P : Keyboard → Type 0) (t : Bool) (a b : Keyboard) → (t ≡ true → P a) → (t ≡ false → P b) → P (if t then a else b)
either P true a b f g = f refl
either P false a b f g = g refl

module _ (keys : Keys) (byte : ℕ) where
  off : (k k' : Keyboard) → clears_queue byte ≡ false → k'.queue ≡ k.queue → k'.aa_due ≡ k.aa_due → IsSome k'.reply
      → Keeps byte k k'
  off k k' h q a r =
      record { queue = q ∙ sym (ap (λ c. if c then clear k.queue else k.queue) h); aa_due = a; reply = r }

  on : (k k' : Keyboard) → clears_queue byte ≡ true → k'.queue ≡ clear k.queue → k'.aa_due ≡ k.aa_due → IsSome k'.reply
      → Keeps byte k k'
  on k k' h q a r =
      record { queue = q ∙ sym (ap (λ c. if c then clear k.queue else k.queue) h); aa_due = a; reply = r }

  is : (n : ℕ) (c : Bool) → clears_queue n ≡ c → (byte == n) ≡ true → clears_queue byte ≡ c
  is n c h e = ap clears_queue (eqb-true byte n e) ∙ h

  none : (byte == 0xf6) ≡ false → (byte == 0xf5) ≡ false → (byte == 0xf4) ≡ false → clears_queue byte ≡ false
  none a b c = rw (a, b, c) refl

  low : nat_lt byte 0xed ≡ true → clears_queue byte ≡ false
  low h =
      let a : (byte == 0xf6) ≡ false = grind (arith, nat_tests, h) in
      let b : (byte == 0xf5) ≡ false = grind (arith, nat_tests, h) in
      let c : (byte == 0xf4) ≡ false = grind (arith, nat_tests, h) in
      none a b c

  command_keeps : (k : Keyboard) → Keeps byte k (commanded keys byte k)
  command_keeps k =
      either (Keeps byte k) (byte == 0xff) _ _ (λ e. off k _ (is 0xff false refl e) refl refl refl) (λ _.
      either (Keeps byte k) (byte == 0xfe) _ _ (λ e. off k _ (is 0xfe false refl e) refl refl refl) (λ _.
      either (Keeps byte k) (byte == 0xf6) _ _ (λ e. on k _ (is 0xf6 true refl e) refl refl refl) (λ a.
      either (Keeps byte k) (byte == 0xf5) _ _ (λ e. on k _ (is 0xf5 true refl e) refl refl refl) (λ b.
      either (Keeps byte k) (byte == 0xf4) _ _ (λ e. on k _ (is 0xf4 true refl e) refl refl refl) (λ c.
      either (Keeps byte k) (byte == 0xf3) _ _ (λ e. off k _ (none a b c) refl refl refl) (λ _.
      either (Keeps byte k) (byte == 0xed) _ _ (λ e. off k _ (none a b c) refl refl refl) (λ _.
      either (Keeps byte k) (byte == 0xee) _ _ (λ e. off k _ (none a b c) refl refl refl) (λ _.
      either (Keeps byte k) (nat_le 0xef byte) _ _ (λ e. off k _ (none a b c) refl refl refl) (λ _.
      off k _ (none a b c) refl refl refl)))))))))

  parameter_keeps : (k with_it : Keyboard) → with_it.queue ≡ k.queue → with_it.aa_due ≡ k.aa_due
      → Keeps byte k (parameter keys byte with_it k)
  parameter_keeps k with_it q a =
      either (Keeps byte k) (nat_lt byte 0x80) _ _ (λ h. off k _ (low (grind (arith, nat_tests, h))) q a refl) (λ _.
      either (Keeps byte k) (nat_lt byte 0xed) _ _ (λ h. off k _ (low h) refl refl refl) (λ _.
      let c = command_keeps (record k { mode = Ready }) in
      record { queue = c.queue; aa_due = c.aa_due; reply = c.reply }))

  obeyed_keeps : (m : Mode) (k : Keyboard) → Keeps byte k (obeyed_in m keys byte k)
  obeyed_keeps Ready k = command_keeps k
  obeyed_keeps WantRate k = parameter_keeps k (record k { rate = byte }) refl refl
  obeyed_keeps WantLights k = parameter_keeps k (record k { lights = byte % 8 }) refl refl

-- a byte of the host gets a reply, and leaves AA, and the queue but for the commands that clear it
pub got_leaves : (keys : Keys) (byte : ℕ) (good : Bool) (k : Keyboard) → GotKeeps keys byte good k
got_leaves keys byte true k =
    let h = obeyed_keeps keys byte k.mode k in
    record { queue = h.queue; aa_due = h.aa_due; reply = h.reply }
got_leaves keys byte false k = record { queue = refl; aa_due = refl; reply = refl }
