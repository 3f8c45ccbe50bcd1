-- One byte a tick, where each tick sends what is offered.
use Rattle.std.proofs.Common.{◌≡◌, ℕ, suc, zero, ◌+◌, ◌≤◌, ◌⊎◌, inl, inr, List, [], ◌∷◌, ◌++◌, drop, Bool}
use Rattle.std.proofs.Common.{true, false, ◌==◌, Some, None, refl, ap, sym, ◌∙◌, subst, arith}
use Rattle.std.specs.Prelude.{if◌then◌else◌, slice_get}
use Rattle.std.specs.declared.option.Option.{Option}
use Rattle.model_controller.specs.declared.meeting.Meeting.{Meeting}
use Rattle.model_controller.specs.declared.meeting.Meeting.TheVariants.{Sent}
use Rattle.model_keyboard.specs.declared.meeting.Meeting.TheVariants as kbd
use Rattle.model_keyboard.specs.declared.state.Reply.{Reply}
use Rattle.model_keyboard.specs.Codes.{Keys, keys_of}
use Rattle.model_keyboard.specs.Keyboard.{Keyboard, offer}
use Rattle.model_keyboard.specs.Once.{is_reset_due, queued, waiting}
use Rattle.model_keyboard.specs.Queue.{clear}
use Rattle.model_keyboard.specs.Tick.{met, reset, sent_byte, without_offered}
use Rattle.model_keyboard.proofs.Adds.{rest_adds}
use Rattle.model_keyboard.proofs.Once.{offers_first}
use Rattle.key_file.specs.Histories.{KeyHistory}
use Rattle.layout_reader.specs.Layouts.{KeyLayout}
use Rattle.model_link.specs.Machine.{met_as}
use Rattle.law_quiet_log.specs.Once.{left, meeting_at}
use Rattle.law_link_times.specs.Coming.{comes_first, keyboard_at, edges_at, after_at}
use Rattle.law_link_times.specs.Flowing.{Sends}
use Rattle.law_link_times.proofs.Twice.{comes_exactly}

-- what is in a list is there where more is after it
pub get_more : (xs more : List ℕ) (i x : ℕ) → slice_get xs i ≡ Some x → slice_get (xs ++ more) i ≡ Some x
get_more [] more i x e = absurd cc
get_more (y ∷ ys) more zero x e = e
get_more (y ∷ ys) more (suc i) x e = get_more ys more i x e

-- and a place further on where the first is gone
get_dropped : (xs more : List ℕ) (i x : ℕ) → slice_get xs (suc i) ≡ Some x → slice_get (drop 1 xs ++ more) i ≡ Some x
get_dropped [] more i x e = absurd cc
get_dropped (y ∷ ys) more i x e = get_more ys more i x e

-- where a byte is further on there is a first
first_byte : (xs : List ℕ) (i x : ℕ) → slice_get xs i ≡ Some x → (b : ℕ) × (slice_get xs 0 ≡ Some b)
first_byte [] i x e = absurd cc
first_byte (y ∷ ys) i x e = (y, refl)

-- once a byte is sent no reply waits
gone_reply : (r : Option Reply) (keys : Keys) (k : Keyboard) → k.reply ≡ r → (without_offered r keys k).reply ≡ None
gone_reply None keys k e = e
gone_reply (Some r) keys k e = by r.resets
  where
    by : (c : Bool) → (if c then reset keys k else record k { reply = None }).reply ≡ None
    by true = refl
    by false = refl

-- after a byte has gone no reply waits
pub sent_reply : (keys : Keys) (k : Keyboard) (byte : ℕ) → offer k ≡ Some byte → (met kbd.Sent keys k).reply ≡ None
sent_reply keys k byte o =
    ap (λ v. (sent_byte v keys k).reply) o
    ∙ gone_reply k.reply keys (record k { last = if byte == 0xfe then k.last else byte }) refl

module _ (layout : KeyLayout) (history : KeyHistory) (starts : ℕ → ℕ) where
  -- the reply that is after a tick with this meeting
  pub reply_after : (n : ℕ) (m : Meeting) → meeting_at layout history starts n ≡ m
      → (keyboard_at layout history starts (suc n)).reply
      ≡ (met (met_as m) (keys_of layout) (keyboard_at layout history starts n)).reply
  reply_after n m e =
      let k : Keyboard = keyboard_at layout history starts n in
      (rest_adds (keys_of layout) (met_as (meeting_at layout history starts n)) (edges_at layout history starts n) k).reply
      ∙ ap (λ v. (met (met_as v) (keys_of layout) k).reply) e

  -- what waits after a tick that sends a byte, and makes no reset
  waits_after : (n byte : ℕ) → meeting_at layout history starts n ≡ Sent byte
      → is_reset_due (keyboard_at layout history starts n).reply ≡ false
      → waiting (keyboard_at layout history starts (suc n))
      ≡ drop 1 (waiting (keyboard_at layout history starts n)) ++ after_at layout history starts n
  waits_after n byte m r =
      let k : Keyboard = keyboard_at layout history starts n in
      let more : List ℕ = after_at layout history starts n in
      (comes_exactly layout history starts n).waits
      ∙ ap (λ v. comes_first v k ++ (left v k ++ more)) m
      ∙ ap (λ c. (if c then queued (clear k.queue) else drop 1 (waiting k)) ++ more) r

  -- if each tick sends what is offered, and no reset's reply goes first, the byte that waits as number i goes i ticks
  -- later
  pub one_byte : (i n byte : ℕ) → ((j : ℕ) → n ≤ j → j ≤ i + n → Sends layout history starts j)
      → (i ≡ 0) ⊎ (is_reset_due (keyboard_at layout history starts n).reply ≡ false)
      → slice_get (waiting (keyboard_at layout history starts n)) i ≡ Some byte
      → meeting_at layout history starts (i + n) ≡ Sent byte
  one_byte zero n byte sends r e =
      let z : n ≡ zero + n = omega arith in
      ap (λ v. meeting_at layout history starts v) (sym z)
      ∙ sends n (omega arith) (omega arith) byte (offers_first (keyboard_at layout history starts n) ∙ e)
  one_byte (suc i) n byte sends (inl z) e = absurd (omega (arith, z))
  one_byte (suc i) n byte sends (inr r) e =
      let k : Keyboard = keyboard_at layout history starts n in
      let f = first_byte (waiting k) (suc i) byte e in
      let o : offer k ≡ Some f.0 = offers_first k ∙ f.1 in
      let m : meeting_at layout history starts n ≡ Sent f.0 = sends n (omega arith) (omega arith) f.0 o in
      let w = waits_after n f.0 m r in
      let none : (keyboard_at layout history starts (suc n)).reply ≡ None =
      reply_after n (Sent f.0) m ∙ sent_reply (keys_of layout) k f.0 o in
      let z : i + suc n ≡ suc i + n = omega arith in
      subst (λ v. meeting_at layout history starts v ≡ Sent byte) z
      (one_byte i (suc n) byte (λ j l u. sends j (omega (arith, l)) (omega (arith, u)))
      (inr (ap (λ v. is_reset_due v) none))
      (ap (λ v. slice_get v i) w ∙ get_dropped (waiting k) (after_at layout history starts n) i byte e))

-- if each tick sends what is offered, and no reset's reply goes first, the byte that waits as number i goes i ticks
-- later
pub one_byte_a_tick : (layout : KeyLayout) (history : KeyHistory) (starts : ℕ → ℕ) (n i byte : ℕ)
    → ((j : ℕ) → n ≤ j → j ≤ i + n → Sends layout history starts j)
    → (i ≡ 0) ⊎ (is_reset_due (keyboard_at layout history starts n).reply ≡ false)
    → slice_get (waiting (keyboard_at layout history starts n)) i ≡ Some byte
    → meeting_at layout history starts (i + n) ≡ Sent byte
one_byte_a_tick layout history starts n i byte sends r e = one_byte layout history starts i n byte sends r e
