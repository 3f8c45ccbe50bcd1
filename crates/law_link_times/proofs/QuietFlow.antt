-- With a quiet host there is no reply and no reset, and one byte passes a tick.
use Rattle.std.proofs.Common.{◌≡◌, ℕ, suc, zero, ◌+◌, ◌-◌, ◌≤◌, ◌<◌, inr, Bool, true, false, ◌==◌, Some, None, refl, ap, ◌∙◌, subst, arith}
use Rattle.std.specs.Prelude.{if◌then◌else◌, slice_get}
use Rattle.std.specs.declared.option.Option.{Option}
use Rattle.board_terms.specs.Cadence.{KeepsCadenceTo}
use Rattle.model_controller.specs.declared.meeting.Meeting.{Meeting}
use Rattle.model_controller.specs.declared.meeting.Meeting.TheVariants.{Got, Inhibited, Idle, Sent, Cut}
use Rattle.model_keyboard.specs.Codes.{keys_of}
use Rattle.model_keyboard.specs.Keyboard.{Keyboard, offer}
use Rattle.model_keyboard.specs.Once.{is_reset_due, waiting}
use Rattle.model_keyboard.specs.Tick.{met}
use Rattle.key_file.specs.Histories.{KeyHistory}
use Rattle.layout_reader.specs.Layouts.{KeyLayout}
use Rattle.model_link.specs.Machine.{met_as}
use Rattle.law_quiet_log.specs.Once.{at_tick, meeting_at}
use Rattle.law_quiet_log.proofs.Calm.{calm_meeting}
use Rattle.law_link_times.specs.Coming.{keyboard_at, test_left}
use Rattle.law_link_times.specs.Flowing.{IsHostQuiet, IsQuietFrom}
use Rattle.law_link_times.proofs.Flowing.{one_byte, reply_after, sent_reply}
use Rattle.law_link_times.proofs.Resting.{Rests, meets_at, quiet_from_start, quiet_on, rests_at, rests_there, sends_at}
use Rattle.law_link_times.proofs.Shadow.{AreQuietFrom}
use Rattle.law_link_times.proofs.Twice.{comes_exactly}

-- a test that has ended stays so, where no reset is due
stays_over : (m : Meeting) (k : Keyboard) → k.test ≡ 0 → is_reset_due k.reply ≡ false → test_left m k ≡ 0
stays_over (Got byte) k t r = omega (arith, t)
stays_over Inhibited k t r = omega (arith, t)
stays_over Idle k t r = omega (arith, t)
stays_over (Sent byte) k t r =
    let z : k.test - 1 ≡ 0 = omega (arith, t) in ap (λ c. if c then 64 else k.test - 1) r ∙ z
stays_over Cut k t r = omega (arith, t)

module _ (layout : KeyLayout) (history : KeyHistory) (starts : ℕ → ℕ) (last first : ℕ)
    (quiet : IsQuietFrom layout history starts first) (cadence : KeepsCadenceTo starts last) where
  abbrev d : ℕ
  d = (at_tick layout history starts first).side.done

  on : AreQuietFrom d history.host
  on = quiet_on history.host d quiet.acts

  -- with a quiet host the link is at rest at each tick start
  pub rests_in : (n : ℕ) → first ≤ n → n ≤ last → Rests d (at_tick layout history starts n).side
  rests_in =
      rests_at layout history d on starts last first cadence
      (rests_there (at_tick layout history starts first).side quiet.rests)

  meets_in : (n : ℕ) → first ≤ n → n ≤ last → meeting_at layout history starts n
      ≡ calm_meeting ((keyboard_at layout history starts n).test == 0) (offer (keyboard_at layout history starts n))
  meets_in =
      meets_at layout history d on starts last first cadence
      (rests_there (at_tick layout history starts first).side quiet.rests)

  -- with a quiet host each tick after the self-test sends what is offered
  pub sends_in : (n byte : ℕ) → first ≤ n → n ≤ last
      → (keyboard_at layout history starts n).test ≡ 0 → offer (keyboard_at layout history starts n) ≡ Some byte
      → meeting_at layout history starts n ≡ Sent byte
  sends_in =
      sends_at layout history d on starts last first cadence
      (rests_there (at_tick layout history starts first).side quiet.rests)

  -- no reply waits
  none_on : (count : ℕ) → count + first ≤ last → (keyboard_at layout history starts (count + first)).reply ≡ None
  none_on zero l =
      let z : first ≡ zero + first = omega arith in
      subst (λ k. (keyboard_at layout history starts k).reply ≡ None) z quiet.replied
  none_on (suc count) l =
      let n : ℕ = count + first in
      let z : suc n ≡ suc count + first = omega arith in
      let k : Keyboard = keyboard_at layout history starts n in
      let m : Meeting = calm_meeting (k.test == 0) (offer k) in
      subst (λ k. (keyboard_at layout history starts k).reply ≡ None) z
      (reply_after layout history starts n m (meets_in n (omega arith) (omega (arith, l)))
      ∙ by k (none_on count (omega (arith, l))) (k.test == 0) (offer k) refl)
    where
      by : (k : Keyboard) → k.reply ≡ None → (t : Bool) (o : Option ℕ) → offer k ≡ o
          → (met (met_as (calm_meeting t o)) (keys_of layout) k).reply ≡ None
      by k r true None e = r
      by k r true (Some byte) e = sent_reply (keys_of layout) k byte e
      by k r false o e = r

  no_reply : (n : ℕ) → first ≤ n → n ≤ last → (keyboard_at layout history starts n).reply ≡ None
  no_reply n f l =
      let z : n - first + first ≡ n = omega (arith, f) in
      subst (λ k. (keyboard_at layout history starts k).reply ≡ None) z (none_on (n - first) (omega (arith, l, z)))

  -- and a test that has ended stays so
  tested_on : (n count : ℕ) → first ≤ n → count + n ≤ last → (keyboard_at layout history starts n).test ≡ 0
      → (keyboard_at layout history starts (count + n)).test ≡ 0
  tested_on n zero f l t =
      let z : n ≡ zero + n = omega arith in
      subst (λ v. (keyboard_at layout history starts v).test ≡ 0) z t
  tested_on n (suc count) f l t =
      let z : suc (count + n) ≡ suc count + n = omega arith in
      let h : (keyboard_at layout history starts (count + n)).test ≡ 0 = tested_on n count f (omega (arith, l)) t in
      let r : is_reset_due (keyboard_at layout history starts (count + n)).reply ≡ false =
      ap (λ v. is_reset_due v) (no_reply (count + n) (omega (arith, f)) (omega (arith, l))) in
      subst (λ v. (keyboard_at layout history starts v).test ≡ 0) z
      ((comes_exactly layout history starts (count + n)).test
      ∙ stays_over (meeting_at layout history starts (count + n)) (keyboard_at layout history starts (count + n)) h r)

  -- with a quiet host the byte that waits as number i after the self-test is sent i ticks later
  pub byte_a_tick : (n i byte : ℕ) → first ≤ n → i + n ≤ last → (keyboard_at layout history starts n).test ≡ 0
      → slice_get (waiting (keyboard_at layout history starts n)) i ≡ Some byte
      → meeting_at layout history starts (i + n) ≡ Sent byte
  byte_a_tick n i byte f l t e =
      one_byte layout history starts i n byte
      (λ j a b o g.
      let z : j - n + n ≡ j = omega (arith, a) in
      let u : (keyboard_at layout history starts j).test ≡ 0 =
      subst (λ v. (keyboard_at layout history starts v).test ≡ 0) z
      (tested_on n (j - n) f (omega (arith, a, b, l)) t) in
      sends_in j o (omega (arith, f, a)) (omega (arith, b, l)) u g)
      (inr (ap (λ v. is_reset_due v) (no_reply n f (omega (arith, l)))))
      e

-- with a quiet host each byte that is offered after the self-test is sent in its tick
pub quiet_sends : (layout : KeyLayout) (history : KeyHistory) (starts : ℕ → ℕ) (last n : ℕ) → IsHostQuiet history
    → KeepsCadenceTo starts last → n < last → (keyboard_at layout history starts n).test ≡ 0
    → (byte : ℕ) → offer (keyboard_at layout history starts n) ≡ Some byte
    → meeting_at layout history starts n ≡ Sent byte
quiet_sends layout history starts last n quiet cadence l t byte o =
    sends_in layout history starts last 0 (quiet_from_start layout history starts quiet) cadence n byte (omega arith)
    (omega (arith, l)) t o

-- from the tick on from which the host is quiet each byte that is offered after the self-test is sent in its tick
pub quiet_sends_from : (layout : KeyLayout) (history : KeyHistory) (starts : ℕ → ℕ) (first last n : ℕ)
    → IsQuietFrom layout history starts first → KeepsCadenceTo starts last → first ≤ n → n < last
    → (keyboard_at layout history starts n).test ≡ 0
    → (byte : ℕ) → offer (keyboard_at layout history starts n) ≡ Some byte
    → meeting_at layout history starts n ≡ Sent byte
quiet_sends_from layout history starts first last n quiet cadence f l t byte o =
    sends_in layout history starts last first quiet cadence n byte f (omega (arith, l)) t o

-- with a quiet host the byte that waits as number i after the self-test is sent i ticks later
pub quiet_byte_a_tick : (layout : KeyLayout) (history : KeyHistory) (starts : ℕ → ℕ) (last n i byte : ℕ)
    → IsHostQuiet history → KeepsCadenceTo starts last → i + n < last
    → (keyboard_at layout history starts n).test ≡ 0
    → slice_get (waiting (keyboard_at layout history starts n)) i ≡ Some byte
    → meeting_at layout history starts (i + n) ≡ Sent byte
quiet_byte_a_tick layout history starts last n i byte quiet cadence l t e =
    byte_a_tick layout history starts last 0 (quiet_from_start layout history starts quiet) cadence n i byte
    (omega arith) (omega (arith, l)) t e
