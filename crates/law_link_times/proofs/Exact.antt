-- A tick, whatever its meeting: what waits after it, exactly.
use Rattle.std.proofs.lemmas.Bool.Decides.{nat_tests}
use Rattle.std.proofs.Common.{arith, ◌≡◌, ℕ, ◌-◌, ◌⊎◌, inl, inr, List, [], ◌++◌, drop, Bool, true}
use Rattle.std.proofs.Common.{false, not, ◌&&◌, ◌==◌, Some, None, refl, ap, sym, ◌∙◌}
use Rattle.std.specs.Prelude.{if◌then◌else◌}
use Rattle.std.specs.declared.option.Option.{Option}
use Rattle.model_controller.specs.declared.meeting.Meeting.{Meeting}
use Rattle.model_controller.specs.declared.meeting.Meeting.TheVariants.{Got, Inhibited, Idle, Sent, Cut}
use Rattle.model_keyboard.specs.declared.edge.TickEdge.{TickEdge}
use Rattle.model_keyboard.specs.declared.meeting.Meeting.TheVariants as kbd
use Rattle.model_keyboard.specs.declared.state.Repeat.{Repeat}
use Rattle.model_keyboard.specs.Codes.{Keys}
use Rattle.model_keyboard.specs.Keyboard.{Keyboard, offer}
use Rattle.model_keyboard.specs.Once.{byte_if, is_reset_due, queued, reply_bytes, waiting, GotKeeps}
use Rattle.model_keyboard.specs.Queue.{clear}
use Rattle.model_keyboard.specs.Tick.{met, tested_if, is_scanning, scanned, ticked, is_inhibited, without_offered, sent_byte}
use Rattle.model_keyboard.proofs.Once.{got_leaves, sent_leaves, reset_leaves}
use Rattle.model_link.specs.Machine.{met_as}
use Rattle.law_quiet_log.specs.Once.{left, put_before, IsSilentInTest}
use Rattle.law_link_times.specs.Coming.{codes_of, comes_first, repeat_code, repeats_still, repeats_then}
use Rattle.law_link_times.specs.Coming.{tick_codes, queue_left, added, test_left, waits_less}
use Rattle.law_link_times.proofs.Entering.{entered, queue_adds, scans_enter}
use Rattle.law_link_times.proofs.Going.{waits_more, gone_queue, gone_repeats, gone_test, aa_first, aa_new}
use Rattle.law_link_times.proofs.Going.{tested_queue, tested_repeats, tested_reply, tested_aa, tested_test}
use Rattle.law_link_times.proofs.Repeating.{scans_rate, scans_repeat}
use Rattle.law_link_times.proofs.Answering.{Answers, answers}

-- which key repeats then
abbrev pub repeats_after : Keys → List TickEdge → Meeting → Keyboard → Keyboard → Option Repeat
repeats_after keys edges meeting k after =
    if is_scanning after
    then repeats_then keys after.rate edges (waits_less after.rate (repeats_still meeting k))
    else None

-- what a tick comes to
pub record Comes (keys : Keys) (edges : List TickEdge) (meeting : Meeting) (k after : Keyboard) : Type 0 where
  pub first : put_before meeting k after ≡ comes_first meeting k
  pub waits : waiting after ≡ comes_first meeting k
      ++ (left meeting k ++ added (tick_codes keys meeting edges k (is_scanning after)) (queue_left meeting k))
  pub test : after.test ≡ test_left meeting k
  pub queue : after.queue
      ≡ entered (tick_codes keys meeting edges k (is_scanning after)) (queue_left meeting k)
  pub repeats : after.repeats ≡ repeats_after keys edges meeting k after

-- the meeting: the queue after it, the key that repeats, and the test
record Meets (keys : Keys) (meeting : Meeting) (k : Keyboard) : Type 0 where
  queue : (met (met_as meeting) keys k).queue ≡ queue_left meeting k
  repeats : (met (met_as meeting) keys k).repeats ≡ repeats_still meeting k

-- after its meeting a tick does this, where the test had ended
record Afterwards (keys : Keys) (edges : List TickEdge) (meeting : Meeting) (k after : Keyboard) : Type 0 where
  waits : waiting after ≡ waiting (met (met_as meeting) keys k)
      ++ added (tick_codes keys meeting edges k (is_scanning after)) (queue_left meeting k)
  reply : after.reply ≡ (met (met_as meeting) keys k).reply
  aa_due : after.aa_due ≡ (met (met_as meeting) keys k).aa_due
  test : after.test ≡ (met (met_as meeting) keys k).test
  queue : after.queue
      ≡ entered (tick_codes keys meeting edges k (is_scanning after)) (queue_left meeting k)
  repeats : after.repeats ≡ repeats_after keys edges meeting k after

module _ (keys : Keys) (edges : List TickEdge) (k : Keyboard) where
  abbrev after : Meeting → Keyboard
  after meeting = ticked keys (met_as meeting) edges k

  -- what the codes of the tick add, by the state after step 3
  codes_are : (meeting : Meeting) (b : Keyboard) → b.repeats ≡ repeats_still meeting k
      → is_scanning (after meeting) ≡ is_scanning b
      → tick_codes keys meeting edges k (is_scanning (after meeting))
      ≡ (if is_scanning b
      then repeat_code keys (is_inhibited (met_as meeting)) b.repeats
      ++ codes_of keys edges
      else [])
  codes_are meeting b r s =
      ap (λ c. tick_codes keys meeting edges k c) s
      ∙ ap (λ v. if is_scanning b
      then repeat_code keys (is_inhibited (met_as meeting)) v
      ++ codes_of keys edges
      else []) (sym r)

  -- steps 4 and 5 from a state after step 3, whose queue and repeat are known
  queue_then : (meeting : Meeting) (b : Keyboard) → b.queue ≡ queue_left meeting k → b.repeats ≡ repeats_still meeting k
      → after meeting ≡ scanned keys (is_inhibited (met_as meeting)) edges b
      → (queued (after meeting).queue
      ≡ queued (queue_left meeting k)
      ++ added (tick_codes keys meeting edges k (is_scanning (after meeting))) (queue_left meeting k))
      × ((after meeting).reply ≡ b.reply) × ((after meeting).aa_due ≡ b.aa_due) × ((after meeting).test ≡ b.test)
      × ((after meeting).queue
      ≡ entered (tick_codes keys meeting edges k (is_scanning (after meeting))) (queue_left meeting k))
      × ((after meeting).repeats ≡ repeats_after keys edges meeting k (after meeting))
  queue_then meeting b q r e =
      let inhibited : Bool = is_inhibited (met_as meeting) in
      let s = scans_enter (is_scanning b) keys inhibited edges b in
      let on : is_scanning (after meeting) ≡ is_scanning b = ap (λ v. is_scanning v) e ∙ s.scanning in
      let c = codes_are meeting b r on in
      let rate : (after meeting).rate ≡ b.rate =
      ap (λ (v : Keyboard). v.rate) e ∙ scans_rate (is_scanning b) keys inhibited edges b in (
        ap (λ (v : Keyboard). queued v.queue) e
            ∙ ap (λ v. queued v) s.queue
            ∙ queue_adds (if is_scanning b
            then repeat_code keys inhibited b.repeats
            ++ codes_of keys edges
            else []) b.queue
            ∙ ap (λ v. queued b.queue ++ added v b.queue) (sym c)
            ∙ ap (λ v. queued v ++ added (tick_codes keys meeting edges k (is_scanning (after meeting))) v) q,
        ap (λ (v : Keyboard). v.reply) e ∙ s.reply,
        ap (λ (v : Keyboard). v.aa_due) e ∙ s.aa_due,
        ap (λ (v : Keyboard). v.test) e ∙ s.test,
        ap (λ (v : Keyboard). v.queue) e ∙ s.queue ∙ ap (λ v. entered v b.queue) (sym c)
            ∙ ap (λ v. entered (tick_codes keys meeting edges k (is_scanning (after meeting))) v) q,
        ap (λ (v : Keyboard). v.repeats) e ∙ scans_repeat (is_scanning b) keys inhibited edges b
            ∙ ap (λ c. if c then repeats_then keys b.rate edges (waits_less b.rate b.repeats) else None) (sym on)
            ∙ ap (λ v. if is_scanning (after meeting) then repeats_then keys v edges (waits_less v b.repeats) else None)
            (sym rate)
            ∙ ap (λ v. if is_scanning (after meeting)
            then repeats_then keys (after meeting).rate edges (waits_less (after meeting).rate v)
            else None) r,
      )

  -- where the test had ended, step 3 does nothing
  afterwards : (meeting : Meeting) → k.test ≡ 0 → Meets keys meeting k → Afterwards keys edges meeting k (after meeting)
  afterwards meeting t m =
      let a : Keyboard = met (met_as meeting) keys k in
      let z : tested_if (not (k.test == 0)) a ≡ a = ap (λ v. tested_if (not (v == 0)) a) t in
      let e : after meeting ≡ scanned keys (is_inhibited (met_as meeting)) edges a =
      ap (λ v. scanned keys (is_inhibited (met_as meeting)) edges v) z in
      let h = queue_then meeting a m.queue m.repeats e in
      let more : List ℕ =
      added (tick_codes keys meeting edges k (is_scanning (after meeting))) (queue_left meeting k) in
      record {
        waits = ap (λ v. reply_bytes v ++ (byte_if (after meeting).aa_due 0xaa ++ queued (after meeting).queue)) h.1
            ∙ ap (λ v. reply_bytes a.reply ++ (byte_if v 0xaa ++ queued (after meeting).queue)) h.2
            ∙ ap (λ v. reply_bytes a.reply ++ (byte_if a.aa_due 0xaa ++ v)) h.0
            ∙ ap (λ v. reply_bytes a.reply ++ (byte_if a.aa_due 0xaa ++ (queued v ++ more))) (sym m.queue)
            ∙ waits_more (reply_bytes a.reply) (byte_if a.aa_due 0xaa) (queued a.queue) more;
        reply = h.1;
        aa_due = h.2;
        test = h.3;
        queue = h.4;
        repeats = h.5;
      }

  -- nothing passes, and the test had ended
  unchanged : (meeting : Meeting) → k.test ≡ 0 → met (met_as meeting) keys k ≡ k → queue_left meeting k ≡ k.queue
      → repeats_still meeting k ≡ k.repeats → Afterwards keys edges meeting k (after meeting)
  unchanged meeting t e q r =
      afterwards meeting t
      (record {
        queue = ap (λ (v : Keyboard). v.queue) e ∙ sym q;
        repeats = ap (λ (v : Keyboard). v.repeats) e ∙ sym r;
      })

  one_fewer : (n : ℕ) → n ≡ 0 → n ≡ n - 1
  one_fewer n e = omega (arith, e)

  inhibited : k.test ≡ 0 → Comes keys edges Inhibited k (after Inhibited)
  inhibited t =
      let h = unchanged Inhibited t refl refl refl in
      record { first = refl; waits = h.waits; test = h.test ∙ one_fewer k.test t; queue = h.queue; repeats = h.repeats }

  cut : k.test ≡ 0 → Comes keys edges Cut k (after Cut)
  cut t =
      let h = unchanged Cut t refl refl refl in
      record { first = refl; waits = h.waits; test = h.test ∙ one_fewer k.test t; queue = h.queue; repeats = h.repeats }

  -- a byte from the system
  gets : (byte : ℕ) → k.test ≡ 0 → Comes keys edges (Got byte) k (after (Got byte))
  gets byte t =
      let a : Keyboard = met (kbd.Got byte true) keys k in
      let g : GotKeeps keys byte true k = got_leaves keys byte true k in
      let n : Answers k.mode byte k a = answers keys byte k.mode k in
      let h = afterwards (Got byte) t (record { queue = g.queue; repeats = n.repeats }) in
      let more : List ℕ =
      added (tick_codes keys (Got byte) edges k (is_scanning (after (Got byte)))) (queue_left (Got byte) k) in
      record {
        first = ap (λ v. reply_bytes v) h.reply ∙ n.reply;
        waits = h.waits
            ∙ ap (λ v. (v ++ (byte_if a.aa_due 0xaa ++ queued a.queue)) ++ more) n.reply
            ∙ ap (λ v. (comes_first (Got byte) k ++ (byte_if v 0xaa ++ queued a.queue)) ++ more) g.aa_due
            ∙ ap (λ v. (comes_first (Got byte) k ++ (byte_if k.aa_due 0xaa ++ queued v)) ++ more) g.queue;
        test = h.test ∙ n.test ∙ one_fewer k.test t;
        queue = h.queue;
        repeats = h.repeats;
      }

  -- the byte that was offered is sent
  sends : (byte : ℕ) → k.test ≡ 0 → offer k ≡ Some byte → Comes keys edges (Sent byte) k (after (Sent byte))
  sends byte t o =
      let k' : Keyboard = record k { last = if byte == 0xfe then k.last else byte } in
      let s : met kbd.Sent keys k ≡ without_offered k.reply keys k' = ap (λ v. sent_byte v keys k) o in
      let h =
      afterwards (Sent byte) t
      (record {
        queue = ap (λ (v : Keyboard). v.queue) s ∙ gone_queue k.reply k.aa_due keys k' refl refl;
        repeats = ap (λ (v : Keyboard). v.repeats) s ∙ gone_repeats k.reply keys k';
      }) in
      let more : List ℕ =
      added (tick_codes keys (Sent byte) edges k (is_scanning (after (Sent byte)))) (queue_left (Sent byte) k) in
      let test : (after (Sent byte)).test ≡ (if is_reset_due k.reply then 64 else k.test - 1) =
      h.test ∙ ap (λ (v : Keyboard). v.test) s ∙ gone_test k.reply keys k'
      ∙ ap (λ v. if is_reset_due k.reply then 64 else v) (one_fewer k.test t) in
      record {
        first = refl;
        waits = h.waits ∙ ap (λ v. v ++ more) (left_by (is_reset_due k.reply) refl);
        test = test;
        queue = h.queue;
        repeats = h.repeats;
      }
    where
      left_by : (c : Bool) → is_reset_due k.reply ≡ c
          → waiting (met kbd.Sent keys k) ≡ (if is_reset_due k.reply then queued (clear k.queue) else drop 1 (waiting k))
      left_by true e =
          reset_leaves keys k e ∙ ap (λ c. if c then queued (clear k.queue) else drop 1 (waiting k)) (sym e)
      left_by false e =
          ap (λ v. drop 1 v) (sym (sent_leaves keys k byte o e))
          ∙ ap (λ c. if c then queued (clear k.queue) else drop 1 (waiting k)) (sym e)

  -- nothing passes, whether the test runs or not
  idles : IsSilentInTest k → Comes keys edges Idle k (after Idle)
  idles silent =
      let b : Keyboard = tested_if (not (k.test == 0)) k in
      let h =
      queue_then Idle b (tested_queue (not (k.test == 0)) k) (tested_repeats (not (k.test == 0)) k) refl in
      let more : List ℕ = added (tick_codes keys Idle edges k (is_scanning (after Idle))) k.queue in
      let aa : (after Idle).aa_due ≡ (if k.test == 1 then true else k.aa_due) = h.2 ∙ tested_aa k in
      let reply : (after Idle).reply ≡ k.reply = h.1 ∙ tested_reply (not (k.test == 0)) k in
      record {
        first = ap (λ v. byte_if (v && not k.aa_due) 0xaa) aa
            ∙ ap (λ v. byte_if v 0xaa) (aa_new (k.test == 1) k.aa_due);
        waits = ap (λ v. reply_bytes v ++ (byte_if (after Idle).aa_due 0xaa ++ queued (after Idle).queue)) reply
            ∙ ap (λ v. reply_bytes k.reply ++ (byte_if v 0xaa ++ queued (after Idle).queue)) aa
            ∙ ap (λ v. reply_bytes k.reply ++ (byte_if (if k.test == 1 then true else k.aa_due) 0xaa ++ v)) h.0
            ∙ hold_on more silent;
        test = h.3 ∙ tested_test k;
        queue = h.4;
        repeats = h.5;
      }
    where
      hold_on : (more : List ℕ) → IsSilentInTest k
          → reply_bytes k.reply ++ (byte_if (if k.test == 1 then true else k.aa_due) 0xaa ++ (queued k.queue ++ more))
          ≡ byte_if ((k.test == 1) && not k.aa_due) 0xaa ++ (waiting k ++ more)
      hold_on more (inl t) =
          let z : (k.test == 1) ≡ false = grind (arith, nat_tests, t) in
          ap (λ c. reply_bytes k.reply ++ (byte_if (if c then true else k.aa_due) 0xaa ++ (queued k.queue ++ more))) z
          ∙ waits_more (reply_bytes k.reply) (byte_if k.aa_due 0xaa) (queued k.queue) more
          ∙ ap (λ c. byte_if (c && not k.aa_due) 0xaa ++ (waiting k ++ more)) (sym z)
      hold_on more (inr r) =
          ap (λ v. reply_bytes v ++ (byte_if (if k.test == 1 then true else k.aa_due) 0xaa ++ (queued k.queue ++ more))) r
          ∙ aa_first (k.test == 1) k.aa_due (queued k.queue) more
          ∙ ap (λ v. byte_if ((k.test == 1) && not k.aa_due) 0xaa
          ++ ((reply_bytes v ++ (byte_if k.aa_due 0xaa ++ queued k.queue)) ++ more)) (sym r)

  -- whatever its meeting
  pub comes_by : IsSilentInTest k → (meeting : Meeting) → (k.test ≡ 0) ⊎ (meeting ≡ Idle)
      → ((byte : ℕ) → meeting ≡ Sent byte → offer k ≡ Some byte) → Comes keys edges meeting k (after meeting)
  comes_by silent (Got byte) (inl t) o = gets byte t
  comes_by silent (Got byte) (inr e) o = absurd cc
  comes_by silent Inhibited (inl t) o = inhibited t
  comes_by silent Inhibited (inr e) o = absurd cc
  comes_by silent Idle t o = idles silent
  comes_by silent (Sent byte) (inl t) o = sends byte t (o byte refl)
  comes_by silent (Sent byte) (inr e) o = absurd cc
  comes_by silent Cut (inl t) o = cut t
  comes_by silent Cut (inr e) o = absurd cc
