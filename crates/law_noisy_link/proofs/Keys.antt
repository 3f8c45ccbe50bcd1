-- What the keyboard sends after FE: the last byte that it sent.
use Rattle.std.proofs.Common.{◌≡◌, ℕ, suc, ◌-◌, ◌==◌, Bool, true, false, not, List, [], ◌∷◌, Some, None, refl, ap, ◌∙◌, arith}
use Rattle.std.specs.Prelude.{if◌then◌else◌}
use Rattle.std.specs.declared.option.Option.{Option}
use Rattle.std.proofs.lemmas.Bool.Decides.{nat_tests}
use Rattle.model_keyboard.specs.declared.edge.TickEdge.{TickEdge}
use Rattle.model_keyboard.specs.declared.meeting.Meeting.{Meeting as KeyboardMeeting}
use Rattle.model_keyboard.specs.declared.meeting.Meeting.TheVariants as kbd
use Rattle.model_keyboard.specs.declared.state.Mode.{Mode}
use Rattle.model_keyboard.specs.declared.state.Mode.TheVariants.{Ready, WantRate, WantLights}
use Rattle.model_keyboard.specs.declared.state.Repeat.{Repeat}
use Rattle.model_keyboard.specs.declared.state.Reply.{Reply}
use Rattle.model_keyboard.specs.Codes.{Keys}
use Rattle.model_keyboard.specs.Keyboard.{Keyboard, offered, offer}
use Rattle.model_keyboard.specs.Once.{is_reset_due}
use Rattle.model_keyboard.specs.Commands.{obeyed_in}
use Rattle.model_keyboard.specs.Tick.{reset, met, without_offered, sent_byte, tested_if, is_scanning, repeated}
use Rattle.model_keyboard.specs.Tick.{repeated_if, edge_if, edges_if, is_inhibited, scanned, ticked}
use Rattle.law_noisy_link.specs.Noise.{pause, asked_for}

-- what is kept besides what scans
pub record Keeps (before after : Keyboard) : Type 0 where
  pub test : after.test ≡ before.test
  pub last : after.last ≡ before.last
  pub reply : after.reply ≡ before.reply

both_keep : (a b c : Keyboard) → Keeps a b → Keeps b c → Keeps a c
both_keep a b c f g = record { test = g.test ∙ f.test; last = g.last ∙ f.last; reply = g.reply ∙ f.reply }

repeats_keep : (scanning : Bool) (keys : Keys) (inhibited : Bool) (k : Keyboard) → Keeps k (repeated_if scanning keys inhibited k)
repeats_keep true keys inhibited k = by k.repeats
  where
    by : (r : Option Repeat) → Keeps k (repeated r keys inhibited k)
    by None = record { test = refl; last = refl; reply = refl }
    by (Some r) = record { test = refl; last = refl; reply = refl }
repeats_keep false keys inhibited k = record { test = refl; last = refl; reply = refl }

edge_keeps : (scanning : Bool) (keys : Keys) (place : ℕ) (down on_fn : Bool) (k : Keyboard)
    → Keeps k (edge_if scanning keys place down on_fn k)
edge_keeps true keys place true on_fn k = record { test = refl; last = refl; reply = refl }
edge_keeps true keys place false on_fn k = record { test = refl; last = refl; reply = refl }
edge_keeps false keys place down on_fn k = record { test = refl; last = refl; reply = refl }

edges_keep : (scanning : Bool) (keys : Keys) (edges : List TickEdge) (k : Keyboard) → Keeps k (edges_if scanning keys edges k)
edges_keep scanning keys [] k = record { test = refl; last = refl; reply = refl }
edges_keep scanning keys (e ∷ es) k =
    let next : Keyboard = edge_if scanning keys e.place e.down e.on_fn k in
    both_keep k next (edges_if scanning keys es next) (edge_keeps scanning keys e.place e.down e.on_fn k) (edges_keep scanning keys es next)

scans_keep : (keys : Keys) (inhibited : Bool) (edges : List TickEdge) (k : Keyboard) → Keeps k (scanned keys inhibited edges k)
scans_keep keys inhibited edges k =
    let a : Keyboard = repeated_if (is_scanning k) keys inhibited k in
    both_keep k a (edges_if (is_scanning k) keys edges a) (repeats_keep (is_scanning k) keys inhibited k)
    (edges_keep (is_scanning k) keys edges a)

-- a tick in which the test had ended
ended_keeps : (keys : Keys) (meeting : KeyboardMeeting) (edges : List TickEdge) (k : Keyboard)
    → k.test ≡ 0 → Keeps (met meeting keys k) (ticked keys meeting edges k)
ended_keeps keys meeting edges k e =
    let a : Keyboard = met meeting keys k in
    let z : ticked keys meeting edges k ≡ scanned keys (is_inhibited meeting) edges a =
    ap (λ v. scanned keys (is_inhibited meeting) edges (tested_if (not (v == 0)) a)) e in
    let r : Keeps a (scanned keys (is_inhibited meeting) edges a) = scans_keep keys (is_inhibited meeting) edges a in
    record {
      test = ap (λ (v : Keyboard). v.test) z ∙ r.test;
      last = ap (λ (v : Keyboard). v.last) z ∙ r.last;
      reply = ap (λ (v : Keyboard). v.reply) z ∙ r.reply;
    }

-- the last byte sent, and the ticks of the test that are left
pub record IsLastSent (left byte : ℕ) (k : Keyboard) : Type 0 where
  pub test : k.test ≡ left
  pub last : k.last ≡ byte

-- once a byte is sent
sent_by : (reply : Option Reply) (keys : Keys) (byte : ℕ) (k : Keyboard) → k.reply ≡ reply → k.test ≡ 0
    → IsLastSent (if is_reset_due reply then 64 else 0) (if is_reset_due reply then 0xaa else if byte == 0xfe then k.last else byte)
    (without_offered reply keys (record k { last = if byte == 0xfe then k.last else byte }))
sent_by None keys byte k r e = record { test = e; last = refl }
sent_by (Some reply) keys byte k r e = by reply.resets
  where
    by : (resets : Bool) → IsLastSent (if resets then 64 else 0) (if resets then 0xaa else if byte == 0xfe then k.last else byte)
        (if resets then reset keys (record k { last = if byte == 0xfe then k.last else byte })
        else record k { last = if byte == 0xfe then k.last else byte; reply = None })
    by true = record { test = refl; last = refl }
    by false = record { test = e; last = refl }

-- after a byte is sent it is the one that the keyboard sends again if it is asked for it
pub last_sent : (keys : Keys) (edges : List TickEdge) (byte : ℕ) (k : Keyboard)
    → k.test ≡ 0 → offer k ≡ Some byte → IsLastSent (pause k) (asked_for byte k) (ticked keys kbd.Sent edges k)
last_sent keys edges byte k e o =
    let m : met kbd.Sent keys k ≡ without_offered k.reply keys (record k { last = if byte == 0xfe then k.last else byte }) =
    ap (λ v. sent_byte v keys k) o in
    let s = sent_by k.reply keys byte k refl e in
    let r = ended_keeps keys kbd.Sent edges k e in
    record {
      test = r.test ∙ ap (λ (v : Keyboard). v.test) m ∙ s.test;
      last = r.last ∙ ap (λ (v : Keyboard). v.last) m ∙ s.last;
    }

-- while the test runs
pub test_runs : (keys : Keys) (edges : List TickEdge) (left byte : ℕ) (k : Keyboard)
    → IsLastSent (suc left) byte k → IsLastSent left byte (ticked keys kbd.Idle edges k)
test_runs keys edges left byte k h =
    let a : Keyboard = tested_if true k in
    let less : k.test - 1 ≡ left = omega (arith, h.test) in
    let runs : (suc left == 0) ≡ false = grind (arith, nat_tests) in
    let z : ticked keys kbd.Idle edges k ≡ scanned keys false edges a =
    ap (λ v. scanned keys false edges (tested_if (not (v == 0)) k)) h.test
    ∙ ap (λ b. scanned keys false edges (tested_if (not b) k)) runs in
    let r : Keeps a (scanned keys false edges a) = scans_keep keys false edges a in
    record {
      test = ap (λ (v : Keyboard). v.test) z ∙ r.test ∙ less;
      last = ap (λ (v : Keyboard). v.last) z ∙ r.last ∙ h.last;
    }

-- FE is replied to with it
pub record Replies (byte : ℕ) (k : Keyboard) : Type 0 where
  pub test : k.test ≡ 0
  pub offers : offer k ≡ Some byte

resent : (mode : Mode) (keys : Keys) (k : Keyboard) → (obeyed_in mode keys 0xfe k).reply ≡ Some (record { byte = k.last; resets = false })
resent Ready keys k = refl
resent WantRate keys k = refl
resent WantLights keys k = refl

untested : (mode : Mode) (keys : Keys) (k : Keyboard) → (obeyed_in mode keys 0xfe k).test ≡ k.test
untested Ready keys k = refl
untested WantRate keys k = refl
untested WantLights keys k = refl

-- after FE (hexadecimal) the keyboard offers the last byte that it sent
pub resends : (keys : Keys) (edges : List TickEdge) (byte : ℕ) (k : Keyboard)
    → IsLastSent 0 byte k → Replies byte (ticked keys (kbd.Got 0xfe true) edges k)
resends keys edges byte k h =
    let r = ended_keeps keys (kbd.Got 0xfe true) edges k h.test in
    let after : Keyboard = ticked keys (kbd.Got 0xfe true) edges k in
    let reply : after.reply ≡ Some (record { byte = k.last; resets = false }) = r.reply ∙ resent k.mode keys k in
    record {
      test = r.test ∙ untested k.mode keys k ∙ h.test;
      offers = ap (λ v. offered v after.aa_due after.queue) reply ∙ ap (λ v. Some v) h.last;
    }
