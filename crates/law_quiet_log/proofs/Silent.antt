-- While the test runs no reply waits.
use Rattle.std.proofs.Common.{◌≡◌, ℕ, suc, zero, ◌+◌, ◌%◌, ◌==◌, Bool, true, false, not, ◌⊎◌}
use Rattle.std.proofs.Common.{inl, inr, List, [], ◌∷◌, Some, None, refl, ap, ◌∙◌}
use Rattle.std.specs.Prelude.{if◌then◌else◌, nat_lt, nat_le}
use Rattle.std.specs.declared.option.Option.{Option}
use Rattle.model_controller.specs.declared.meeting.Meeting.{Meeting}
use Rattle.model_controller.specs.declared.meeting.Meeting.TheVariants.{Got, Inhibited, Idle, Sent, Cut}
use Rattle.model_keyboard.specs.declared.edge.TickEdge.{TickEdge}
use Rattle.model_keyboard.specs.Layers.{layered}
use Rattle.model_keyboard.specs.declared.meeting.Meeting.{Meeting as KeyboardMeeting}
use Rattle.model_keyboard.specs.declared.meeting.Meeting.TheVariants as kbd
use Rattle.model_keyboard.specs.declared.state.Mode.{Mode}
use Rattle.model_keyboard.specs.declared.state.Mode.TheVariants.{Ready, WantRate, WantLights}
use Rattle.model_keyboard.specs.declared.state.Repeat.{Repeat}
use Rattle.model_keyboard.specs.declared.state.Reply.{Reply}
use Rattle.model_keyboard.specs.Codes.{Keys, keys_of}
use Rattle.model_keyboard.specs.Keyboard.{Keyboard, offer}
use Rattle.model_keyboard.specs.Commands.{commanded, parameter, obeyed_in}
use Rattle.model_keyboard.specs.Tick.{reset, met, without_offered, sent_byte, tested_if, is_scanning, repeated}
use Rattle.model_keyboard.specs.Tick.{repeated_if, edge_if, edges_if, is_inhibited, scanned, ticked}
use Rattle.model_keyboard.proofs.Adds.{rest_adds}
use Rattle.key_file.specs.Histories.{KeyHistory}
use Rattle.layout_reader.specs.Layouts.{KeyLayout, is_fn_place}
use Rattle.model_link.specs.Debounce.{taken}
use Rattle.model_link.specs.Machine.{LayeredKeyboard, met_as}
use Rattle.model_link.specs.TickEdges.{tick_edges}
use Rattle.model_link.specs.Expected.{Whole}
use Rattle.law_quiet_log.specs.Once.{IsSilentInTest, at_tick, meeting_at}
use Rattle.law_quiet_log.proofs.Once.{arrives_as_offered, tested_or_idle}

-- a choice leaves the test as it is where both ways do
either : (k : Keyboard) (t : Bool) (a b : Keyboard) → a.test ≡ k.test → b.test ≡ k.test
    → (if t then a else b).test ≡ k.test
either k true a b f g = f
either k false a b f g = g

module _ (keys : Keys) (byte : ℕ) where
  commands : (k : Keyboard) → (commanded keys byte k).test ≡ k.test
  commands k =
      either k (byte == 0xff) _ _ refl (
      either k (byte == 0xfe) _ _ refl (
      either k (byte == 0xf6) _ _ refl (
      either k (byte == 0xf5) _ _ refl (
      either k (byte == 0xf4) _ _ refl (
      either k (byte == 0xf3) _ _ refl (
      either k (byte == 0xed) _ _ refl (
      either k (byte == 0xee) _ _ refl (
      either k (nat_le 0xef byte) _ _ refl refl))))))))

  parameters : (k with_it : Keyboard) → with_it.test ≡ k.test → (parameter keys byte with_it k).test ≡ k.test
  parameters k with_it e =
      either k (nat_lt byte 0x80) _ _ e
      (either k (nat_lt byte 0xed) _ _ refl (commands (record k { mode = Ready })))

  -- a command leaves the test as it is
  obeys : (m : Mode) (k : Keyboard) → (obeyed_in m keys byte k).test ≡ k.test
  obeys Ready k = commands k
  obeys WantRate k = parameters k (record k { rate = byte }) refl
  obeys WantLights k = parameters k (record k { lights = byte % 8 }) refl

-- so do the key that repeats and the edges
repeats : (scanning : Bool) (keys : Keys) (inhibited : Bool) (k : Keyboard)
    → (repeated_if scanning keys inhibited k).test ≡ k.test
repeats true keys inhibited k = by k.repeats
  where
    by : (r : Option Repeat) → (repeated r keys inhibited k).test ≡ k.test
    by None = refl
    by (Some r) = refl
repeats false keys inhibited k = refl

one_edge : (scanning : Bool) (keys : Keys) (place : ℕ) (down on_fn : Bool) (k : Keyboard)
    → (edge_if scanning keys place down on_fn k).test ≡ k.test
one_edge true keys place true on_fn k = refl
one_edge true keys place false on_fn k = refl
one_edge false keys place down on_fn k = refl

all_edges : (scanning : Bool) (keys : Keys) (edges : List TickEdge) (k : Keyboard)
    → (edges_if scanning keys edges k).test ≡ k.test
all_edges scanning keys [] k = refl
all_edges scanning keys (e ∷ es) k =
    all_edges scanning keys es (edge_if scanning keys e.place e.down e.on_fn k) ∙ one_edge scanning keys e.place e.down e.on_fn k

-- a tick that finds the test at its end, and whose meeting leaves it so
test_over : (keys : Keys) (meeting : KeyboardMeeting) (edges : List TickEdge) (k : Keyboard) → k.test ≡ 0
    → (met meeting keys k).test ≡ k.test → (ticked keys meeting edges k).test ≡ 0
test_over keys meeting edges k e m =
    let a : Keyboard = met meeting keys k in
    let on : Keyboard → Bool = λ v. is_scanning v in
    let z : tested_if (not (k.test == 0)) a ≡ a = ap (λ v. tested_if (not (v == 0)) a) e in
    ap (λ v. (scanned keys (is_inhibited meeting) edges v).test) z
    ∙ all_edges (on a) keys edges (repeated_if (on a) keys (is_inhibited meeting) a)
    ∙ repeats (on a) keys (is_inhibited meeting) a ∙ m ∙ e

-- once a byte is sent no reply waits
went : (r : Option Reply) (keys : Keys) (k : Keyboard) → k.reply ≡ r → (without_offered r keys k).reply ≡ None
went None keys k e = e
went (Some r) keys k e = by r.resets
  where
    by : (c : Bool) → (if c then reset keys k else record k { reply = None }).reply ≡ None
    by true = refl
    by false = refl

sent_replies : (keys : Keys) (k : Keyboard) (byte : ℕ) → offer k ≡ Some byte → (met kbd.Sent keys k).reply ≡ None
sent_replies keys k byte o =
    ap (λ v. (sent_byte v keys k).reply) o
    ∙ went k.reply keys (record k { last = if byte == 0xfe then k.last else byte }) refl

-- from tick to tick, by the meeting
module _ (keys : Keys) (edges : List TickEdge) (k : Keyboard) (silent : IsSilentInTest k) where
  -- nothing passes
  stays : (meeting : KeyboardMeeting) → met meeting keys k ≡ k → IsSilentInTest (ticked keys meeting edges k)
  stays meeting e =
      elim silent [
        | inl t ↦ inl (test_over keys meeting edges k t (ap (λ (v : Keyboard). v.test) e))
        | inr r ↦ inr ((rest_adds keys meeting edges k).reply ∙ ap (λ (v : Keyboard). v.reply) e ∙ r)
      ]

  -- while the self-test goes on a tick leaves no reply waiting
  pub silent_by : (meeting : Meeting) → (k.test ≡ 0) ⊎ (meeting ≡ Idle)
      → ((byte : ℕ) → meeting ≡ Sent byte → offer k ≡ Some byte)
      → IsSilentInTest (ticked keys (met_as meeting) edges k)
  silent_by (Got byte) (inl t) o = inl (test_over keys (kbd.Got byte true) edges k t (obeys keys byte k.mode k))
  silent_by (Got byte) (inr e) o = absurd cc
  silent_by Inhibited t o = stays kbd.Inhibited refl
  silent_by Idle t o = stays kbd.Idle refl
  silent_by (Sent byte) t o =
      inr ((rest_adds keys kbd.Sent edges k).reply ∙ sent_replies keys k byte (o byte refl))
  silent_by Cut t o = stays kbd.Cut refl

-- so it is in each run
pub silent_in_test : (layout : KeyLayout) (history : KeyHistory) (starts : ℕ → ℕ) (n : ℕ)
    → IsSilentInTest (at_tick layout history starts n).keys.keyboard
silent_in_test layout history starts zero = inr refl
silent_in_test layout history starts (suc n) =
    let w : Whole LayeredKeyboard = at_tick layout history starts n in
    let start : ℕ = 4096 + starts n in
    silent_by (keys_of layout) (layered (is_fn_place layout) (taken layout.debounce (tick_edges starts history.edges n) w.keys.switches) w.keys.layers)
    w.keys.keyboard (silent_in_test layout history starts n)
    (meeting_at layout history starts n) (tested_or_idle layout history.host start w)
    (λ byte h. (arrives_as_offered layout history.host start byte w h).1)
