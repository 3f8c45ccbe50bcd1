-- What came wrong and is asked for again comes again.
use Rattle.std.proofs.Common.{◌≡◌, ◌≤◌, ◌<◌, ℕ, zero, suc, ◌+◌, ◌-◌, ◌==◌, inl, Bool, true, false}
use Rattle.std.proofs.Common.{List, Some, None, refl, ap, sym, ◌∙◌, subst, arith}
use Rattle.std.specs.Prelude.{if◌then◌else◌, nat_lt, nat_le}
use Rattle.std.specs.declared.option.Option.{Option}
use Rattle.std.proofs.lemmas.Bool.Decides.{nat_tests}
use Rattle.board_terms.specs.declared.event.HostEvent.{HostEvent}
use Rattle.board_terms.specs.Cadence.{KeepsCadenceTo}
use Rattle.model_controller.specs.declared.UnderWay.{UnderWay}
use Rattle.model_controller.specs.declared.meeting.Meeting.{Meeting}
use Rattle.model_controller.specs.declared.meeting.Meeting.TheVariants.{Got, Inhibited, Idle, Sent, Cut}
use Rattle.model_controller.specs.ByteTime.{Arrives, quietly, meeting_by, sent_or_cut, sends, ended_as, carried}
use Rattle.ctl_link.specs.declared.link.Link.{Link}
use Rattle.ctl_link.specs.declared.link.Link.TheVariants.{Free, Hold, Ask, Request, Busy}
use Rattle.ctl_link.specs.declared.port.LinkEnd.{LinkEnd}
use Rattle.host_turn.specs.Run.{Side, says_lights}
use Rattle.model_keyboard.specs.declared.edge.TickEdge.{TickEdge}
use Rattle.model_keyboard.specs.Codes.{keys_of}
use Rattle.model_keyboard.specs.Layers.{layered}
use Rattle.model_keyboard.specs.Keyboard.{Keyboard, offer}
use Rattle.model_keyboard.specs.Tick.{ticked}
use Rattle.key_file.specs.Histories.{KeyHistory}
use Rattle.layout_reader.specs.Layouts.{KeyLayout, is_fn_place}
use Rattle.model_link.specs.Machine.{LayeredKeyboard, keyboard, met_as}
use Rattle.model_link.specs.Laws.{taken_in}
use Rattle.model_link.specs.Expected.{Whole, begins_from, from_meeting}
use Rattle.law_quiet_log.specs.Once.{at_tick, meeting_at}
use Rattle.law_quiet_log.proofs.Once.{arrives_as_offered}
use Rattle.law_noisy_link.specs.Fates.{NoByte, Again, GivenUp, flipped_fate, fate_of, wrong_with}
use Rattle.law_noisy_link.specs.Fates.{flip_in, arrival_in, side_before, wrong_before, fate_at}
use Rattle.law_noisy_link.specs.Noise.{Does, pause, asked_for, next_try, ComesAgain}
use Rattle.law_noisy_link.proofs.Cycles.{Stays, cycle_keeps, span_keeps}
use Rattle.law_noisy_link.proofs.Links.{IsRequest, request_stays, IsAsked, asked_stays, requested}
use Rattle.law_noisy_link.proofs.Links.{AwaitsReply, awaits_stays, handed, reply_sends}
use Rattle.law_noisy_link.proofs.Counted.{earlier_side, later_side, done_by_fate}
use Rattle.law_noisy_link.proofs.Keys.{IsLastSent, last_sent, test_runs, Replies, resends}

-- a byte that is asked for again was sent, and its frame is still under way in its last cycle
pub record IsSent (begins meeting : Meeting) (byte : ℕ) : Type 0 where
  pub began : begins ≡ Sent byte
  pub sent : meeting ≡ Sent byte

sent_link : (l : Link UnderWay) (b byte wrong : ℕ)
    → fate_of (sent_or_cut b l) (flip_in l) wrong ≡ Again byte → (Sent b ≡ Sent byte) × (sent_or_cut b l ≡ Sent byte)
sent_link Free b byte wrong h = absurd cc
sent_link (Hold since) b byte wrong h = absurd cc
sent_link (Ask c since) b byte wrong h = absurd cc
sent_link (Request c) b byte wrong h = absurd cc
sent_link (Busy u) b byte wrong h = by_flip u.flip h
  where
    by_flip : (flip : Option ℕ) → flipped_fate flip wrong b ≡ Again byte → (Sent b ≡ Sent byte) × (Sent b ≡ Sent byte)
    by_flip None h = absurd cc
    by_flip (Some bit) h = by_count (nat_lt wrong 3) h
      where
        by_count : (few : Bool) → (if few then Again b else GivenUp b) ≡ Again byte → (Sent b ≡ Sent byte) × (Sent b ≡ Sent byte)
        by_count true h = let e : b ≡ byte = cc h in (ap (λ v. Sent v) e, ap (λ v. Sent v) e)
        by_count false h = absurd cc

is_sent : (events : List HostEvent) (begins : Meeting) (now byte wrong : ℕ) (m : Side UnderWay)
    → fate_of (ended_as events begins now m) (flip_in (sends events now m).port.link) wrong ≡ Again byte
    → IsSent begins (ended_as events begins now m) byte
is_sent events (Got b) now byte wrong m h = absurd cc
is_sent events Inhibited now byte wrong m h = absurd cc
is_sent events Idle now byte wrong m h = absurd cc
is_sent events (Sent b) now byte wrong m h =
    let e = sent_link (sends events now m).port.link b byte wrong h in record { began = e.0; sent = e.1 }
is_sent events Cut now byte wrong m h = absurd cc

-- nothing asked for is lost before the meeting of the next tick
looks_asked : (events : List HostEvent) (byte since start : ℕ) (w : Whole LayeredKeyboard)
    → since + 64 ≤ start → IsAsked byte since w.side.port → IsRequest byte (earlier_side events start w).port
looks_asked events byte since start w late h =
    span_keeps (IsRequest byte) (request_stays byte) events 24 (232 + start)
    (says_lights (232 + start) w.shown w.keys.keyboard.lights (quietly events 232 start w.side))
    (requested byte since events 232 start w.side (omega arith) late h)

module _ (layout : KeyLayout) (history : KeyHistory) (starts : ℕ → ℕ) where
  abbrev keys_at : ℕ → Keyboard
  keys_at n = (at_tick layout history starts n).keys.keyboard

  abbrev edges_at : ℕ → List TickEdge
  edges_at n =
      layered (is_fn_place layout) (taken_in layout history.edges history.host starts n)
      (at_tick layout history starts n).keys.layers

  -- the keyboard after a tick with this meeting
  keys_after : (n : ℕ) (meeting : Meeting)
      → meeting_at layout history starts n ≡ meeting → keys_at (suc n) ≡ ticked (keys_of layout) (met_as meeting) (edges_at n) (keys_at n)
  keys_after n meeting h = ap (λ m. ticked (keys_of layout) (met_as m) (edges_at n) (keys_at n)) h

  module _ (P : LinkEnd UnderWay → Type 0) (stays : Stays P) (n : ℕ) where
    -- what stays so from a tick's start to its look at the link, to its meeting, and after that to the next start
    look_keeps : P (at_tick layout history starts n).side.port
        → P (earlier_side history.host (4096 + starts n) (at_tick layout history starts n)).port
    look_keeps h =
        let w : Whole LayeredKeyboard = at_tick layout history starts n in
        let start : ℕ = 4096 + starts n in
        span_keeps P stays history.host 24 (232 + start)
        (says_lights (232 + start) w.shown w.keys.keyboard.lights (quietly history.host 232 start w.side))
        (span_keeps P stays history.host 232 start w.side h)

    meeting_keeps : P (earlier_side history.host (4096 + starts n) (at_tick layout history starts n)).port
        → P (later_side history.host (4096 + starts n) (at_tick layout history starts n)).port
    meeting_keeps h =
        span_keeps P stays history.host 32 (256 + (4096 + starts n))
        (earlier_side history.host (4096 + starts n) (at_tick layout history starts n)) h

    rest_keeps : (begins : Meeting)
        → begins_from (keyboard layout) history.host (4096 + starts n) (at_tick layout history starts n) ≡ begins
        → P (carried history.host begins (288 + (4096 + starts n))
        (later_side history.host (4096 + starts n) (at_tick layout history starts n))).port
        → P (at_tick layout history starts (suc n)).side.port
    rest_keeps begins e h =
        let start : ℕ = 4096 + starts n in
        let later : Side UnderWay = later_side history.host start (at_tick layout history starts n) in
        let rest : ℕ = starts (suc n) - starts n - 609 in
        subst (λ b. P (from_meeting history.host start rest b later).port) (sym e)
        (span_keeps P stays history.host rest (609 + start) (carried history.host begins (288 + start) later) h)

  -- at a tick's start FE is asked for since a cycle, so many ticks of the test are left, and this byte was sent last
  record Waits (byte wrong since left n : ℕ) : Type 0 where
    keys : IsLastSent left byte (keys_at n)
    asked : IsAsked 0xfe since (at_tick layout history starts n).side.port
    counted : wrong_before layout history starts n ≡ wrong

  -- how many came wrong, after a tick that takes no byte off the line
  count_stays : (n wrong : ℕ) (meeting : Meeting) → meeting_at layout history starts n ≡ meeting
      → ((flip : Option ℕ) → fate_of meeting flip wrong ≡ NoByte) → wrong_before layout history starts n ≡ wrong
      → wrong_before layout history starts (suc n) ≡ wrong
  count_stays n wrong meeting e none c =
      let flip : Option ℕ = flip_in (side_before layout history starts n).port.link in
      ap (λ v. wrong_with (fate_of (meeting_at layout history starts n) flip v) v) c ∙ ap (λ m. wrong_with (fate_of m flip wrong) wrong) e
      ∙ ap (λ f. wrong_with f wrong) (none flip)

  -- a tick of the test: nothing passes
  record WaitsOn (byte wrong since left n : ℕ) : Type 0 where
    idle : meeting_at layout history starts n ≡ Idle
    waits : Waits byte wrong since left (suc n)

  waits_on : (byte wrong since left n : ℕ) → Waits byte wrong since (suc left) n → WaitsOn byte wrong since left n
  waits_on byte wrong since left n h =
      let start : ℕ = 4096 + starts n in
      let w : Whole LayeredKeyboard = at_tick layout history starts n in
      let later : Side UnderWay = later_side history.host start w in
      let runs : (w.keys.keyboard.test == 0) ≡ false = grind (arith, nat_tests, h.keys.test) in
      let b : begins_from (keyboard layout) history.host start w ≡ Idle =
      ap (λ tested. meeting_by tested (offer w.keys.keyboard) (earlier_side history.host start w).port.link later.port.link) runs in
      let m : meeting_at layout history starts n ≡ Idle = ap (λ v. ended_as history.host v (288 + start) later) b in
      let stays : Stays (IsAsked 0xfe since) = asked_stays 0xfe since in
      let asked : IsAsked 0xfe since later.port =
      meeting_keeps (IsAsked 0xfe since) stays n (look_keeps (IsAsked 0xfe since) stays n h.asked) in
      record {
        idle = m;
        waits = record {
          keys = subst (λ k. IsLastSent left byte k) (sym (keys_after n Idle m))
              (test_runs (keys_of layout) (edges_at n) left byte (keys_at n) h.keys);
          asked = rest_keeps (IsAsked 0xfe since) stays n Idle b
              (span_keeps (IsAsked 0xfe since) stays history.host 321 (288 + start) later asked);
          counted = count_stays n wrong Idle m (λ flip. refl) h.counted;
        };
      }

  -- the tick that gets FE
  record GotAsked (byte wrong n : ℕ) : Type 0 where
    asked : meeting_at layout history starts n ≡ Got 0xfe
    keys : Replies byte (keys_at (suc n))
    link : AwaitsReply (at_tick layout history starts (suc n)).side.port
    counted : wrong_before layout history starts (suc n) ≡ wrong

  got_asked : (byte wrong since n : ℕ) → since + 64 ≤ 4096 + starts n → Waits byte wrong since 0 n → GotAsked byte wrong n
  got_asked byte wrong since n late h =
      let start : ℕ = 4096 + starts n in
      let w : Whole LayeredKeyboard = at_tick layout history starts n in
      let earlier : Side UnderWay = earlier_side history.host start w in
      let later : Side UnderWay = later_side history.host start w in
      let tested : (w.keys.keyboard.test == 0) ≡ true = grind (arith, nat_tests, h.keys.test) in
      let b : begins_from (keyboard layout) history.host start w ≡ Got 0xfe =
      ap (λ tested. meeting_by tested (offer w.keys.keyboard) earlier.port.link later.port.link) tested
      ∙ ap (λ l. meeting_by true (offer w.keys.keyboard) l later.port.link) (looks_asked history.host 0xfe since start w late h.asked) in
      let m : meeting_at layout history starts n ≡ Got 0xfe = ap (λ v. ended_as history.host v (288 + start) later) b in
      record {
        asked = m;
        keys = subst (λ k. Replies byte k) (sym (keys_after n (Got 0xfe) m))
            (resends (keys_of layout) (edges_at n) byte (keys_at n) h.keys);
        link = rest_keeps AwaitsReply awaits_stays n (Got 0xfe) b (handed history.host (288 + start) later);
        counted = count_stays n wrong (Got 0xfe) m (λ flip. refl) h.counted;
      }

  -- and the one after it
  sent_again : (byte n : ℕ)
      → Replies byte (keys_at n) → AwaitsReply (at_tick layout history starts n).side.port → meeting_at layout history starts n ≡ Sent byte
  sent_again byte n keys link =
      let start : ℕ = 4096 + starts n in
      let w : Whole LayeredKeyboard = at_tick layout history starts n in
      let earlier : Side UnderWay = earlier_side history.host start w in
      let later : Side UnderWay = later_side history.host start w in
      let a : AwaitsReply earlier.port = look_keeps AwaitsReply awaits_stays n link in
      let c : AwaitsReply later.port = meeting_keeps AwaitsReply awaits_stays n a in
      let tested : (w.keys.keyboard.test == 0) ≡ true = grind (arith, nat_tests, keys.test) in
      let b : begins_from (keyboard layout) history.host start w ≡ Sent byte =
      ap (λ tested. meeting_by tested (offer w.keys.keyboard) earlier.port.link later.port.link) tested
      ∙ ap (λ o. meeting_by true o earlier.port.link later.port.link) keys.offers
      ∙ ap (λ l. meeting_by true (Some byte) l later.port.link) a.link ∙ ap (λ l. meeting_by true (Some byte) Free l) c.link in
      ap (λ v. ended_as history.host v (288 + start) later) b
      ∙ ap (λ l. sent_or_cut byte l) (reply_sends history.host (288 + start) later c)

  -- through the test's ticks
  record Comes (byte wrong left n : ℕ) : Type 0 where
    idle : (j : ℕ) → n ≤ j → j < left + n → meeting_at layout history starts j ≡ Idle
    asked : meeting_at layout history starts (left + n) ≡ Got 0xfe
    sent : meeting_at layout history starts (suc (left + n)) ≡ Sent byte
    counted : wrong_before layout history starts (suc (left + n)) ≡ wrong

  comes : (byte wrong since left n last : ℕ) → ((m : ℕ) → n ≤ m → m ≤ last → since + 64 ≤ 4096 + starts m)
      → left + n ≤ last → Waits byte wrong since left n → Comes byte wrong left n
  comes byte wrong since zero n last late within h =
      let z : n ≡ zero + n = omega arith in
      let g : GotAsked byte wrong n = got_asked byte wrong since n (late n (omega arith) (omega (arith, within))) h in
      record {
        idle = λ j l u. absurd (omega (arith, l, u));
        asked = subst (λ v. meeting_at layout history starts v ≡ Got 0xfe) z g.asked;
        sent = subst (λ v. meeting_at layout history starts (suc v) ≡ Sent byte) z (sent_again byte (suc n) g.keys g.link);
        counted = subst (λ v. wrong_before layout history starts (suc v) ≡ wrong) z g.counted;
      }
  comes byte wrong since (suc left) n last late within h =
      let z : left + suc n ≡ suc left + n = omega arith in
      let o : WaitsOn byte wrong since left n = waits_on byte wrong since left n h in
      let r : Comes byte wrong left (suc n) =
      comes byte wrong since left (suc n) last (λ m l u. late m (omega (arith, l)) u) (omega (arith, within)) o.waits in
      record {
        idle = λ j l u. first j l u (nat_le j n) refl o.idle r.idle;
        asked = subst (λ v. meeting_at layout history starts v ≡ Got 0xfe) z r.asked;
        sent = subst (λ v. meeting_at layout history starts (suc v) ≡ Sent byte) z r.sent;
        counted = subst (λ v. wrong_before layout history starts (suc v) ≡ wrong) z r.counted;
      }
    where
      first : (j : ℕ) → n ≤ j → j < suc left + n → (b : Bool) → nat_le j n ≡ b → meeting_at layout history starts n ≡ Idle
          → ((i : ℕ) → suc n ≤ i → i < left + suc n → meeting_at layout history starts i ≡ Idle) → meeting_at layout history starts j ≡ Idle
      first j l u true e here there =
          let is : n ≡ j = grind (arith, nat_tests, e, l) in
          subst (λ v. meeting_at layout history starts v ≡ Idle) is here
      first j l u false e here there =
          let above : suc n ≤ j = grind (arith, nat_tests, e) in
          there j above (omega (arith, u))

  -- after a tick whose byte came wrong, and is asked for again
  waits_after : (n byte : ℕ) → fate_at layout history starts n ≡ Again byte
      → Waits (asked_for byte (keys_at n)) (suc (wrong_before layout history starts n))
      (arrival_in layout history starts n) (pause (keys_at n)) (suc n)
  waits_after n byte f =
      let start : ℕ = 4096 + starts n in
      let now : ℕ = arrival_in layout history starts n in
      let w : Whole LayeredKeyboard = at_tick layout history starts n in
      let wrong : ℕ = wrong_before layout history starts n in
      let later : Side UnderWay = later_side history.host start w in
      let before : Side UnderWay = side_before layout history starts n in
      let s : IsSent (begins_from (keyboard layout) history.host start w) (meeting_at layout history starts n) byte =
      is_sent history.host (begins_from (keyboard layout) history.host start w) (288 + start) byte wrong later f in
      let d : Does (Again byte) now before.port = subst (λ v. Does v now before.port) f (done_by_fate layout history starts n) in
      let o = arrives_as_offered layout history.host start byte w s.sent in
      let stays : Stays (IsAsked 0xfe now) = asked_stays 0xfe now in
      record {
        keys = subst (λ k. IsLastSent (pause (keys_at n)) (asked_for byte (keys_at n)) k) (sym (keys_after n (Sent byte) s.sent))
            (last_sent (keys_of layout) (edges_at n) byte (keys_at n) o.0 o.1);
        asked = rest_keeps (IsAsked 0xfe now) stays n (Sent byte) s.began
            (cycle_keeps (IsAsked 0xfe now) stays history.host now (Arrives byte) before (inl d.link));
        counted = ap (λ v. wrong_with v wrong) f;
      }

  -- it comes again
  pub comes_again : (last n byte : ℕ) → KeepsCadenceTo starts last
      → next_try layout history starts n ≤ last → fate_at layout history starts n ≡ Again byte → ComesAgain layout history starts n byte
  comes_again last n byte cadence within f =
      let left : ℕ = pause (keys_at n) in
      let now : ℕ = arrival_in layout history starts n in
      let wrong : ℕ = wrong_before layout history starts n in
      let z : left + suc n ≡ suc (left + n) = omega arith in
      let here = cadence n (omega (arith, within)) in
      let late : (m : ℕ) → suc n ≤ m → m ≤ last → now + 64 ≤ 4096 + starts m = λ m l u.
      let there = cadence m u in omega (arith, here.most, there.least, l) in
      let r : Comes (asked_for byte (keys_at n)) (suc wrong) left (suc n) =
      comes (asked_for byte (keys_at n)) (suc wrong) now left (suc n) last late (omega (arith, within)) (waits_after n byte f) in
      record {
        idle = λ j l u. r.idle j (omega (arith, l)) (omega (arith, u));
        asked = subst (λ v. meeting_at layout history starts v ≡ Got 0xfe) z r.asked;
        sent = subst (λ v. meeting_at layout history starts (suc v) ≡ Sent (asked_for byte (keys_at n))) z r.sent;
        counted = subst (λ v. wrong_before layout history starts (suc v) ≡ suc wrong) z r.counted;
      }
