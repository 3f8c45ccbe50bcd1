-- The controller's count of resends is that of the bytes that came wrong in a row; and what is done with each byte.
use Rattle.std.proofs.Common.{◌≡◌, ◌≤◌, ℕ, zero, suc, ◌+◌, ◌-◌, Bool, true, false, List, Some, None, refl, ap, ◌∙◌, subst, arith}
use Rattle.std.specs.Prelude.{if◌then◌else◌, nat_lt}
use Rattle.std.specs.declared.option.Option.{Option}
use Rattle.std.proofs.lemmas.Bool.Decides.{nat_tests}
use Rattle.board_terms.specs.declared.event.HostEvent.{HostEvent}
use Rattle.model_controller.specs.declared.UnderWay.{UnderWay}
use Rattle.model_controller.specs.declared.meeting.Meeting.{Meeting}
use Rattle.model_controller.specs.declared.meeting.Meeting.TheVariants.{Got, Inhibited, Idle, Sent, Cut}
use Rattle.model_controller.specs.ByteTime.{Begins, Closes, Arrives, IsWhole, arriving, arrived_in, happened_at}
use Rattle.model_controller.specs.ByteTime.{byte_cycle, quietly, sent_or_cut, sends, ended_as, carried}
use Rattle.ctl_core.specs.Controller.{ControllerState, asks_again, gave_up}
use Rattle.ctl_core.specs.Translation.{translation, translates, arrived, after_wrong, after_received}
use Rattle.ctl_core.specs.declared.translation.Translated.{Translated}
use Rattle.ctl_link.specs.declared.link.Link.{Link}
use Rattle.ctl_link.specs.declared.link.Link.TheVariants.{Free, Hold, Ask, Request, Busy}
use Rattle.ctl_link.specs.declared.port.LinkEnd.{LinkEnd}
use Rattle.ctl_link.specs.Link.{core_after, received}
use Rattle.host_turn.specs.Run.{Side, side_at_start, says_lights}
use Rattle.key_file.specs.Histories.{KeyHistory}
use Rattle.layout_reader.specs.Layouts.{KeyLayout}
use Rattle.model_link.specs.Machine.{LayeredKeyboard, keyboard}
use Rattle.model_link.specs.Expected.{Whole, to_look, to_meeting, begins_from}
use Rattle.law_quiet_log.specs.Once.{at_tick, meeting_at}
use Rattle.law_noisy_link.specs.Fates.{Again, GivenUp, wrong_fate, flipped_fate, fate_of, wrong_with}
use Rattle.law_noisy_link.specs.Fates.{flip_in, arrival_in, side_before, wrong_before, fate_at}
use Rattle.law_noisy_link.specs.Noise.{IsReceived, IsAskedAgain, IsGivenUp, Does, IsCounted}
use Rattle.law_noisy_link.proofs.Cycles.{cycle_keeps, span_keeps}
use Rattle.law_noisy_link.proofs.Resends.{Counts, counts_stay}

-- the PC's side as a tick looks at the link, and as it meets it
abbrev pub earlier_side : List HostEvent → ℕ → Whole LayeredKeyboard → Side UnderWay
earlier_side events start w = to_look events w.shown w.keys.keyboard.lights start w.side

abbrev pub later_side : List HostEvent → ℕ → Whole LayeredKeyboard → Side UnderWay
later_side events start w = to_meeting events start (earlier_side events start w)

-- spans of a tick in which nothing arrives
module _ (events : List HostEvent) (r : ℕ) where
  looks : (shown lights start : ℕ) (m : Side UnderWay) → Counts r m.port → Counts r (to_look events shown lights start m).port
  looks shown lights start m h =
      span_keeps (Counts r) (counts_stay r) events 24 (232 + start) (says_lights (232 + start) shown lights (quietly events 232 start m))
      (span_keeps (Counts r) (counts_stay r) events 232 start m h)

  meets : (start : ℕ) (m : Side UnderWay) → Counts r m.port → Counts r (to_meeting events start m).port
  meets start m h = span_keeps (Counts r) (counts_stay r) events 32 (256 + start) m h

  sends_so : (now : ℕ) (m : Side UnderWay) → Counts r m.port → Counts r (sends events now m).port
  sends_so now m h =
      let a : Side UnderWay = byte_cycle events now (Begins true) m in
      let b : Side UnderWay = quietly events 287 (suc now) a in
      span_keeps (Counts r) (counts_stay r) events 31 (289 + now) (byte_cycle events (288 + now) Closes b)
      (cycle_keeps (Counts r) (counts_stay r) events (288 + now) Closes b
      (span_keeps (Counts r) (counts_stay r) events 287 (suc now) a
      (cycle_keeps (Counts r) (counts_stay r) events now (Begins true) m h)))

  got_so : (now : ℕ) (m : Side UnderWay) → Counts r m.port
      → Counts r (byte_cycle events (320 + now) IsWhole (quietly events 319 (suc now) (byte_cycle events now (Begins false) m))).port
  got_so now m h =
      let a : Side UnderWay = byte_cycle events now (Begins false) m in
      cycle_keeps (Counts r) (counts_stay r) events (320 + now) IsWhole (quietly events 319 (suc now) a)
      (span_keeps (Counts r) (counts_stay r) events 319 (suc now) a (cycle_keeps (Counts r) (counts_stay r) events now (Begins false) m h))

-- a byte that comes right
put_so : (byte : Option ℕ) (mark : Bool) (s : ControllerState) → (arrived (record { byte = byte; mark = mark }) s).resends ≡ 0
put_so None mark s = refl
put_so (Some byte) mark s = refl

right_so : (byte : ℕ) (s : ControllerState) → (after_received s byte true).resends ≡ 0
right_so byte s =
    let t : Translated = translation (translates s) s.break_mark byte in
    put_so t.byte t.mark s

-- one that comes wrong
wrong_so : (byte wrong : ℕ) (s : ControllerState) → s.resends ≡ wrong → (after_wrong s).resends ≡ wrong_with (wrong_fate wrong byte) wrong
wrong_so byte wrong s h = subst (λ v. (after_wrong s).resends ≡ wrong_with (wrong_fate v byte) v) h (by (nat_lt s.resends 3))
  where
    by : (b : Bool)
        → (if b then record s { resends = s.resends + 1 } else gave_up s).resends
        ≡ wrong_with (if b then Again byte else GivenUp byte) s.resends
    by true = omega arith
    by false = refl

arrives_so : (byte wrong : ℕ) (flip : Option ℕ) (s : ControllerState)
    → s.resends ≡ wrong → (core_after (arriving flip byte) s).resends ≡ wrong_with (flipped_fate flip wrong byte) wrong
arrives_so byte wrong None s h = right_so byte s
arrives_so byte wrong (Some bit) s h = wrong_so byte wrong s h

-- by the link before the cycle of the arrival
link_so : (now byte wrong : ℕ) (l : Link UnderWay) (p : LinkEnd UnderWay) → p.core.resends ≡ wrong
    → (arrived_in now byte l p).core.resends ≡ wrong_with (fate_of (sent_or_cut byte l) (flip_in l) wrong) wrong
link_so now byte wrong Free p h = h
link_so now byte wrong (Hold since) p h = h
link_so now byte wrong (Ask asked since) p h = h
link_so now byte wrong (Request asked) p h = h
link_so now byte wrong (Busy u) p h = arrives_so byte wrong u.flip p.core h

-- a tick from its meeting on
carries : (events : List HostEvent) (begins : Meeting) (now wrong : ℕ) (m : Side UnderWay) → Counts wrong m.port
    → Counts (wrong_with (fate_of (ended_as events begins now m) (flip_in (sends events now m).port.link) wrong) wrong)
    (carried events begins now m).port
carries events (Got byte) now wrong m h = got_so events wrong now m h
carries events Inhibited now wrong m h = span_keeps (Counts wrong) (counts_stay wrong) events 321 now m h
carries events Idle now wrong m h = span_keeps (Counts wrong) (counts_stay wrong) events 321 now m h
carries events (Sent byte) now wrong m h =
    let s : Side UnderWay = sends events now m in
    let r : ℕ = wrong_with (fate_of (sent_or_cut byte s.port.link) (flip_in s.port.link) wrong) wrong in
    cycle_keeps (Counts r) (counts_stay r) events (320 + now) (Arrives byte) s
    (link_so (320 + now) byte wrong s.port.link s.port (sends_so events wrong now m h))
carries events Cut now wrong m h = span_keeps (Counts wrong) (counts_stay wrong) events 321 now m h

-- no more than three
few_with : (meeting : Meeting) (flip : Option ℕ) (wrong : ℕ) → wrong ≤ 3 → wrong_with (fate_of meeting flip wrong) wrong ≤ 3
few_with (Got byte) flip wrong h = h
few_with Inhibited flip wrong h = h
few_with Idle flip wrong h = h
few_with (Sent byte) None wrong h = omega arith
few_with (Sent byte) (Some bit) wrong h = by (nat_lt wrong 3) refl
  where
    by : (b : Bool) → nat_lt wrong 3 ≡ b → wrong_with (if b then Again byte else GivenUp byte) wrong ≤ 3
    by true e = grind (arith, nat_tests, e)
    by false e = omega arith
few_with Cut flip wrong h = h

module _ (layout : KeyLayout) (history : KeyHistory) (starts : ℕ → ℕ) where
  few_before : (n : ℕ) → wrong_before layout history starts n ≤ 3
  few_before zero = omega arith
  few_before (suc n) =
      few_with (meeting_at layout history starts n) (flip_in (side_before layout history starts n).port.link)
      (wrong_before layout history starts n) (few_before n)

  met_so : (n r : ℕ) → Counts r (at_tick layout history starts n).side.port
      → Counts r (later_side history.host (4096 + starts n) (at_tick layout history starts n)).port
  met_so n r h =
      let w : Whole LayeredKeyboard = at_tick layout history starts n in
      let start : ℕ = 4096 + starts n in
      meets history.host r start (earlier_side history.host start w) (looks history.host r w.shown w.keys.keyboard.lights start w.side h)

  at_start_so : (n : ℕ) → Counts (wrong_before layout history starts n) (at_tick layout history starts n).side.port
  at_start_so zero = span_keeps (Counts 0) (counts_stay 0) history.host (starts 0) 4096 (side_at_start UnderWay) refl
  at_start_so (suc n) =
      let w : Whole LayeredKeyboard = at_tick layout history starts n in
      let start : ℕ = 4096 + starts n in
      let wrong : ℕ = wrong_before layout history starts n in
      let later : Side UnderWay = later_side history.host start w in
      let begins : Meeting = begins_from (keyboard layout) history.host start w in
      let r : ℕ = wrong_before layout history starts (suc n) in
      span_keeps (Counts r) (counts_stay r) history.host (starts (suc n) - starts n - 609) (609 + start)
      (carried history.host begins (288 + start) later)
      (carries history.host begins (288 + start) wrong later (met_so n wrong (at_start_so n)))

  -- at each tick the controller's count of resends is that of the bytes that came wrong in a row
  pub counted : (n : ℕ) → IsCounted layout history starts n
  counted n =
      let w : Whole LayeredKeyboard = at_tick layout history starts n in
      let start : ℕ = 4096 + starts n in
      let wrong : ℕ = wrong_before layout history starts n in
      record {
        at_start = at_start_so n;
        at_arrival = sends_so history.host wrong (288 + start) (later_side history.host start w) (met_so n wrong (at_start_so n));
        few = few_before n;
      }

-- what is done with a byte that comes right, or wrong
right_does : (now byte : ℕ) (u : UnderWay) (p : LinkEnd UnderWay)
    → p.link ≡ Busy u → u.flip ≡ None → IsReceived now byte p (happened_at now (Arrives byte) p)
right_does now byte u p h f =
    let e : happened_at now (Arrives byte) p ≡ received now (Some byte) p =
    ap (λ l. arrived_in now byte l p) h ∙ ap (λ flip. received now (arriving flip byte) p) f in
    record { core = ap (λ (q : LinkEnd UnderWay). q.core) e; link = ap (λ (q : LinkEnd UnderWay). q.link) e }

wrong_received : (now byte bit : ℕ) (u : UnderWay) (p : LinkEnd UnderWay)
    → p.link ≡ Busy u → u.flip ≡ Some bit → happened_at now (Arrives byte) p ≡ received now None p
wrong_received now byte bit u p h f = ap (λ l. arrived_in now byte l p) h ∙ ap (λ flip. received now (arriving flip byte) p) f

again_does : (now byte bit : ℕ) (u : UnderWay) (p : LinkEnd UnderWay)
    → p.link ≡ Busy u → u.flip ≡ Some bit → asks_again p.core ≡ true → IsAskedAgain now p (happened_at now (Arrives byte) p)
again_does now byte bit u p h f a =
    let e = wrong_received now byte bit u p h f in
    record {
      core = ap (λ (q : LinkEnd UnderWay). q.core) e
          ∙ ap (λ b. if b then record p.core { resends = p.core.resends + 1 } else gave_up p.core) a;
      link = ap (λ (q : LinkEnd UnderWay). q.link) e ∙ ap (λ b. if b then Ask 0xfe now else Hold now) a;
    }

given_up_does : (now byte bit : ℕ) (u : UnderWay) (p : LinkEnd UnderWay)
    → p.link ≡ Busy u → u.flip ≡ Some bit → asks_again p.core ≡ false → IsGivenUp now p (happened_at now (Arrives byte) p)
given_up_does now byte bit u p h f a =
    let e = wrong_received now byte bit u p h f in
    record {
      core = ap (λ (q : LinkEnd UnderWay). q.core) e
          ∙ ap (λ b. if b then record p.core { resends = p.core.resends + 1 } else gave_up p.core) a;
      link = ap (λ (q : LinkEnd UnderWay). q.link) e ∙ ap (λ b. if b then Ask 0xfe now else Hold now) a;
    }

-- by the flip, and by the count
does_by : (now byte wrong : ℕ) (u : UnderWay) (p : LinkEnd UnderWay) (flip : Option ℕ)
    → p.link ≡ Busy u → u.flip ≡ flip → p.core.resends ≡ wrong → Does (flipped_fate flip wrong byte) now p
does_by now byte wrong u p None h f c = right_does now byte u p h f
does_by now byte wrong u p (Some bit) h f c = by (nat_lt wrong 3) (ap (λ v. nat_lt v 3) c)
  where
    by : (b : Bool) → nat_lt p.core.resends 3 ≡ b → Does (if b then Again byte else GivenUp byte) now p
    by true e = again_does now byte bit u p h f e
    by false e = given_up_does now byte bit u p h f e

does_link : (now byte wrong : ℕ) (l : Link UnderWay) (p : LinkEnd UnderWay)
    → p.link ≡ l → p.core.resends ≡ wrong → Does (fate_of (sent_or_cut byte l) (flip_in l) wrong) now p
does_link now byte wrong Free p h c = tt
does_link now byte wrong (Hold since) p h c = tt
does_link now byte wrong (Ask asked since) p h c = tt
does_link now byte wrong (Request asked) p h c = tt
does_link now byte wrong (Busy u) p h c = does_by now byte wrong u p u.flip h refl c

does_as : (events : List HostEvent) (begins : Meeting) (now wrong : ℕ) (m : Side UnderWay) → (sends events now m).port.core.resends ≡ wrong
    → Does (fate_of (ended_as events begins now m) (flip_in (sends events now m).port.link) wrong) (320 + now) (sends events now m).port
does_as events (Got byte) now wrong m c = tt
does_as events Inhibited now wrong m c = tt
does_as events Idle now wrong m c = tt
does_as events (Sent byte) now wrong m c = does_link (320 + now) byte wrong (sends events now m).port.link (sends events now m).port refl c
does_as events Cut now wrong m c = tt

-- so it is in each tick
pub done_by_fate : (layout : KeyLayout) (history : KeyHistory) (starts : ℕ → ℕ) (n : ℕ)
    → Does (fate_at layout history starts n) (arrival_in layout history starts n) (side_before layout history starts n).port
done_by_fate layout history starts n =
    let w : Whole LayeredKeyboard = at_tick layout history starts n in
    let start : ℕ = 4096 + starts n in
    does_as history.host (begins_from (keyboard layout) history.host start w) (288 + start) (wrong_before layout history starts n)
    (later_side history.host start w) (counted layout history starts n).at_arrival
