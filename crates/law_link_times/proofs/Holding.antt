-- In each run nothing but these holds a byte.
use Rattle.std.proofs.Common.{◌≡◌, ℕ, suc, zero, ◌+◌, ◌-◌, ◌≤◌, ◌<◌, ◌⊎◌, inl, inr, List, [], ◌++◌, Bool}
use Rattle.std.proofs.Common.{true, false, ◌==◌, Some, refl, ap, sym, ◌∙◌, subst, arith}
use Rattle.std.specs.Prelude.{slice_get}
use Rattle.std.proofs.lemmas.Bool.Decides.{nat_tests}
use Rattle.board_terms.specs.declared.event.HostEvent.{HostEvent}
use Rattle.model_controller.specs.declared.UnderWay.{UnderWay}
use Rattle.model_controller.specs.declared.meeting.Meeting.{Meeting}
use Rattle.model_controller.specs.declared.meeting.Meeting.TheVariants.{Got, Inhibited, Idle, Sent, Cut}
use Rattle.model_controller.specs.ByteTime.{carried, ended_as, meeting_by, quietly, sends, sent_or_cut}
use Rattle.ctl_core.specs.Controller.{is_disabled}
use Rattle.ctl_link.specs.Link.{is_busy}
use Rattle.ctl_link.specs.declared.link.Link.{Link}
use Rattle.ctl_link.specs.declared.link.Link.TheVariants.{Free, Hold, Ask, Request, Busy}
use Rattle.host_turn.specs.Run.{Side, says_lights, side_at_start}
use Rattle.model_keyboard.specs.Keyboard.{Keyboard, offer}
use Rattle.model_keyboard.specs.Once.{waiting}
use Rattle.model_keyboard.proofs.Once.{offers_first}
use Rattle.key_file.specs.Histories.{KeyHistory}
use Rattle.layout_reader.specs.Layouts.{KeyLayout}
use Rattle.model_link.specs.Machine.{LayeredKeyboard, keyboard}
use Rattle.model_link.specs.Expected.{Whole, begins_from}
use Rattle.law_quiet_log.specs.Once.{at_tick, left, meeting_at}
use Rattle.law_link_times.specs.Coming.{after_at, comes_first, keyboard_at, test_left}
use Rattle.law_link_times.specs.Holding.{HoldsOff, IsBrokenOff, IsGot, IsHeldOff, MayMeet, begin_at, look_at, start_at}
use Rattle.law_link_times.proofs.Breaking.{sent_or_broken}
use Rattle.law_link_times.proofs.Fitting.{Fits, FitsIn, fits_span, idle_carried, idle_span}
use Rattle.law_link_times.proofs.Flowing.{get_more}
use Rattle.law_link_times.proofs.Twice.{comes_exactly}

module _ (layout : KeyLayout) (history : KeyHistory) (starts : ℕ → ℕ) where
  abbrev host : List HostEvent
  host = history.host

  -- no byte is under way at a start, nor up to where one may begin
  look_idle : (n : ℕ) → is_busy (at_tick layout history starts n).side.port.link ≡ false
      → is_busy (look_at layout history starts n).port.link ≡ false
  look_idle n h =
      let w : Whole LayeredKeyboard = at_tick layout history starts n in
      let s : ℕ = start_at layout history starts n in
      idle_span host 24 (232 + s)
      (says_lights (232 + s) w.shown w.keys.keyboard.lights (quietly host 232 s w.side)) (idle_span host 232 s w.side h)

  begin_idle : (n : ℕ) → is_busy (look_at layout history starts n).port.link ≡ false
      → is_busy (begin_at layout history starts n).port.link ≡ false
  begin_idle n h = idle_span host 32 (256 + start_at layout history starts n) (look_at layout history starts n) h

  start_idle : (n : ℕ) → is_busy (at_tick layout history starts n).side.port.link ≡ false
  start_idle zero = idle_span host (starts 0) 4096 (side_at_start UnderWay) refl
  start_idle (suc n) =
      let s : ℕ = start_at layout history starts n in
      let begins : Meeting = begins_from (keyboard layout) host s (at_tick layout history starts n) in
      let m : Side UnderWay = begin_at layout history starts n in
      idle_span host (starts (suc n) - starts n - 609) (609 + s) (carried host begins (288 + s) m)
      (idle_carried host begins (288 + s) m (begin_idle n (look_idle n (start_idle n))))

  module _ (n byte : ℕ) where
    abbrev start : ℕ
    start = start_at layout history starts n

    abbrev look : Side UnderWay
    look = look_at layout history starts n

    abbrev meet : Side UnderWay
    meet = begin_at layout history starts n

    abbrev May : Meeting → Type 0
    May m = MayMeet layout history starts n byte m

    -- the link at the look and before a byte may begin, where it is held
    look_fits : FitsIn (255 + start) look.port
    look_fits =
        let w : Whole LayeredKeyboard = at_tick layout history starts n in
        fits_span host 23 24 (232 + start) (255 + start)
        (says_lights (232 + start) w.shown w.keys.keyboard.lights (quietly host 232 start w.side))
        (omega arith) (omega arith)

    meet_fits : FitsIn (287 + start) meet.port
    meet_fits = fits_span host 31 32 (256 + start) (287 + start) look (omega arith) (omega arith)

    look_is : (l : Link UnderWay) → look.port.link ≡ l
        → Fits (255 + start) look.port.core.output_full (is_disabled look.port.core) l
    look_is l e =
        subst (λ v. Fits (255 + start) look.port.core.output_full (is_disabled look.port.core) v) e look_fits

    meet_is : (l : Link UnderWay) → meet.port.link ≡ l
        → Fits (287 + start) meet.port.core.output_full (is_disabled meet.port.core) l
    meet_is l e =
        subst (λ v. Fits (287 + start) meet.port.core.output_full (is_disabled meet.port.core) v) e meet_fits

    -- a byte that has begun
    broken : (l : Link UnderWay) → IsBrokenOff host (288 + start) meet → May (sent_or_cut byte l)
    broken Free b = inr b
    broken (Hold since) b = inr b
    broken (Ask c since) b = inr b
    broken (Request c) b = inr b
    broken (Busy u) b = refl

    passes : May (sent_or_cut byte (sends host (288 + start) meet).port.link)
    passes =
        elim (sent_or_broken host (288 + start) meet) [
          | inl e ↦ subst (λ l. May (sent_or_cut byte l)) (sym e.1) refl
          | inr b ↦ broken (sends host (288 + start) meet).port.link b
        ]

    -- by the link at the look, and before a byte may begin
    begun : (l : Link UnderWay) → meet.port.link ≡ l
        → May (ended_as host (meeting_by true (Some byte) Free l) (288 + start) meet)
    begun Free e = passes
    begun (Hold since) e =
        inl (subst (λ v. HoldsOff (287 + start) meet.port v) (sym e) (meet_is (Hold since) e))
    begun (Ask c since) e =
        inl (subst (λ v. HoldsOff (287 + start) meet.port v) (sym e) (meet_is (Ask c since) e))
    begun (Request c) e = inl (subst (λ v. HoldsOff (287 + start) meet.port v) (sym e) tt)
    begun (Busy u) e =
        let b : true ≡ false = sym (ap is_busy e) ∙ begin_idle n (look_idle n (start_idle n)) in absurd cc

    by_look : (l : Link UnderWay) → look.port.link ≡ l
        → May (ended_as host (meeting_by true (Some byte) l meet.port.link) (288 + start) meet)
    by_look Free e = begun meet.port.link refl
    by_look (Hold since) e = subst (λ v. HoldsOff (255 + start) look.port v) (sym e) (look_is (Hold since) e)
    by_look (Ask c since) e = subst (λ v. HoldsOff (255 + start) look.port v) (sym e) (look_is (Ask c since) e)
    by_look (Request c) e = e
    by_look (Busy u) e = let b : true ≡ false = sym (ap is_busy e) ∙ look_idle n (start_idle n) in absurd cc

    by_test : (t : Bool) → ((keyboard_at layout history starts n).test == 0) ≡ t
        → May (ended_as host (meeting_by t (Some byte) look.port.link meet.port.link) (288 + start) meet)
    by_test true e = by_look look.port.link refl
    by_test false e =
        let l : 0 < (keyboard_at layout history starts n).test = grind (arith, nat_tests, e) in l

    -- a byte that is offered goes, unless one of the named causes holds it
    pub nothing_else : offer (keyboard_at layout history starts n) ≡ Some byte
        → May (meeting_at layout history starts n)
    nothing_else o =
        subst (λ v. May (ended_as host
        (meeting_by ((keyboard_at layout history starts n).test == 0) v look.port.link meet.port.link)
        (288 + start) meet)) (sym o)
        (by_test ((keyboard_at layout history starts n).test == 0) refl)

  -- a tick that holds a byte off
  record Waits (n byte : ℕ) : Type 0 where
    test : (keyboard_at layout history starts n).test ≡ 0
    offered : offer (keyboard_at layout history starts n) ≡ Some byte

  held_rest : (m : Meeting) (k : Keyboard) → IsHeldOff m
      → (comes_first m k ≡ []) × (left m k ≡ waiting k) × (test_left m k ≡ k.test - 1)
  held_rest (Got byte) k h = absurd h
  held_rest Inhibited k h = (refl, refl, refl)
  held_rest Idle k h = absurd h
  held_rest (Sent byte) k h = absurd h
  held_rest Cut k h = (refl, refl, refl)

  waits_next : (n byte : ℕ) → IsHeldOff (meeting_at layout history starts n) → Waits n byte → Waits (suc n) byte
  waits_next n byte h w =
      let k : Keyboard = keyboard_at layout history starts n in
      let more : List ℕ = after_at layout history starts n in
      let x = comes_exactly layout history starts n in
      let r = held_rest (meeting_at layout history starts n) k h in
      let t : k.test - 1 ≡ 0 = let z : k.test ≡ 0 = w.test in omega (arith, z) in
      let is : waiting (keyboard_at layout history starts (suc n)) ≡ waiting k ++ more =
      x.waits ∙ ap (λ v. v ++ (left (meeting_at layout history starts n) k ++ more)) r.0 ∙ ap (λ v. v ++ more) r.1 in
      record {
        test = x.test ∙ r.2 ∙ t;
        offered = offers_first (keyboard_at layout history starts (suc n)) ∙ ap (λ v. slice_get v 0) is
            ∙ get_more (waiting k) more 0 byte (sym (offers_first k) ∙ w.offered);
      }

  waits_on : (n count byte : ℕ) → Waits n byte
      → ((j : ℕ) → n ≤ j → j < count + n → IsHeldOff (meeting_at layout history starts j)) → Waits (count + n) byte
  waits_on n zero byte w h = let z : n ≡ zero + n = omega arith in subst (λ v. Waits v byte) z w
  waits_on n (suc count) byte w h =
      let z : suc (count + n) ≡ suc count + n = omega arith in
      subst (λ v. Waits v byte) z
      (waits_next (count + n) byte (h (count + n) (omega arith) (omega arith))
      (waits_on n count byte w (λ j a b. h j a (omega (arith, b)))))

  goes : (n byte : ℕ) (m : Meeting) → (keyboard_at layout history starts n).test ≡ 0
      → MayMeet layout history starts n byte m → (m ≡ Sent byte) ⊎ (IsHeldOff m ⊎ IsGot m)
  goes n byte (Got command) t h = inr (inr tt)
  goes n byte Inhibited t h = inr (inl tt)
  goes n byte Idle t h = absurd (omega (arith, t, h))
  goes n byte (Sent sent) t h = inl (ap (λ v. Sent v) h)
  goes n byte Cut t h = inr (inl tt)

  -- a byte that was held off for some ticks is offered after them, and goes, is held off, or a byte of the host comes
  pub goes_on_at : (n count byte : ℕ) → (keyboard_at layout history starts n).test ≡ 0
      → offer (keyboard_at layout history starts n) ≡ Some byte
      → ((j : ℕ) → n ≤ j → j < count + n → IsHeldOff (meeting_at layout history starts j))
      → (offer (keyboard_at layout history starts (count + n)) ≡ Some byte)
      × ((meeting_at layout history starts (count + n) ≡ Sent byte)
      ⊎ (IsHeldOff (meeting_at layout history starts (count + n))
      ⊎ IsGot (meeting_at layout history starts (count + n))))
  goes_on_at n count byte t o h =
      let w : Waits (count + n) byte = waits_on n count byte (record { test = t; offered = o }) h in (
        w.offered,
        goes (count + n) byte (meeting_at layout history starts (count + n)) w.test
            (nothing_else (count + n) byte w.offered),
      )

-- a byte that is offered goes, unless the controller holds the clock, has a byte to send, or breaks the frame off
pub nothing_else_holds : (layout : KeyLayout) (history : KeyHistory) (starts : ℕ → ℕ) (n byte : ℕ)
    → offer (keyboard_at layout history starts n) ≡ Some byte
    → MayMeet layout history starts n byte (meeting_at layout history starts n)
nothing_else_holds layout history starts n byte o = nothing_else layout history starts n byte o

-- a byte that was held off for some ticks is offered after them too: it goes, is held off, or a byte of the host comes
pub goes_at_last : (layout : KeyLayout) (history : KeyHistory) (starts : ℕ → ℕ) (n count byte : ℕ)
    → (keyboard_at layout history starts n).test ≡ 0
    → offer (keyboard_at layout history starts n) ≡ Some byte
    → ((j : ℕ) → n ≤ j → j < count + n → IsHeldOff (meeting_at layout history starts j))
    → (offer (keyboard_at layout history starts (count + n)) ≡ Some byte)
    × ((meeting_at layout history starts (count + n) ≡ Sent byte)
    ⊎ (IsHeldOff (meeting_at layout history starts (count + n))
    ⊎ IsGot (meeting_at layout history starts (count + n))))
goes_at_last layout history starts n count byte t o h = goes_on_at layout history starts n count byte t o h
