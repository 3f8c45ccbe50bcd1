-- In each cycle, and in spans: the same.
use Rattle.std.proofs.Common.{◌≡◌, ℕ, suc, zero, ◌+◌, ◌≤◌, ◌<◌, List, Bool, true, false, ◌==◌, refl, ap, ◌∙◌, arith}
use Rattle.std.specs.Prelude.{if◌then◌else◌}
use Rattle.std.specs.declared.option.Option.{Option}
use Rattle.std.proofs.lemmas.Bool.Decides.{nat_tests}
use Rattle.board_terms.specs.declared.event.HostEvent.{HostEvent}
use Rattle.host_turn.specs.Run.{Side, says_lights}
use Rattle.model_controller.specs.declared.UnderWay.{UnderWay}
use Rattle.model_controller.specs.declared.meeting.Meeting.{Meeting}
use Rattle.model_controller.specs.declared.meeting.Meeting.TheVariants.{Got, Inhibited, Idle, Sent, Cut}
use Rattle.model_controller.specs.ByteTime.{Event, Quiet, Begins, Closes, Arrives, IsWhole, byte_cycle, quietly}
use Rattle.model_controller.specs.ByteTime.{sends, carried, meeting_in, sent_or_cut, ended_as}
use Rattle.model_link.specs.Expected.{to_look, to_meeting, from_meeting}
use Rattle.model_link.specs.Laws.{event_at, ended_by, EachCycle, ComesToSpans}

module _ (events : List HostEvent) (start : ℕ) (at : ℕ → Side UnderWay) where
  abbrev IsQuiet : ℕ → ℕ → Type 0
  IsQuiet from n = (o : ℕ) → from ≤ o → o < from + n → at (suc o) ≡ byte_cycle events (o + start) Quiet (at o)

  span : (n from to now : ℕ) → n + from ≡ to → from + start ≡ now → IsQuiet from n → at to ≡ quietly events n now (at from)
  span zero from to now e c h = let z : to ≡ from = omega (arith, e) in ap at z
  span (suc n) from to now e c h =
      let z : suc from + start ≡ suc now = omega (arith, c) in
      span n (suc from) to (suc now) (omega (arith, e)) z (λ o l u. h o (omega (arith, l)) (omega (arith, u)))
      ∙ ap (λ v. quietly events n (suc now) v) (h from (omega arith) (omega arith))
      ∙ ap (λ v. quietly events n (suc now) (byte_cycle events v Quiet (at from))) c

  module _ (rest : ℕ) where
    -- from offset 288 on nothing more comes over the link, but what does at three offsets
    abbrev Carries : Meeting → Type 0
    Carries m =
        (o : ℕ) → 288 ≤ o → o < 609 + rest → at (suc o) ≡ byte_cycle events (o + start) (event_at m o) (at o)

    not_here : (o k : ℕ) → k < o → (o == k) ≡ false
    not_here o k l = grind (arith, nat_tests, l)

    not_yet : (o k : ℕ) → o < k → (o == k) ≡ false
    not_yet o k l = grind (arith, nat_tests, l)

    -- the event of an offset, where it is none of those at which something comes
    none_of_two : (e f : Event) (o : ℕ) → (o == 288) ≡ false → (o == 608) ≡ false
        → (if o == 288 then e else if o == 608 then f else Quiet) ≡ Quiet
    none_of_two e f o a b =
        ap (λ c. if c then e else if o == 608 then f else Quiet) a ∙ ap (λ c. if c then f else Quiet) b

    none_of_three : (e f g : Event) (o : ℕ) → (o == 288) ≡ false → (o == 576) ≡ false → (o == 608) ≡ false
        → (if o == 288 then e else if o == 576 then g else if o == 608 then f else Quiet) ≡ Quiet
    none_of_three e f g o a b c =
        ap (λ v. if v then e else if o == 576 then g else if o == 608 then f else Quiet) a
        ∙ ap (λ v. if v then g else if o == 608 then f else Quiet) b ∙ ap (λ v. if v then f else Quiet) c

    -- nothing comes but at these offsets
    quiet_but : (m : Meeting) (o : ℕ) → (o == 288) ≡ false → (o == 576) ≡ false → (o == 608) ≡ false
        → event_at m o ≡ Quiet
    quiet_but (Got byte) o a b c = none_of_two (Begins false) IsWhole o a c
    quiet_but Inhibited o a b c = refl
    quiet_but Idle o a b c = refl
    quiet_but (Sent byte) o a b c = none_of_three (Begins true) (Arrives byte) Closes o a b c
    quiet_but Cut o a b c = refl

    -- a cycle with its event, and n cycles without one
    stretch : (ev : ℕ → Event) (n from to now : ℕ) (e : Event) → n + suc from ≡ to → to ≤ 609 + rest → 288 ≤ from
        → from + start ≡ now
        → ((o : ℕ) → 288 ≤ o → o < 609 + rest → at (suc o) ≡ byte_cycle events (o + start) (ev o) (at o))
        → ev from ≡ e → ((o : ℕ) → from < o → o < to → ev o ≡ Quiet)
        → at to ≡ quietly events n (suc now) (byte_cycle events now e (at from))
    stretch ev n from to now e c u l d h first quiet =
        let a : at (suc from) ≡ byte_cycle events now e (at from) =
        h from l (omega (arith, c, u)) ∙ ap (λ v. byte_cycle events (from + start) v (at from)) first
        ∙ ap (λ v. byte_cycle events v e (at from)) d in
        let z : suc from + start ≡ suc now = omega (arith, d) in
        span n (suc from) to (suc now) c z (λ o i j.
        h o (omega (arith, i, l)) (omega (arith, j, c, u))
        ∙ ap (λ v. byte_cycle events (o + start) v (at o)) (quiet o (omega (arith, i)) (omega (arith, j, c))))
        ∙ ap (λ v. quietly events n (suc now) v) a

    none : ((o : ℕ) → 288 ≤ o → o < 609 + rest → at (suc o) ≡ byte_cycle events (o + start) Quiet (at o))
        → at 609 ≡ quietly events 321 (288 + start) (at 288)
    none h = span 321 288 609 (288 + start) refl refl (λ o l u. h o l (omega (arith, u)))

    -- the last cycle of a byte
    ends : (m : Meeting) (e : Event) (s : Side UnderWay) → Carries m → event_at m 608 ≡ e → at 608 ≡ s
        → at 609 ≡ byte_cycle events (320 + (288 + start)) e s
    ends m e s h last k =
        let y : 608 + start ≡ 320 + (288 + start) = omega arith in
        h 608 (omega arith) (omega arith) ∙ ap (λ v. byte_cycle events (608 + start) v (at 608)) last
        ∙ ap (λ v. byte_cycle events v e (at 608)) y ∙ ap (λ v. byte_cycle events (320 + (288 + start)) e v) k

    -- a byte of the keyboard, up to its last cycle
    sending : (byte : ℕ) → Carries (Sent byte) → at 608 ≡ sends events (288 + start) (at 288)
    sending byte h =
        let ev : ℕ → Event = event_at (Sent byte) in
        let y : 576 + start ≡ 288 + (288 + start) = omega arith in
        let a : at 576
        ≡ quietly events 287 (suc (288 + start)) (byte_cycle events (288 + start) (Begins true) (at 288)) =
        stretch ev 287 288 576 (288 + start) (Begins true) refl (omega arith) (omega arith) refl h refl (λ o l u.
        quiet_but (Sent byte) o (not_here o 288 l) (not_yet o 576 u) (not_yet o 608 (omega (arith, u)))) in
        let z : suc (288 + (288 + start)) ≡ 289 + (288 + start) = omega arith in
        stretch ev 31 576 608 (288 + (288 + start)) Closes refl (omega arith) (omega arith) y h refl (λ o l u.
        quiet_but (Sent byte) o (not_here o 288 (omega (arith, l))) (not_here o 576 l) (not_yet o 608 u))
        ∙ ap (λ v. quietly events 31 v (byte_cycle events (288 + (288 + start)) Closes (at 576))) z
        ∙ ap (λ v. quietly events 31 (289 + (288 + start)) (byte_cycle events (288 + (288 + start)) Closes v)) a

    -- a byte for it
    handing : (byte : ℕ) → Carries (Got byte)
        → at 608 ≡ quietly events 319 (suc (288 + start)) (byte_cycle events (288 + start) (Begins false) (at 288))
    handing byte h =
        stretch (event_at (Got byte)) 319 288 608 (288 + start) (Begins false) refl (omega arith) (omega arith) refl h
        refl (λ o l u. none_of_two (Begins false) IsWhole o (not_here o 288 l) (not_yet o 608 u))

    carries : (m : Meeting) → Carries m → at 609 ≡ carried events m (288 + start) (at 288)
    carries (Got byte) h =
        ends (Got byte) IsWhole
        (quietly events 319 (suc (288 + start)) (byte_cycle events (288 + start) (Begins false) (at 288)))
        h refl (handing byte h)
    carries Inhibited h = none h
    carries Idle h = none h
    carries (Sent byte) h =
        ends (Sent byte) (Arrives byte) (sends events (288 + start) (at 288)) h refl (sending byte h)
    carries Cut h = none h

    -- the meeting is known from the state before the byte's last cycle
    ends_as : (m : Meeting) → Carries m → ended_by m (at 608).port.link ≡ ended_as events m (288 + start) (at 288)
    ends_as (Got byte) h = refl
    ends_as Inhibited h = refl
    ends_as Idle h = refl
    ends_as (Sent byte) h = ap (λ (s : Side UnderWay). sent_or_cut byte s.port.link) (sending byte h)
    ends_as Cut h = refl

    -- a run in which each cycle does what is said of it comes to what the spans say
    pub each_cycle : (tested : Bool) (offer : Option ℕ) (shown lights end : ℕ) → end ≡ 609 + rest
        → EachCycle events tested offer shown lights start end at
        → ComesToSpans events (meeting_in tested offer (at 256) (at 288)) shown lights start rest end at
    each_cycle tested offer shown lights end e h =
        let m : Meeting = meeting_in tested offer (at 256) (at 288) in
        let unlit : (o : ℕ) → (o == 232) ≡ false → o < 609 + rest
        → at (suc o) ≡ byte_cycle events (o + start) (event_at m o) (at o) = λ o n l.
        h.cycle o (omega (arith, e, l))
        ∙ ap (λ c. byte_cycle events (o + start) (event_at m o) (if c then says_lights (232 + start) shown lights (at o) else at o)) n in
        let before : (o : ℕ) → o < 288 → event_at m o ≡ Quiet = λ o l.
        quiet_but m o (not_yet o 288 l) (not_yet o 576 (omega (arith, l))) (not_yet o 608 (omega (arith, l))) in
        let afterwards : (o : ℕ) → 608 < o → event_at m o ≡ Quiet = λ o l.
        quiet_but m o (not_here o 288 (omega (arith, l))) (not_here o 576 (omega (arith, l))) (not_here o 608 l) in
        let quiet : (o : ℕ) → (o == 232) ≡ false → o < 288 → at (suc o) ≡ byte_cycle events (o + start) Quiet (at o) =
        λ o n l.
        unlit o n (omega (arith, l)) ∙ ap (λ v. byte_cycle events (o + start) v (at o)) (before o l) in
        let lit : Side UnderWay = says_lights (232 + start) shown lights (at 232) in
        let z : 0 + start ≡ start = omega arith in
        let y : 233 + start ≡ suc (232 + start) = omega arith in
        let a : at 232 ≡ quietly events 232 start (at 0) =
        span 232 0 232 start refl z (λ o l u. quiet o (not_yet o 232 (omega (arith, u))) (omega (arith, u))) in
        let b : at 233 ≡ byte_cycle events (232 + start) Quiet lit =
        h.cycle 232 (omega (arith, e)) ∙ ap (λ v. byte_cycle events (232 + start) v lit) (before 232 (omega arith)) in
        let c : at 256 ≡ quietly events 23 (suc (232 + start)) (at 233) =
        span 23 233 256 (suc (232 + start)) refl y
        (λ o l u. quiet o (not_here o 232 (omega (arith, l))) (omega (arith, u))) in
        let d : at 288 ≡ quietly events 32 (256 + start) (at 256) =
        span 32 256 288 (256 + start) refl refl
        (λ o l u. quiet o (not_here o 232 (omega (arith, l))) (omega (arith, u))) in
        let meets : Carries m = λ o l u. unlit o (not_here o 232 (omega (arith, l))) u in
        let f : at 609 ≡ carried events m (288 + start) (at 288) = carries m meets in
        let g : at end ≡ quietly events rest (609 + start) (at 609) =
        span rest 609 end (609 + start) (omega (arith, e)) refl (λ o l u.
        unlit o (not_here o 232 (omega (arith, l))) (omega (arith, u))
        ∙ ap (λ v. byte_cycle events (o + start) v (at o)) (afterwards o (omega (arith, l)))) in
        let k : at 256 ≡ to_look events shown lights start (at 0) =
        c ∙ ap (λ v. quietly events 23 (suc (232 + start)) v) b
        ∙ ap (λ v. quietly events 24 (232 + start) (says_lights (232 + start) shown lights v)) a in
        let later : at 288 ≡ to_meeting events start (to_look events shown lights start (at 0)) =
        d ∙ ap (λ v. to_meeting events start v) k in
        record {
          side = g ∙ ap (λ v. quietly events rest (609 + start) v) f
              ∙ ap (λ v. from_meeting events start rest m v) later;
          meeting = ends_as m meets ∙ ap (λ v. ended_as events m (288 + start) v) later;
        }
