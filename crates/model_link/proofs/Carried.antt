-- A byte over the link, piece by piece.
use Rattle.std.proofs.Common.{◌≡◌, ℕ, suc, zero, ◌+◌, List, Bool, true, false, ◌||◌, inl, inr, Some, None, refl, ap, ◌∙◌, arith}
use Rattle.std.specs.Prelude.{if◌then◌else◌}
use Rattle.std.specs.declared.option.Option.{Option}
use Rattle.ctl_core.specs.Commands.{taken}
use Rattle.ctl_core.specs.Controller.{is_disabled}
use Rattle.ctl_core.specs.declared.controller.Did.TheVariants.{Nothing}
use Rattle.ctl_link.specs.declared.link.Link.{Link}
use Rattle.ctl_link.specs.declared.link.Link.TheVariants.{Free, Hold, Ask, Request, Busy}
use Rattle.ctl_link.specs.declared.port.LinkEnd.{LinkEnd}
use Rattle.ctl_link.specs.Link.{Settled, broken_off, is_busy, settled, takes_input, took_where, held_since, moves_link, link_after}
use Rattle.ctl_link.specs.Empty.{is_held}
use Rattle.ctl_link.proofs.Breaks.{breaks_or_not, unbroken}
use Rattle.board_terms.specs.declared.event.HostEvent.{HostEvent}
use Rattle.host_turn.specs.Cycle.{port_by}
use Rattle.host_turn.specs.Run.{Side, goes_on}
use Rattle.host_turn.proofs.Turns.{turn_of}
use Rattle.model_controller.specs.declared.UnderWay.{UnderWay}
use Rattle.model_controller.specs.declared.meeting.Meeting.TheVariants.{Got}
use Rattle.model_controller.specs.declared.meeting.Meeting.{Meeting}
use Rattle.model_controller.specs.ByteTime.{Event, Quiet, Begins, Closes, IsWhole, happened_at, byte_cycle, is_open}
use Rattle.model_controller.specs.ByteTime.{for_keyboard, quietly, sends, carried, meeting_by, meeting_in, ended_as}
use Rattle.model_link.specs.Expected.{to_meeting, from_meeting}
use Rattle.model_link.specs.Passing.{MayBegin}

-- a byte for the keyboard stays under way by itself, and a request stays one
settled_handing : (now : ℕ) (p : LinkEnd UnderWay) → p.link ≡ Busy for_keyboard
    → (settled now (broken_off is_open now p)).port.link ≡ Busy for_keyboard
settled_handing now p e = elim (breaks_or_not is_open now p for_keyboard e) [ inl s ↦ s | inr b ↦ absurd cc ]

settled_request : (now : ℕ) (p : LinkEnd UnderWay) (byte : ℕ) → p.link ≡ Request byte
    → (settled now (broken_off is_open now p)).port.link ≡ Request byte
settled_request now p byte e =
    let s : broken_off is_open now p ≡ p = unbroken is_open now p (ap is_busy e) in
    let t : takes_input now p ≡ record { port = p; did = Nothing } =
    ap (λ l. took_where now (held_since now p.awaits l) (if p.core.output_full then None else taken p.core) p) e in
    ap (λ v. (settled now v).port.link) s
    ∙ ap (λ (r : Settled UnderWay). (moves_link now r.port).link) t
    ∙ ap (λ l. link_after now (p.core.output_full || is_disabled p.core) p.awaits l) e

module _ (events : List HostEvent) where
  cycle_handing : (now : ℕ) (m : Side UnderWay) → m.port.link ≡ Busy for_keyboard
      → (byte_cycle events now Quiet m).port.link ≡ Busy for_keyboard
  unfolding byte_cycle goes_on
  cycle_handing now m e = settled_handing now (port_by (turn_of events now m) m.port) e

  cycle_request : (now : ℕ) (m : Side UnderWay) (byte : ℕ) → m.port.link ≡ Request byte
      → (byte_cycle events now Quiet m).port.link ≡ Request byte
  unfolding byte_cycle goes_on
  cycle_request now m byte e = settled_request now (port_by (turn_of events now m) m.port) byte e

  -- in quiet cycles a byte for the keyboard stays under way
  pub quiet_handing : (n now : ℕ) (m : Side UnderWay) → m.port.link ≡ Busy for_keyboard
      → (quietly events n now m).port.link ≡ Busy for_keyboard
  quiet_handing zero now m e = e
  quiet_handing (suc n) now m e = quiet_handing n (suc now) (byte_cycle events now Quiet m) (cycle_handing now m e)

  -- in quiet cycles a byte that is requested stays so
  pub quiet_request : (n now : ℕ) (m : Side UnderWay) (byte : ℕ) → m.port.link ≡ Request byte
      → (quietly events n now m).port.link ≡ Request byte
  quiet_request zero now m byte e = e
  quiet_request (suc n) now m byte e =
      quiet_request n (suc now) (byte_cycle events now Quiet m) byte (cycle_request now m byte e)

  -- what comes over the link, and then its cycle goes on
  abbrev pub with_event : ℕ → Event → Side UnderWay → Side UnderWay
  with_event now event m = record m { port = happened_at now event m.port }

  begun : (n now : ℕ) (event : Event) (m : Side UnderWay)
      → quietly events (suc n) now (with_event now event m)
      ≡ quietly events n (suc now) (byte_cycle events now event m)
  unfolding byte_cycle
  begun n now event m = refl

  -- the event, its cycle, and n more
  goes : (n k now to : ℕ) (event : Event) (m m1 m2 m3 : Side UnderWay) → k ≡ suc n → now ≡ to → m1 ≡ m
      → m2 ≡ with_event now event m1 → m3 ≡ quietly events k now m2
      → m3 ≡ quietly events n (suc to) (byte_cycle events to event m)
  goes n k now to event m m1 m2 m3 ek en e1 e2 e3 =
      e3 ∙ ap (λ v. quietly events v now m2) ek ∙ ap (λ v. quietly events (suc n) now v) e2 ∙ begun n now event m1
      ∙ ap (λ v. quietly events n (suc now) (byte_cycle events now event v)) e1
      ∙ ap (λ v. quietly events n (suc v) (byte_cycle events v event m)) en

  -- a byte of the keyboard, up to where it ends, and its end
  pub sent_by : (i k now to : ℕ) (m m1 m2 m3 m4 : Side UnderWay) → i ≡ 288 → k ≡ 32 → to ≡ 288 + now
      → m1 ≡ with_event now (Begins true) m → m2 ≡ quietly events i now m1
      → m3 ≡ with_event to Closes m2 → m4 ≡ quietly events k to m3 → m4 ≡ sends events now m
  sent_by i k now to m m1 m2 m3 m4 ei ek et e1 e2 e3 e4 =
      let a : m2 ≡ quietly events 287 (suc now) (byte_cycle events now (Begins true) m) =
      goes 287 i now now (Begins true) m m m1 m2 ei refl refl e1 e2 in
      let b : Side UnderWay = quietly events 287 (suc now) (byte_cycle events now (Begins true) m) in
      let z : suc (288 + now) ≡ 289 + now = omega arith in
      goes 31 k to (288 + now) Closes b m2 m3 m4 ek et a e3 e4
      ∙ ap (λ v. quietly events 31 v (byte_cycle events (288 + now) Closes b)) z

  -- what comes over the link, and then the rest of its cycle, is the cycle
  pub ends_by : (j now to : ℕ) (event : Event) (m m1 m2 m3 : Side UnderWay) → j ≡ 1 → to ≡ 320 + now → m1 ≡ m
      → m2 ≡ with_event to event m1 → m3 ≡ quietly events j to m2 → m3 ≡ byte_cycle events (320 + now) event m
  ends_by j now to event m m1 m2 m3 ej et e1 e2 e3 = goes 0 j to (320 + now) event m m1 m2 m3 ej et e1 e2 e3

  -- a byte for the keyboard
  pub handed_by : (n j now to byte : ℕ) (m m1 m2 m3 m4 : Side UnderWay) → n ≡ 320 → j ≡ 1 → to ≡ 320 + now
      → m1 ≡ with_event now (Begins false) m → m2 ≡ quietly events n now m1
      → m3 ≡ with_event to IsWhole m2 → m4 ≡ quietly events j to m3 → m4 ≡ carried events (Got byte) now m
  handed_by n j now to byte m m1 m2 m3 m4 en ej et e1 e2 e3 e4 =
      let a : m2 ≡ quietly events 319 (suc now) (byte_cycle events now (Begins false) m) =
      goes 319 n now now (Begins false) m m m1 m2 en refl refl e1 e2 in
      ends_by j now to IsWhole (quietly events 319 (suc now) (byte_cycle events now (Begins false) m)) m2 m3 m4
      ej et a e3 e4

-- a meeting in which a byte passes finds a link that isn't held
pub may_begin : (tested : Bool) (offer : Option ℕ) (earlier later : Link UnderWay)
    → ((byte : ℕ) → earlier ≡ Request byte → later ≡ Request byte)
    → MayBegin (meeting_by tested offer earlier later) later
may_begin false offer earlier later h = tt
may_begin true None Free later h = tt
may_begin true (Some byte) Free Free h = refl
may_begin true (Some byte) Free (Hold since) h = tt
may_begin true (Some byte) Free (Ask b since) h = tt
may_begin true (Some byte) Free (Request b) h = tt
may_begin true (Some byte) Free (Busy u) h = tt
may_begin true offer (Hold since) later h = tt
may_begin true offer (Ask byte since) later h = tt
may_begin true offer (Request byte) later h = ap is_held (h byte refl)
may_begin true offer (Busy u) later h = tt

-- a tick from its first look on, piece by piece: the meeting, and what it comes to
module _ (events : List HostEvent) (tested : Bool) (offer : Option ℕ) (start rest : ℕ) (s s1 s2 s3 : Side UnderWay)
    (earlier later : Link UnderWay) (begins m : Meeting) (i k a b c : ℕ) (ei : i ≡ 32) (ea : a ≡ 256 + start)
    (eb : b ≡ 288 + start) (ek : k ≡ rest) (ec : c ≡ 609 + start) (le : earlier ≡ s.port.link)
    (h1 : s1 ≡ quietly events i a s) (ll : later ≡ s1.port.link) (hb : begins ≡ meeting_by tested offer earlier later)
  where
    at_meeting : s1 ≡ to_meeting events start s
    at_meeting = h1 ∙ ap (λ v. quietly events v a s) ei ∙ ap (λ v. quietly events 32 v s) ea

    begins_so : begins ≡ meeting_in tested offer s (to_meeting events start s)
    begins_so =
        hb ∙ ap (λ v. meeting_by tested offer v later) le
        ∙ ap (λ v. meeting_by tested offer s.port.link v) (ll ∙ ap (λ (v : Side UnderWay). v.port.link) at_meeting)

    -- the meeting that the parts of a tick give is the tick's
    pub meets_so : m ≡ ended_as events begins b s1
        → m ≡ ended_as events (meeting_in tested offer s (to_meeting events start s)) (288 + start)
        (to_meeting events start s)
    meets_so h =
        h ∙ ap (λ v. ended_as events v b s1) begins_so
        ∙ ap (λ v. ended_as events (meeting_in tested offer s (to_meeting events start s)) v s1) eb
        ∙ ap (λ v. ended_as events (meeting_in tested offer s (to_meeting events start s)) (288 + start) v) at_meeting

    -- the side that the parts of a tick give is the one at the tick's end
    pub comes_so : s2 ≡ carried events begins b s1 → s3 ≡ quietly events k c s2
        → s3 ≡ from_meeting events start rest (meeting_in tested offer s (to_meeting events start s))
        (to_meeting events start s)
    comes_so h g =
        g ∙ ap (λ v. quietly events v c s2) ek ∙ ap (λ v. quietly events rest v s2) ec
        ∙ ap (λ v. quietly events rest (609 + start) v)
        (h ∙ ap (λ v. carried events v b s1) begins_so
        ∙ ap (λ v. carried events (meeting_in tested offer s (to_meeting events start s)) v s1) eb
        ∙ ap (λ v. carried events (meeting_in tested offer s (to_meeting events start s)) (288 + start) v) at_meeting)
