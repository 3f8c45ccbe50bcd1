-- A byte arrives where the keyboard takes it away, and nowhere else.
use Rattle.std.proofs.Common.{◌≡◌, ℕ, ◌+◌, List, Bool, true, false, ◌==◌, ◌⊎◌, inl, inr, Some, None, refl, ap, sym, ◌∙◌, subst}
use Rattle.std.specs.Prelude.{if◌then◌else◌}
use Rattle.std.specs.declared.option.Option.{Option}
use Rattle.std.proofs.lemmas.Bool.{eqb-true}
use Rattle.board_terms.specs.declared.event.HostEvent.{HostEvent}
use Rattle.model_controller.specs.declared.UnderWay.{UnderWay}
use Rattle.host_turn.specs.Run.{Side}
use Rattle.model_controller.specs.ByteTime.{Event, Quiet, Begins, Closes, Arrives, IsWhole, arrived_in, meeting_by, sends, sent_or_cut, ended_as}
use Rattle.model_controller.specs.declared.meeting.Meeting.{Meeting}
use Rattle.model_controller.specs.declared.meeting.Meeting.TheVariants.{Got, Inhibited, Idle, Sent, Cut}
use Rattle.ctl_link.specs.Link.{is_busy}
use Rattle.ctl_link.specs.declared.link.Link.{Link}
use Rattle.ctl_link.specs.declared.link.Link.TheVariants.{Free, Hold, Ask, Request, Busy}
use Rattle.ctl_link.specs.declared.port.LinkEnd.{LinkEnd}
use Rattle.layout_reader.specs.Layouts.{KeyLayout, is_fn_place}
use Rattle.model_keyboard.specs.declared.edge.TickEdge.{TickEdge}
use Rattle.model_keyboard.specs.Layers.{layered}
use Rattle.model_keyboard.specs.Codes.{keys_of}
use Rattle.model_keyboard.specs.Keyboard.{offer}
use Rattle.model_keyboard.specs.Tick.{ticked}
use Rattle.model_keyboard.proofs.Adds.{cut_is_offered}
use Rattle.model_link.specs.Debounce.{taken}
use Rattle.model_link.specs.Machine.{LayeredKeyboard, keyboard, met_as}
use Rattle.model_link.specs.Expected.{Whole, to_look, to_meeting, begins_from, meeting_from, whole_tick}
use Rattle.model_link.specs.Laws.{event_at}
use Rattle.law_quiet_log.specs.Once.{ArrivalLaw}

-- whether a byte arrives
is_arrival : Event → Bool
is_arrival Quiet = false
is_arrival (Begins from) = false
is_arrival Closes = false
is_arrival (Arrives byte) = true
is_arrival IsWhole = false

-- what is no arrival isn't the arrival of a byte
no_arrival : (e : Event) (byte : ℕ) (X : Type 0) → is_arrival e ≡ false → e ≡ Arrives byte → X
unfolding is_arrival
no_arrival e byte X h g = let k : true ≡ false = sym (ap is_arrival g) ∙ h in absurd cc

-- the byte that arrives
byte_in : Event → ℕ
byte_in Quiet = 0
byte_in (Begins from) = 0
byte_in Closes = 0
byte_in (Arrives byte) = byte
byte_in IsWhole = 0

-- by what begins, and by its offsets
only_arrival : (begins : Meeting) (offset byte : ℕ) → event_at begins offset ≡ Arrives byte
    → (begins ≡ Sent byte) × (offset ≡ 608)
unfolding is_arrival byte_in
only_arrival (Got b) offset byte h =
    elim (offset == 288) as (λ c. (if c then Begins false else if offset == 608 then IsWhole else Quiet) ≡ Arrives byte
    → (Got b ≡ Sent byte) × (offset ≡ 608)) [
      | true ↦ λ g. no_arrival (Begins false) byte _ refl g
      | false ↦ λ g. elim (offset == 608) as (λ c. (if c then IsWhole else Quiet) ≡ Arrives byte
          → (Got b ≡ Sent byte) × (offset ≡ 608)) [
            | true ↦ λ f. no_arrival IsWhole byte _ refl f
            | false ↦ λ f. no_arrival Quiet byte _ refl f
          ] g
    ] h
only_arrival Inhibited offset byte h = no_arrival Quiet byte _ refl h
only_arrival Idle offset byte h = no_arrival Quiet byte _ refl h
only_arrival (Sent b) offset byte h =
    elim (offset == 288) as (λ c.
    (if c then Begins true else if offset == 576 then Closes else if offset == 608 then Arrives b else Quiet)
    ≡ Arrives byte → (Sent b ≡ Sent byte) × (offset ≡ 608)) [
      | true ↦ λ g. no_arrival (Begins true) byte _ refl g
      | false ↦ λ g.
          elim (offset == 576) as (λ c.
          (if c then Closes else if offset == 608 then Arrives b else Quiet) ≡ Arrives byte
          → (Sent b ≡ Sent byte) × (offset ≡ 608)) [
            | true ↦ λ f. no_arrival Closes byte _ refl f
            | false ↦ λ f.
                elim (offset == 608) as (λ c. (offset == 608) ≡ c → (if c then Arrives b else Quiet) ≡ Arrives byte
                → (Sent b ≡ Sent byte) × (offset ≡ 608)) [
                  | true ↦ λ e a. (ap (λ v. Sent (byte_in v)) a, eqb-true offset 608 e)
                  | false ↦ λ e a. no_arrival Quiet byte _ refl a
                ] refl f
          ] g
    ] h
only_arrival Cut offset byte h = no_arrival Quiet byte _ refl h

-- a link without a byte under way
nothing_arrives : (now byte : ℕ) (l : Link UnderWay) (p : LinkEnd UnderWay) → is_busy l ≡ false
    → (arrived_in now byte l p ≡ p) × (sent_or_cut byte l ≡ Cut)
nothing_arrives now byte Free p h = (refl, refl)
nothing_arrives now byte (Hold since) p h = (refl, refl)
nothing_arrives now byte (Ask b since) p h = (refl, refl)
nothing_arrives now byte (Request b) p h = (refl, refl)
nothing_arrives now byte (Busy u) p h = absurd cc

-- a byte arrives in one cycle of a tick alone, if it is still under way there, and is sent then, or cut
pub arrival_law : ArrivalLaw
arrival_law = record {
  arrives = λ byte. refl;
  only = only_arrival;
  under_way = λ now byte p u e. (ap (λ l. arrived_in now byte l p) e, ap (λ l. sent_or_cut byte l) e);
  broken_off = λ now byte p e. nothing_arrives now byte p.link p e;
}

-- what begins was offered, once the test had ended
begun_offered : (tested : Bool) (offer : Option ℕ) (earlier later : Link UnderWay) (byte : ℕ)
    → meeting_by tested offer earlier later ≡ Sent byte → (tested ≡ true) × (offer ≡ Some byte)
begun_offered false o earlier later byte h = absurd cc
begun_offered true None Free later byte h = absurd cc
begun_offered true (Some b) Free Free byte h = let e : b ≡ byte = cc in (refl, ap (λ v. Some v) e)
begun_offered true (Some b) Free (Hold since) byte h = absurd cc
begun_offered true (Some b) Free (Ask c since) byte h = absurd cc
begun_offered true (Some b) Free (Request c) byte h = absurd cc
begun_offered true (Some b) Free (Busy u) byte h = absurd cc
begun_offered true o (Hold since) later byte h = absurd cc
begun_offered true o (Ask c since) later byte h = absurd cc
begun_offered true o (Request c) later byte h = absurd cc
begun_offered true o (Busy u) later byte h = absurd cc

-- what is sent had begun
sent_begun : (l : Link UnderWay) (b byte : ℕ) → sent_or_cut b l ≡ Sent byte → Sent b ≡ Sent byte
sent_begun Free b byte h = absurd cc
sent_begun (Hold since) b byte h = absurd cc
sent_begun (Ask c since) b byte h = absurd cc
sent_begun (Request c) b byte h = absurd cc
sent_begun (Busy u) b byte h = h

begun : (events : List HostEvent) (begins : Meeting) (now byte : ℕ) (m : Side UnderWay)
    → ended_as events begins now m ≡ Sent byte → begins ≡ Sent byte
begun events (Got b) now byte m h = absurd cc
begun events Inhibited now byte m h = absurd cc
begun events Idle now byte m h = absurd cc
begun events (Sent b) now byte m h = sent_begun (sends events now m).port.link b byte h
begun events Cut now byte m h = absurd cc

-- so it is in the model of a layout
pub arrives_as_offered : (layout : KeyLayout) (events : List HostEvent) (start byte : ℕ) (w : Whole LayeredKeyboard)
    → meeting_from (keyboard layout) events start w ≡ Sent byte → (w.keys.keyboard.test ≡ 0) × (offer w.keys.keyboard ≡ Some byte)
arrives_as_offered layout events start byte w h =
    let earlier : Side UnderWay = to_look events w.shown w.keys.keyboard.lights start w.side in
    let later : Side UnderWay = to_meeting events start earlier in
    let b : begins_from (keyboard layout) events start w ≡ Sent byte =
    begun events (begins_from (keyboard layout) events start w) (288 + start) byte later h in
    let o = begun_offered (w.keys.keyboard.test == 0) (offer w.keys.keyboard) earlier.port.link later.port.link byte b in
    (eqb-true w.keys.keyboard.test 0 o.0, o.1)

-- as long as the test runs nothing passes
idle_in_test : (tested : Bool) (offer : Option ℕ) (earlier later : Link UnderWay)
    → (tested ≡ true) ⊎ (meeting_by tested offer earlier later ≡ Idle)
idle_in_test true o earlier later = inl refl
idle_in_test false o earlier later = inr refl

-- while the self-test goes on nothing passes in a tick
pub tested_or_idle : (layout : KeyLayout) (events : List HostEvent) (start : ℕ) (w : Whole LayeredKeyboard)
    → (w.keys.keyboard.test ≡ 0) ⊎ (meeting_from (keyboard layout) events start w ≡ Idle)
tested_or_idle layout events start w =
    let earlier : Side UnderWay = to_look events w.shown w.keys.keyboard.lights start w.side in
    let later : Side UnderWay = to_meeting events start earlier in
    elim (idle_in_test (w.keys.keyboard.test == 0) (offer w.keys.keyboard) earlier.port.link later.port.link) [
      | inl t ↦ inl (eqb-true w.keys.keyboard.test 0 t)
      | inr i ↦ inr (ap (λ v. ended_as events v (288 + start) later) i)
    ]

-- what was cut off waits on
pub cut_offered : (layout : KeyLayout) (events : List HostEvent) (edges : List (ℕ × Bool)) (start rest byte : ℕ)
    (w : Whole LayeredKeyboard) → meeting_from (keyboard layout) events start w ≡ Cut → offer w.keys.keyboard ≡ Some byte
    → offer (whole_tick (keyboard layout) events edges start rest w).keys.keyboard ≡ Some byte
cut_offered layout events edges start rest byte w c o =
    let edges' : List TickEdge = layered (is_fn_place layout) (taken layout.debounce edges w.keys.switches) w.keys.layers in
    subst (λ m. offer (ticked (keys_of layout) (met_as m) edges' w.keys.keyboard) ≡ Some byte) (sym c)
    (elim (tested_or_idle layout events start w) [
      | inl t ↦ cut_is_offered (keys_of layout) edges' w.keys.keyboard byte t o
      | inr i ↦ let e : Cut ≡ Idle = sym c ∙ i in absurd cc
    ])
