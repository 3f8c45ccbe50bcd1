-- A tick of the self-test in the model, if all that the host does is to mask INT 09h: nothing passes; after it AA is sent.
use Rattle.std.proofs.Common.{◌≡◌, ◌⊎◌, inl, inr, ℕ, suc, zero, ◌+◌, ◌-◌, ◌==◌, not, Bool, true, false}
use Rattle.std.proofs.Common.{List, [], ◌∷◌, ◌++◌, Some, None, refl, ap, sym, ◌∙◌, subst}
use Rattle.std.specs.Prelude.{if◌then◌else◌, map}
use Rattle.std.specs.List.{filter}
use Rattle.std.specs.declared.option.Option.{Option}
use Rattle.board_terms.specs.Edges.{of_place}
use Rattle.board_terms.specs.Matrix.{all_up}
use Rattle.board_terms.specs.declared.event.Edge.{Edge}
use Rattle.board_terms.specs.declared.event.HostAct.TheVariants.{Mask}
use Rattle.board_terms.specs.declared.event.HostEvent.{HostEvent}
use Rattle.model_controller.specs.ByteTime.{Event, Quiet, Begins, Closes, byte_cycle, ended_as, happened_at, is_open, meeting_by}
use Rattle.model_controller.specs.ByteTime.{quietly, sends, sent_or_cut}
use Rattle.model_controller.specs.declared.UnderWay.{UnderWay}
use Rattle.model_controller.specs.declared.meeting.Meeting.{Meeting}
use Rattle.model_controller.specs.declared.meeting.Meeting.TheVariants.{Idle, Sent}
use Rattle.ctl_core.specs.Controller.{at_start}
use Rattle.ctl_link.specs.Link.{broken_off, port_at_start, settled}
use Rattle.ctl_link.specs.declared.link.Link.{Link}
use Rattle.ctl_link.specs.declared.link.Link.TheVariants.{Free, Busy}
use Rattle.host_turn.specs.Cycle.{ends_cycle, host_of, port_by}
use Rattle.host_turn.specs.Host.{Turn, acted_where, bios_turn, is_done}
use Rattle.host_turn.specs.Run.{Side, desk_of, goes_on, says_lights, side_at_start, with_cycled}
use Rattle.model_keyboard.specs.Codes.{Keys, keys_of}
use Rattle.model_keyboard.specs.Keyboard.{Keyboard, at_power_on}
use Rattle.model_keyboard.specs.Layers.{all_layers_after, layered, no_layers}
use Rattle.model_keyboard.specs.Tick.{repeated_if, scanned, tested_if, ticked}
use Rattle.model_keyboard.specs.declared.meeting.Meeting.TheVariants as kbd
use Rattle.layout_reader.specs.Layouts.{KeyLayout, is_fn_place}
use Rattle.model_link.specs.Debounce.{all_open, is_down_at, settles, taken, turned_all}
use Rattle.model_link.specs.Expected.{Whole, from_meeting, meeting_from, to_look, to_meeting, whole_tick}
use Rattle.model_link.specs.Machine.{LayeredKeyboard, keyboard, met_as}
use Rattle.model_link.specs.TickEdges.{by_place, change_at, change_of, is_seen, shown_at, tick_edges}

-- no key has moved, so no edge is seen, and none is taken
none_of_place : (q : Edge → Bool) (k : ℕ) → by_place (λ p. filter q (of_place p [])) k ≡ []
none_of_place q zero = refl
none_of_place q (suc k) = ap (λ v. v ++ []) (none_of_place q k)

-- without edges no tick sees one
pub none_seen : (starts : ℕ → ℕ) (n : ℕ) → tick_edges starts [] n ≡ []
none_seen starts n =
    ap (map change_of) (none_of_place (is_seen starts n) 96)

none_changes : (held now : ℕ → Bool) → ((p : ℕ) → change_at p (held p) (now p) ≡ []) → (k : ℕ) → by_place (shown_at held now) k ≡ []
none_changes held now same zero = refl
none_changes held now same (suc k) = ap (λ v. v ++ change_at k (held k) (now k)) (none_changes held now same k) ∙ same k

same_change : (p : ℕ) (b : Bool) → change_at p b (settles b b b) ≡ []
same_change p true = refl
same_change p false = refl

none_taken : (debounce : Bool) → taken debounce [] all_open ≡ []
none_taken false = refl
none_taken true =
    none_changes (is_down_at all_up) (λ p. settles (is_down_at all_up p) (is_down_at all_up p) (is_down_at all_up p))
    (λ p. same_change p (is_down_at all_up p)) 96

-- the keyboard in its test, and when the test has ended
abbrev pub testing : ℕ → Bool → ℕ → Keyboard
testing rate aa_due test = record (at_power_on rate) { test = test; aa_due = aa_due }

abbrev pub untouched : Keyboard → LayeredKeyboard
untouched k = record { keyboard = k; layers = no_layers; switches = all_open }

-- without edges a tick changes the keyboard alone, and neither layers nor switches
pub ticks_untouched : (layout : KeyLayout) (meeting : Meeting) (k : Keyboard)
    → (keyboard layout).ticked meeting [] (untouched k) ≡ untouched (ticked (keys_of layout) (met_as meeting) [] k)
ticks_untouched layout meeting k =
    ap (λ es. record {
      keyboard = ticked (keys_of layout) (met_as meeting) (layered (is_fn_place layout) es no_layers) k;
      layers = all_layers_after (is_fn_place layout) es no_layers;
      switches = record { read = all_up; settled = turned_all es all_up };
    }) (none_taken layout.debounce)

-- a tick of the test
pub tests_on : (keys : Keys) (rate m j : ℕ) → (m == 0) ≡ false → (m == 1) ≡ false → (j == 0) ≡ false → m - 1 ≡ j
    → ticked keys kbd.Idle [] (testing rate false m) ≡ testing rate false j
tests_on keys rate m j some more left less =
    ap (λ b. scanned keys false [] (tested_if (not b) (testing rate false m))) some
    ∙ ap (λ b. scanned keys false [] (record (testing rate false m) { test = m - 1; aa_due = if b then true else false })) more
    ∙ ap (λ v. scanned keys false [] (testing rate false v)) less
    ∙ ap (λ b. repeated_if b keys false (testing rate false j)) left

-- the last one
pub tests_last : (keys : Keys) (rate : ℕ) → ticked keys kbd.Idle [] (testing rate false 1) ≡ testing rate true 0
tests_last keys rate = refl

-- the link is free, or the keyboard's byte is under way, and may be broken off still or not
abbrev link_of : Option Bool → Link UnderWay
link_of None = Free
link_of (Some b) = Busy (record { from_keyboard = true; flip = None; breakable = b })

-- the PC's side as it was at power-on, but for that and the mask
abbrev still : Option Bool → Bool → ℕ → Side UnderWay
still o masked done = record (side_at_start UnderWay) {
  port = record (port_at_start UnderWay) { link = link_of o };
  masked = masked;
  done = done;
}

abbrev pub IsStill : Option Bool → Side UnderWay → Type 0
IsStill o s = (s ≡ still o false 0) ⊎ (s ≡ still o true 1)

still_link : (o : Option Bool) (s : Side UnderWay) → IsStill o s → s.port.link ≡ link_of o
still_link o s (inl h) = ap (λ (v : Side UnderWay). v.port.link) h
still_link o s (inr h) = ap (λ (v : Side UnderWay). v.port.link) h

module _ (stamp : ℕ) where
  abbrev mask : HostEvent
  mask = record { stamp = stamp; act = Mask }

  abbrev pub events : List HostEvent
  events = mask ∷ []

  -- a cycle after the mask
  goes_masked : (o : Option Bool) (now : ℕ) → goes_on is_open events now (still o true 1) ≡ still o true 1
  unfolding goes_on
  goes_masked None now = refl
  goes_masked (Some true) now = refl
  goes_masked (Some false) now = refl

  -- a cycle before it, or that of the mask
  abbrev turn_by : Option Bool → Bool → ℕ → Turn
  turn_by o done now =
      let first : Turn = acted_where done Mask (host_of (desk_of (still o false 0))) in
      let second : Turn = bios_turn now 0 first.host in
      record { host = second.host; items = first.items ++ second.items }

  abbrev gone_by : Option Bool → Bool → ℕ → Side UnderWay
  gone_by o done now =
      with_cycled now
      (ends_cycle (turn_by o done now) done
      (settled now (broken_off is_open now (port_by (turn_by o done now) (still o false 0).port)))) (still o false 0)

  goes_first : (o : Option Bool) (now : ℕ)
      → goes_on is_open events now (still o false 0) ≡ gone_by o (is_done now (Some mask) at_start) now
  unfolding goes_on
  goes_first o now = refl

  gone_still : (o : Option Bool) (done : Bool) (now : ℕ) → IsStill o (gone_by o done now)
  gone_still None true now = inr refl
  gone_still None false now = inl refl
  gone_still (Some true) true now = inr refl
  gone_still (Some true) false now = inl refl
  gone_still (Some false) true now = inr refl
  gone_still (Some false) false now = inl refl

  -- a cycle in which something may come over the link
  abbrev with_event : ℕ → Event → Side UnderWay → Side UnderWay
  with_event now e m = record m { port = happened_at now e m.port }

  goes_with : (now : ℕ) (e : Event) (from to : Option Bool)
      → ((masked : Bool) (done : ℕ) → with_event now e (still from masked done) ≡ still to masked done)
      → (s : Side UnderWay) → IsStill from s → IsStill to (byte_cycle events now e s)
  unfolding byte_cycle
  goes_with now e from to becomes s (inl h) =
      let is : goes_on is_open events now (with_event now e s) ≡ gone_by to (is_done now (Some mask) at_start) now =
      ap (λ v. goes_on is_open events now (with_event now e v)) h
      ∙ ap (goes_on is_open events now) (becomes false 0) ∙ goes_first to now in
      subst (IsStill to) (sym is) (gone_still to (is_done now (Some mask) at_start) now)
  goes_with now e from to becomes s (inr h) =
      inr (ap (λ v. goes_on is_open events now (with_event now e v)) h
      ∙ ap (goes_on is_open events now) (becomes true 1) ∙ goes_masked to now)

  -- quiet cycles leave the PC's side as at power-on, but for the mask
  pub quiet_still : (o : Option Bool) (n now : ℕ) (s : Side UnderWay) → IsStill o s → IsStill o (quietly events n now s)
  quiet_still o zero now s h = h
  quiet_still o (suc n) now s h =
      quiet_still o n (suc now) (byte_cycle events now Quiet s) (goes_with now Quiet o o (λ m d. refl) s h)

  -- the keyboard's byte is under way up to its end
  sends_still : (now : ℕ) (s : Side UnderWay) → IsStill None s → IsStill (Some false) (sends events now s)
  sends_still now s h =
      let a : Side UnderWay = byte_cycle events now (Begins true) s in
      let b : Side UnderWay = quietly events 287 (suc now) a in
      quiet_still (Some false) 31 (289 + now) (byte_cycle events (288 + now) Closes b)
      (goes_with (288 + now) Closes (Some true) (Some false) (λ m d. refl) b
      (quiet_still (Some true) 287 (suc now) a (goes_with now (Begins true) None (Some true) (λ m d. refl) s h)))

  look_still : (start : ℕ) (s : Side UnderWay) → IsStill None s → IsStill None (to_look events 0 0 start s)
  look_still start s h =
      let a : Side UnderWay = quietly events 232 start s in
      quiet_still None 24 (232 + start) _ (lit (232 + start) a (quiet_still None 232 start s h))
    where
      lit : (now : ℕ) (a : Side UnderWay) → IsStill None a → IsStill None (says_lights now 0 0 a)
      lit now a (inl g) = inl (ap (says_lights now 0 0) g)
      lit now a (inr g) = inr (ap (says_lights now 0 0) g)

  module _ (layout : KeyLayout) (start rest : ℕ) (s : Side UnderWay) (h : IsStill None s) where
    abbrev pub at : Bool → ℕ → Whole LayeredKeyboard
    at aa_due test = record { keys = untouched (testing layout.rate aa_due test); side = s; shown = 0 }

    abbrev look : Side UnderWay
    look = to_look events 0 0 start s

    abbrev meet : Side UnderWay
    meet = to_meeting events start look

    looks : IsStill None look
    looks = look_still start s h

    meets : IsStill None meet
    meets = quiet_still None 32 (256 + start) look looks

    -- as long as the test runs nothing passes
    pub idle : (m : ℕ) → (m == 0) ≡ false → meeting_from (keyboard layout) events start (at false m) ≡ Idle
    idle m some =
        ap (λ b. ended_as events (meeting_by b None look.port.link meet.port.link) (288 + start) meet) some

    begins_idle : (m : ℕ) → (m == 0) ≡ false → meeting_by (m == 0) None look.port.link meet.port.link ≡ Idle
    begins_idle m some = ap (λ b. meeting_by b None look.port.link meet.port.link) some

    -- a tick of the self-test leaves the PC's side as at power-on, but for the mask
    pub idle_side : (m : ℕ) → (m == 0) ≡ false
        → IsStill None (whole_tick (keyboard layout) events [] start rest (at false m)).side
    idle_side m some =
        subst (λ b. IsStill None (from_meeting events start rest b meet)) (sym (begins_idle m some))
        (quiet_still None rest (609 + start) (quietly events 321 (288 + start) meet)
        (quiet_still None 321 (288 + start) meet meets))

    -- then the keyboard's AA is sent
    pub sent : meeting_from (keyboard layout) events start (at true 0) ≡ Sent 0xaa
    sent =
        ap (λ l. ended_as events (meeting_by true (Some 0xaa) l meet.port.link) (288 + start) meet) (still_link None look looks)
        ∙ ap (λ l. ended_as events (meeting_by true (Some 0xaa) Free l) (288 + start) meet) (still_link None meet meets)
        ∙ ap (sent_or_cut 0xaa)
        (still_link (Some false) (sends events (288 + start) meet) (sends_still (288 + start) meet meets))
