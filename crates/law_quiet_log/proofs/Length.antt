-- A tick says four items at most beside those of the host's events, so a log has so many at most.
use Rattle.std.proofs.Common.{◌≡◌, ℕ, suc, zero, ◌+◌, ◌-◌, ◌*◌, ◌≤◌, List, [], ◌∷◌, length}
use Rattle.std.proofs.Common.{Bool, true, false, ◌==◌, Some, None, refl, ap, arith}
use Rattle.std.specs.Prelude.{if◌then◌else◌}
use Rattle.std.specs.declared.option.Option.{Option}
use Rattle.std.specs.Option.{option_map_or}
use Rattle.std.proofs.lemmas.List.{length-append, length-map}
use Rattle.board_terms.specs.declared.event.Edge.{Edge}
use Rattle.board_terms.specs.declared.event.HostEvent.{HostEvent}
use Rattle.board_terms.specs.Cadence.{IsLast, KeepsCadenceTo, listed, tick_of}
use Rattle.ctl_core.specs.Controller.{ControllerState, asks_again, gave_up, put_out}
use Rattle.ctl_core.specs.declared.translation.Translated.{Translated}
use Rattle.ctl_core.specs.Translation.{translation, translates}
use Rattle.ctl_link.specs.declared.link.Link.{Link}
use Rattle.ctl_link.specs.declared.link.Link.TheVariants.{Free, Hold, Ask, Request, Busy}
use Rattle.ctl_link.specs.declared.port.LinkEnd.{LinkEnd}
use Rattle.ctl_link.specs.Link.{core_after}
use Rattle.pc_tables.specs.declared.item.Item.TheVariants.{Lights}
use Rattle.host_turn.specs.declared.stamped.Stamped.{Stamped}
use Rattle.host_turn.specs.Run.{Side, side_at_start, lights_said, says_lights}
use Rattle.model_controller.specs.declared.UnderWay.{UnderWay}
use Rattle.model_controller.specs.declared.meeting.Meeting.{Meeting}
use Rattle.model_controller.specs.declared.meeting.Meeting.TheVariants.{Got, Inhibited, Idle, Sent, Cut}
use Rattle.model_controller.specs.ByteTime.{Event, Quiet, Begins, Closes, Arrives, IsWhole, is_open, arriving, arrived_in, happened_at}
use Rattle.model_controller.specs.ByteTime.{byte_cycle, quietly, sends, carried}
use Rattle.model_link.specs.Machine.{KeyboardMachine, keyboard}
use Rattle.model_link.specs.TickEdges.{tick_edges}
use Rattle.model_link.specs.Expected.{Whole, to_look, to_meeting, begins_from, whole_tick, whole_at, lines}
use Rattle.law_quiet_log.specs.Length.{LengthLaw, LimitLaw}
use Rattle.law_quiet_log.proofs.Weight.{of_input, weight, output_most, IsWithin, goes_within}

-- a byte of the keyboard that is received fills the output buffer at most
put_or_not : (o : Option ℕ) (s : ControllerState) → (option_map_or (λ byte. put_out byte s) o s).input ≡ s.input
put_or_not None s = refl
put_or_not (Some byte) s = refl

wrong : (b : Bool) (s : ControllerState) → (if b then record s { resends = s.resends + 1 } else gave_up s).input ≡ s.input
wrong true s = refl
wrong false s = refl

same_input : (o : Option ℕ) (s : ControllerState) → (core_after o s).input ≡ s.input
same_input (Some byte) s =
    let t : Translated = translation (translates s) s.break_mark byte in
    put_or_not t.byte (record s { break_mark = t.mark; resends = 0 })
same_input None s = wrong (asks_again s) s

received_most : (o : Option ℕ) (s : ControllerState) → weight (core_after o s) ≤ 3 + weight s
received_most o s =
    let i : of_input (core_after o s).input ≡ of_input s.input = ap of_input (same_input o s) in
    let m = output_most (core_after o s).output_full in
    omega (arith, i, m)

arrives_most : (now byte : ℕ) (l : Link UnderWay) (p : LinkEnd UnderWay) → weight (arrived_in now byte l p).core ≤ 3 + weight p.core
arrives_most now byte Free p = omega arith
arrives_most now byte (Hold since) p = omega arith
arrives_most now byte (Ask asked since) p = omega arith
arrives_most now byte (Request asked) p = omega arith
arrives_most now byte (Busy u) p = received_most (arriving u.flip byte) p.core

-- what comes over the link brings so much
abbrev brought : Event → ℕ
brought Quiet = 0
brought (Begins from) = 0
brought Closes = 0
brought (Arrives byte) = 3
brought IsWhole = 0

happens_most : (now : ℕ) (e : Event) (p : LinkEnd UnderWay) → weight (happened_at now e p).core ≤ brought e + weight p.core
happens_most now Quiet p = omega arith
happens_most now (Begins true) p = omega arith
happens_most now (Begins false) p = omega arith
happens_most now Closes p = omega arith
happens_most now (Arrives byte) p = arrives_most now byte p.link p
happens_most now IsWhole p = omega arith

-- more is within more
more : (events : List HostEvent) (j k : ℕ) (m : Side UnderWay) → IsWithin events k m → IsWithin events (j + k) m
more events j k m h = let s = h.said in record { said = omega (arith, s); done = h.done }

module _ (events : List HostEvent) where
  cycle_within : (now : ℕ) (e : Event) (k j : ℕ) (m : Side UnderWay) → brought e + k ≤ j → IsWithin events k m
      → IsWithin events j (byte_cycle events now e m)
  unfolding byte_cycle
  cycle_within now e k j m b h =
      let s = h.said in
      let w = happens_most now e m.port in
      goes_within is_open events now j (record m { port = happened_at now e m.port })
      (record { said = omega (arith, s, w, b); done = h.done })

  quietly_within : (n now k : ℕ) (m : Side UnderWay) → IsWithin events k m → IsWithin events k (quietly events n now m)
  quietly_within zero now k m h = h
  quietly_within (suc n) now k m h =
      quietly_within n (suc now) k (byte_cycle events now Quiet m) (cycle_within now Quiet k k m (omega arith) h)

  sends_within : (now k : ℕ) (m : Side UnderWay) → IsWithin events k m → IsWithin events k (sends events now m)
  sends_within now k m h =
      quietly_within 31 (289 + now) k _
      (cycle_within (288 + now) Closes k k _ (omega arith)
      (quietly_within 287 (suc now) k _ (cycle_within now (Begins true) k k m (omega arith) h)))

  carried_within : (begins : Meeting) (now k : ℕ) (m : Side UnderWay) → IsWithin events k m
      → IsWithin events (3 + k) (carried events begins now m)
  carried_within (Got byte) now k m h =
      more events 3 k _
      (cycle_within (320 + now) IsWhole k k _ (omega arith)
      (quietly_within 319 (suc now) k _ (cycle_within now (Begins false) k k m (omega arith) h)))
  carried_within Inhibited now k m h = more events 3 k _ (quietly_within 321 now k m h)
  carried_within Idle now k m h = more events 3 k _ (quietly_within 321 now k m h)
  carried_within (Sent byte) now k m h = cycle_within (320 + now) (Arrives byte) k (3 + k) _ (omega arith) (sends_within now k m h)
  carried_within Cut now k m h = more events 3 k _ (quietly_within 321 now k m h)

  -- the lights are one item at most
  lights_most : (same : Bool) (item : Stamped) → length (if same then [] else item ∷ []) ≤ 1
  lights_most true item = omega arith
  lights_most false item = omega arith

  lights_within : (now shown lights k : ℕ) (m : Side UnderWay) → IsWithin events k m
      → IsWithin events (1 + k) (says_lights now shown lights m)
  lights_within now shown lights k m h =
      let s = h.said in
      let a = length-append m.log (lights_said now shown lights) in
      let l : length (lights_said now shown lights) ≤ 1 =
      lights_most (lights == shown) (record { cycle = now; item = Lights lights }) in
      record { said = omega (arith, s, a, l); done = h.done }

  -- a tick brings four
  tick_within : {S : Type 0} (kb : KeyboardMachine S) (edges : List (ℕ × Bool)) (start rest k : ℕ) (w : Whole S) → IsWithin events k w.side
      → IsWithin events (4 + k) (whole_tick kb events edges start rest w).side
  tick_within kb edges start rest k w h =
      let l : IsWithin events (1 + k) (to_look events w.shown (kb.lights w.keys) start w.side) =
      quietly_within 24 (232 + start) (1 + k) _
      (lights_within (232 + start) w.shown (kb.lights w.keys) k _ (quietly_within 232 start k w.side h)) in
      let m : IsWithin events (1 + k) (to_meeting events start (to_look events w.shown (kb.lights w.keys) start w.side)) =
      quietly_within 32 (256 + start) (1 + k) _ l in
      let c : IsWithin events (3 + (1 + k)) (carried events (begins_from kb events start w) (288 + start)
      (to_meeting events start (to_look events w.shown (kb.lights w.keys) start w.side))) =
      carried_within (begins_from kb events start w) (288 + start) (1 + k) _ m in
      let s = c.said in
      quietly_within rest (609 + start) (4 + k) _ (record { said = omega (arith, s); done = c.done })

  -- after n ticks the log has at most four items for each of them and four for each event that is done
  pub run_within : {S : Type 0} (kb : KeyboardMachine S) (edges : List Edge) (starts : ℕ → ℕ) (n : ℕ)
      → IsWithin events (4 * n) (whole_at kb edges events starts n).side
  run_within kb edges starts zero =
      quietly_within (starts 0) 4096 0 (side_at_start UnderWay) (record { said = omega arith; done = omega arith })
  run_within kb edges starts (suc n) =
      let h = tick_within kb (tick_edges starts edges n) (4096 + starts n) (starts (suc n) - starts n - 609) (4 * n)
      (whole_at kb edges events starts n) (run_within kb edges starts n) in
      let s = h.said in
      record { said = omega (arith, s); done = h.done }

-- a log has at most four items for each tick and four for each event of the host
pub length_law : LengthLaw
length_law layout history starts =
    let h = run_within history.host (keyboard layout) history.edges (listed starts) (length starts - 1) in
    let s = h.said in
    let d = h.done in
    let n : ℕ = length starts - 1 in
    let log : List Stamped = (whole_at (keyboard layout) history.edges history.host (listed starts) n).side.log in
    let m : length (lines (listed starts) n log) ≡ length log =
    length-map log (λ (s : Stamped). record { tick = tick_of (listed starts) n s.cycle; item = s.item }) in
    omega (arith, s, d, m)

-- 240,000,000 cycles are fewer than 117,189 ticks
ticks_most : (starts : ℕ → ℕ) (stop n : ℕ) → stop ≤ 240000000 → KeepsCadenceTo starts n → IsLast starts stop n → n ≤ 117188
ticks_most starts stop zero e c l = omega arith
ticks_most starts stop (suc n) e c l =
    let b = l.before n (omega arith) in
    let s = (c n (omega arith)).least in
    omega (arith, e, b, s)

-- the log of an accepted history has fewer than 800,000 items
pub limit_law : LimitLaw
limit_law layout history starts a c l =
    let n = ticks_most (listed starts) history.end (length starts - 1) a.end_in_range c l in
    let e = a.number_in_range in
    let k = length_law layout history starts in
    omega (arith, n, e, k)
