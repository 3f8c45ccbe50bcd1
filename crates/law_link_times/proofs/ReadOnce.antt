-- Over ticks: what was read and what is unread is what the controller put out for the bytes that arrived.
use Rattle.std.proofs.Common.{◌≡◌, ℕ, suc, zero, ◌+◌, ◌-◌, List, [], ◌∷◌, ◌++◌, Bool, true, false, ◌==◌, Some, None, refl, ap, sym, ◌∙◌, subst, arith}
use Rattle.std.proofs.Common.{append_assoc, append-nil}
use Rattle.std.specs.Prelude.{if◌then◌else◌, slice_get, All}
use Rattle.std.specs.List.{flat_map}
use Rattle.std.specs.declared.option.Option.{Option}
use Rattle.std.proofs.lemmas.Grind.{flat_map-append}
use Rattle.std.proofs.lemmas.List.Folds.{flat_map-map}
use Rattle.std.proofs.lemmas.Option.{get_or_from_slice_get, slice_get_within}
use Rattle.bits.specs.Bits.{has_bit}
use Rattle.board_terms.specs.Cadence.{tick_of}
use Rattle.board_terms.specs.declared.event.HostAct.{HostAct}
use Rattle.board_terms.specs.declared.event.HostAct.TheVariants.{Write60, Write64, Read60, Mask, Unmask, Take, Status, Flip}
use Rattle.board_terms.specs.declared.event.HostEvent.{HostEvent}
use Rattle.ctl_core.specs.Controller.{ControllerState}
use Rattle.ctl_core.specs.Translation.{arrived as received_as, translates, translation}
use Rattle.ctl_core.specs.declared.translation.Translated.{Translated}
use Rattle.ctl_link.specs.declared.link.Link.{Link}
use Rattle.ctl_link.specs.declared.link.Link.TheVariants.{Free, Hold, Ask, Request, Busy}
use Rattle.ctl_link.specs.Link.{received}
use Rattle.host_turn.specs.declared.stamped.Stamped.{Stamped}
use Rattle.host_turn.specs.Run.{Side, lights_said, says_lights, side_at_start}
use Rattle.pc_tables.specs.declared.item.Item.TheVariants.{Lights}
use Rattle.model_controller.specs.declared.UnderWay.{UnderWay}
use Rattle.model_controller.specs.declared.meeting.Meeting.{Meeting}
use Rattle.model_controller.specs.declared.meeting.Meeting.TheVariants.{Got, Inhibited, Idle, Sent, Cut}
use Rattle.model_controller.specs.ByteTime.{Event, Quiet, Begins, Closes, Arrives, IsWhole, arrived_in, arriving, byte_cycle, carried}
use Rattle.model_controller.specs.ByteTime.{closed, ended_as, happened_at, meeting_by, quietly, sends, sent_or_cut}
use Rattle.key_file.specs.Histories.{KeyHistory}
use Rattle.layout_reader.specs.Layouts.{KeyLayout}
use Rattle.model_link.specs.Expected.{Whole, begins_from, meeting_from, to_look, to_meeting, whole_tick}
use Rattle.model_link.specs.Machine.{LayeredKeyboard, keyboard}
use Rattle.model_link.specs.TickEdges.{tick_edges}
use Rattle.model_link.specs.declared.line.LogLine.{LogLine}
use Rattle.law_quiet_log.specs.Once.{all_arrived, arrived, at_tick, meeting_at}
use Rattle.law_quiet_log.specs.Ports.{port_of}
use Rattle.law_quiet_log.specs.Quiet.{IsQuietAct}
use Rattle.law_link_times.specs.Reads.{EachIsReadOnce, LeavesAllBytes, LeavesBytes, PortLinesAreArrivals, listed, put_out_for, read_so_far, unread}
use Rattle.law_link_times.proofs.EachRead.{HasPut, IsEmptyBut, IsPlain, IsSound, IsUnflipped, LeavesNext, closed_unflipped, goes, goes_empty}
use Rattle.law_link_times.proofs.QuietFlow.{rests_in}
use Rattle.law_link_times.proofs.Resting.{quiet_from_start}

-- whether the last of these bytes was F0
abbrev mark_after : Bool → List ℕ → Bool
mark_after mark [] = mark
mark_after mark (byte ∷ bytes) = mark_after (translation true mark byte).mark bytes

mark_more : (mark : Bool) (xs ys : List ℕ) → mark_after mark (xs ++ ys) ≡ mark_after (mark_after mark xs) ys
mark_more mark [] ys = refl
mark_more mark (x ∷ xs) ys = mark_more (translation true mark x).mark xs ys

put_more : (mark : Bool) (xs ys : List ℕ)
    → put_out_for mark (xs ++ ys) ≡ put_out_for mark xs ++ put_out_for (mark_after mark xs) ys
put_more mark [] ys = refl
put_more mark (x ∷ xs) ys =
    let t : Translated = translation true mark x in
    ap (λ v. listed t.byte ++ v) (put_more t.mark xs ys)
    ∙ sym (append_assoc (listed t.byte) (put_out_for t.mark xs) (put_out_for (mark_after t.mark xs) ys))

-- a tick in which these bytes arrive
abbrev PutsWith : Bool → List ℕ → List ℕ → Side UnderWay → Type 0
PutsWith mark out bytes m = HasPut (mark_after mark bytes) (out ++ put_out_for mark bytes) m

nothing_came : (mark : Bool) (out : List ℕ) (m : Side UnderWay) → HasPut mark out m → PutsWith mark out [] m
nothing_came mark out m h = record { sound = h.sound; put = h.put ∙ sym (append-nil out) }

-- what begins or ends over the link
abbrev with_event : ℕ → Event → Side UnderWay → Side UnderWay
with_event now e m = record m { port = happened_at now e m.port }

begun_put : (mark : Bool) (out : List ℕ) (now : ℕ) (m : Side UnderWay) → HasPut mark out m
    → m.port.core.output_full ≡ false → HasPut mark out (with_event now (Begins true) m)
begun_put mark out now m h e = record {
  sound = record { plain = h.sound.plain; flip = refl; empty = e; unflipped = h.sound.flip };
  put = h.put;
}

fetched_put : (mark : Bool) (out : List ℕ) (now : ℕ) (m : Side UnderWay) → HasPut mark out m
    → m.port.core.output_full ≡ false → HasPut mark out (with_event now (Begins false) m)
fetched_put mark out now m h e = record {
  sound = record { plain = h.sound.plain; flip = h.sound.flip; empty = e; unflipped = refl };
  put = h.put;
}

whole_put : (mark : Bool) (out : List ℕ) (now : ℕ) (m : Side UnderWay) → HasPut mark out m
    → m.port.core.output_full ≡ false → HasPut mark out (with_event now IsWhole m)
whole_put mark out now m h e = record {
  sound = record { plain = h.sound.plain; flip = h.sound.flip; empty = e; unflipped = tt };
  put = h.put;
}

closed_empty : (l : Link UnderWay) (full : Bool) → IsEmptyBut l full → IsEmptyBut (closed l) full
closed_empty Free full e = e
closed_empty (Hold since) full e = e
closed_empty (Ask byte since) full e = e
closed_empty (Request byte) full e = e
closed_empty (Busy u) full e = e

closed_put : (mark : Bool) (out : List ℕ) (now : ℕ) (m : Side UnderWay) → HasPut mark out m
    → HasPut mark out (with_event now Closes m)
closed_put mark out now m h = record {
  sound = record {
    plain = h.sound.plain;
    flip = h.sound.flip;
    empty = closed_empty m.port.link m.port.core.output_full h.sound.empty;
    unflipped = closed_unflipped m.port.link h.sound.unflipped;
  };
  put = h.put;
}

-- a byte that is put out, or none, where the output buffer is empty
abbrev core_with : Option ℕ → Bool → ControllerState → ControllerState
core_with o mark s = received_as (record { byte = o; mark = mark }) s

plain_with : (o : Option ℕ) (before mark : Bool) (s : ControllerState) → IsPlain before s → IsPlain mark (core_with o mark s)
plain_with None before mark s p = record { input = p.input; awaited = p.awaited; command = p.command; mark_is = refl }
plain_with (Some code) before mark s p =
    record { input = p.input; awaited = p.awaited; command = p.command; mark_is = refl }

unread_with : (o : Option ℕ) (mark : Bool) (s : ControllerState) → s.output_full ≡ false
    → unread (core_with o mark s) ≡ unread s ++ listed o
unread_with None mark s e = sym (append-nil (unread s))
unread_with (Some code) mark s e = ap (λ b. (if b then s.output ∷ [] else []) ++ code ∷ []) (sym e)

-- a byte that has come whole
comes_put : (mark : Bool) (out : List ℕ) (now byte : ℕ) (m : Side UnderWay) → HasPut mark out m
    → m.port.core.output_full ≡ false
    → PutsWith mark out (byte ∷ []) (record m { port = received now (Some byte) m.port })
comes_put mark out now byte m h e =
    let t : Translated = translation true mark byte in
    let s : ControllerState = m.port.core in
    let on : translates s ≡ true = ap (λ c. has_bit 0x40 c) h.sound.plain.command in
    let is : received_as (translation (translates s) s.break_mark byte) s ≡ core_with t.byte t.mark s =
    ap (λ b. received_as (translation b s.break_mark byte) s) on
    ∙ ap (λ b. received_as (translation true b byte) s) h.sound.plain.mark_is in
    record {
      sound = record {
        plain = subst (IsPlain t.mark) (sym is) (plain_with t.byte mark t.mark s h.sound.plain);
        flip = h.sound.flip;
        empty = tt;
        unflipped = tt;
      };
      put = ap (λ c. read_so_far m ++ unread c) is
          ∙ ap (λ v. read_so_far m ++ v) (unread_with t.byte t.mark s e)
          ∙ sym (append_assoc (read_so_far m) (unread s) (listed t.byte))
          ∙ ap (λ v. v ++ listed t.byte) h.put
          ∙ ap (λ v. out ++ v) (sym (append-nil (listed t.byte)));
    }

arrives_put : (mark : Bool) (out : List ℕ) (now byte : ℕ) (m : Side UnderWay) (l : Link UnderWay) → HasPut mark out m
    → m.port.link ≡ l
    → PutsWith mark out (arrived (sent_or_cut byte l)) (record m { port = arrived_in now byte l m.port })
arrives_put mark out now byte m Free h e = nothing_came mark out m h
arrives_put mark out now byte m (Hold since) h e = nothing_came mark out m h
arrives_put mark out now byte m (Ask asked since) h e = nothing_came mark out m h
arrives_put mark out now byte m (Request asked) h e = nothing_came mark out m h
arrives_put mark out now byte m (Busy u) h e =
    let empty : m.port.core.output_full ≡ false = subst (λ l. IsEmptyBut l m.port.core.output_full) e h.sound.empty in
    let none : u.flip ≡ None = subst IsUnflipped e h.sound.unflipped in
    subst (λ o. PutsWith mark out (byte ∷ []) (record m { port = received now (arriving o byte) m.port })) (sym none)
    (comes_put mark out now byte m h empty)

-- a byte begins over an empty output buffer
abbrev IsReady : Meeting → Bool → Type 0
IsReady (Got byte) full = full ≡ false
IsReady Inhibited full = Unit {0}
IsReady Idle full = Unit {0}
IsReady (Sent byte) full = full ≡ false
IsReady Cut full = Unit {0}

ready : (tested : Bool) (offer : Option ℕ) (early late : Link UnderWay) (before after : Bool)
    → IsEmptyBut early before → (before ≡ false → after ≡ false) → IsEmptyBut late after
    → IsReady (meeting_by tested offer early late) after
ready false offer early late before after e g f = tt
ready true offer (Hold since) late before after e g f = tt
ready true offer (Ask byte since) late before after e g f = tt
ready true offer (Request byte) late before after e g f = g e
ready true offer (Busy u) late before after e g f = tt
ready true None Free late before after e g f = tt
ready true (Some byte) Free Free before after e g f = f
ready true (Some byte) Free (Hold since) before after e g f = tt
ready true (Some byte) Free (Ask asked since) before after e g f = tt
ready true (Some byte) Free (Request asked) before after e g f = tt
ready true (Some byte) Free (Busy u) before after e g f = tt

-- lights are no byte that is read
none_lit : (same : Bool) (now lights : ℕ)
    → flat_map (λ (s : Stamped). port_of s.item) (if same then [] else record { cycle = now; item = Lights lights } ∷ []) ≡ []
none_lit true now lights = refl
none_lit false now lights = refl

lit_put : (mark : Bool) (out : List ℕ) (now shown lights : ℕ) (m : Side UnderWay) → HasPut mark out m
    → HasPut mark out (says_lights now shown lights m)
lit_put mark out now shown lights m h = record {
  sound = h.sound;
  put = ap (λ v. v ++ unread m.port.core)
      (flat_map-append (λ (s : Stamped). port_of s.item) m.log (lights_said now shown lights)
      ∙ ap (λ v. read_so_far m ++ v) (none_lit (lights == shown) now lights) ∙ append-nil (read_so_far m))
      ∙ h.put;
}

module _ (events : List HostEvent) (leaves : (i : ℕ) → LeavesNext (slice_get events i)) where
  cycle_put : (mark : Bool) (out : List ℕ) (now : ℕ) (e : Event) (m : Side UnderWay)
      → HasPut mark out (with_event now e m) → HasPut mark out (byte_cycle events now e m)
  unfolding byte_cycle
  cycle_put mark out now e m h = goes events leaves mark out now (with_event now e m) h

  cycle_empty : (mark : Bool) (now : ℕ) (e : Event) (m : Side UnderWay) → IsSound mark (happened_at now e m.port)
      → (happened_at now e m.port).core.output_full ≡ false → (byte_cycle events now e m).port.core.output_full ≡ false
  unfolding byte_cycle
  cycle_empty mark now e m s f = goes_empty events leaves mark now (with_event now e m) s f

  quiet_put : (mark : Bool) (out : List ℕ) (n now : ℕ) (m : Side UnderWay) → HasPut mark out m
      → HasPut mark out (quietly events n now m)
  quiet_put mark out zero now m h = h
  quiet_put mark out (suc n) now m h =
      quiet_put mark out n (suc now) (byte_cycle events now Quiet m)
      (cycle_put mark out now Quiet m (record { sound = h.sound; put = h.put }))

  quiet_empty : (mark : Bool) (out : List ℕ) (n now : ℕ) (m : Side UnderWay) → HasPut mark out m
      → m.port.core.output_full ≡ false → (quietly events n now m).port.core.output_full ≡ false
  quiet_empty mark out zero now m h e = e
  quiet_empty mark out (suc n) now m h e =
      quiet_empty mark out n (suc now) (byte_cycle events now Quiet m)
      (cycle_put mark out now Quiet m (record { sound = h.sound; put = h.put }))
      (cycle_empty mark now Quiet m h.sound e)

  sends_put : (mark : Bool) (out : List ℕ) (now : ℕ) (m : Side UnderWay) → HasPut mark out m
      → m.port.core.output_full ≡ false → HasPut mark out (sends events now m)
  sends_put mark out now m h e =
      let a : Side UnderWay = byte_cycle events now (Begins true) m in
      let b : Side UnderWay = quietly events 287 (suc now) a in
      quiet_put mark out 31 (289 + now) (byte_cycle events (288 + now) Closes b)
      (cycle_put mark out (288 + now) Closes b
      (closed_put mark out (288 + now) b
      (quiet_put mark out 287 (suc now) a (cycle_put mark out now (Begins true) m (begun_put mark out now m h e)))))

  fetches_put : (mark : Bool) (out : List ℕ) (now : ℕ) (m : Side UnderWay) → HasPut mark out m
      → m.port.core.output_full ≡ false
      → HasPut mark out (byte_cycle events (320 + now) IsWhole
      (quietly events 319 (suc now) (byte_cycle events now (Begins false) m)))
  fetches_put mark out now m h e =
      let f = fetched_put mark out now m h e in
      let a : Side UnderWay = byte_cycle events now (Begins false) m in
      let g : HasPut mark out a = cycle_put mark out now (Begins false) m f in
      let b : Side UnderWay = quietly events 319 (suc now) a in
      cycle_put mark out (320 + now) IsWhole b
      (whole_put mark out (320 + now) b (quiet_put mark out 319 (suc now) a g)
      (quiet_empty mark out 319 (suc now) a g (cycle_empty mark now (Begins false) m f.sound e)))

  carried_put : (mark : Bool) (out : List ℕ) (begins : Meeting) (now : ℕ) (m : Side UnderWay) → HasPut mark out m
      → IsReady begins m.port.core.output_full
      → PutsWith mark out (arrived (ended_as events begins now m)) (carried events begins now m)
  carried_put mark out (Got byte) now m h e = nothing_came mark out _ (fetches_put mark out now m h e)
  carried_put mark out Inhibited now m h e = nothing_came mark out _ (quiet_put mark out 321 now m h)
  carried_put mark out Idle now m h e = nothing_came mark out _ (quiet_put mark out 321 now m h)
  carried_put mark out (Sent byte) now m h e =
      let s : Side UnderWay = sends events now m in
      let bytes : List ℕ = arrived (sent_or_cut byte s.port.link) in
      cycle_put (mark_after mark bytes) (out ++ put_out_for mark bytes) (320 + now) (Arrives byte) s
      (arrives_put mark out (320 + now) byte s s.port.link (sends_put mark out now m h e) refl)
  carried_put mark out Cut now m h e = nothing_came mark out _ (quiet_put mark out 321 now m h)

  -- a tick
  tick_put : (layout : KeyLayout) (mark : Bool) (out : List ℕ) (edges : List (ℕ × Bool)) (start rest : ℕ)
      (w : Whole LayeredKeyboard) → HasPut mark out w.side
      → PutsWith mark out (arrived (meeting_from (keyboard layout) events start w))
      (whole_tick (keyboard layout) events edges start rest w).side
  tick_put layout mark out edges start rest w h =
      let lights : ℕ = w.keys.keyboard.lights in
      let a : Side UnderWay = quietly events 232 start w.side in
      let b : Side UnderWay = says_lights (232 + start) w.shown lights a in
      let look : Side UnderWay = to_look events w.shown lights start w.side in
      let meet : Side UnderWay = to_meeting events start look in
      let g : HasPut mark out look = quiet_put mark out 24 (232 + start) b
      (lit_put mark out (232 + start) w.shown lights a (quiet_put mark out 232 start w.side h)) in
      let f : HasPut mark out meet = quiet_put mark out 32 (256 + start) look g in
      let begins : Meeting = begins_from (keyboard layout) events start w in
      let bytes : List ℕ = arrived (meeting_from (keyboard layout) events start w) in
      quiet_put (mark_after mark bytes) (out ++ put_out_for mark bytes) rest (609 + start)
      (carried events begins (288 + start) meet)
      (carried_put mark out begins (288 + start) meet f
      (ready ((keyboard layout).tested w.keys) ((keyboard layout).offer w.keys) look.port.link meet.port.link
      look.port.core.output_full meet.port.core.output_full g.sound.empty
      (quiet_empty mark out 32 (256 + start) look g) f.sound.empty))

-- each event of a list leaves the bytes
next_leaves : (o : Option HostEvent) → ((e : HostEvent) → o ≡ Some e → LeavesBytes e.act) → LeavesNext o
next_leaves None g = tt
next_leaves (Some e) g = g e refl

all_leave : (events : List HostEvent) → All (λ event. LeavesBytes event.act) events
    → (i : ℕ) → LeavesNext (slice_get events i)
all_leave events all i =
    next_leaves (slice_get events i)
    (λ e g. subst (λ (v : HostEvent). LeavesBytes v.act) (get_or_from_slice_get events i e e g)
    (all i e (slice_get_within events i e g)))

-- a run
module _ (layout : KeyLayout) (history : KeyHistory) (starts : ℕ → ℕ) (leaves : LeavesAllBytes history) where
  run_put : (n : ℕ) → PutsWith false [] (all_arrived layout history starts 0 n) (at_tick layout history starts n).side
  run_put zero =
      quiet_put history.host (all_leave history.host leaves) false [] (starts 0) 4096 (side_at_start UnderWay) (record {
        sound = record {
          plain = record { input = tt; awaited = refl; command = refl; mark_is = refl };
          flip = refl;
          empty = refl;
          unflipped = tt;
        };
        put = refl;
      })
  run_put (suc n) =
      let xs : List ℕ = all_arrived layout history starts 0 n in
      let ys : List ℕ = arrived (meeting_at layout history starts n) in
      let w : Whole LayeredKeyboard = at_tick layout history starts n in
      let z : n ≡ n + 0 = omega arith in
      let t = tick_put history.host (all_leave history.host leaves) layout (mark_after false xs) (put_out_for false xs)
      (tick_edges starts history.edges n) (4096 + starts n) (starts (suc n) - starts n - 609) w (run_put n) in
      subst (λ k. PutsWith false [] (xs ++ arrived (meeting_at layout history starts k))
      (at_tick layout history starts (suc n)).side) z
      (record {
        sound = subst (λ b. IsSound b (at_tick layout history starts (suc n)).side.port) (sym (mark_more false xs ys)) t.sound;
        put = t.put ∙ sym (put_more false xs ys);
      })

-- INT 09h has read what was put out for the bytes that arrived, each once and in order, but for one that is unread
pub each_is_read_once : EachIsReadOnce
each_is_read_once layout history starts n leaves = (run_put layout history starts leaves n).put

-- a quiet host leaves them too
quiet_leaves : (act : HostAct) → IsQuietAct act → LeavesBytes act
quiet_leaves (Write60 byte) q = absurd q
quiet_leaves (Write64 byte) q = absurd q
quiet_leaves Read60 q = absurd q
quiet_leaves Mask q = absurd q
quiet_leaves Unmask q = absurd q
quiet_leaves Take q = tt
quiet_leaves Status q = tt
quiet_leaves (Flip bit) q = absurd q

-- with a quiet host the `port` lines of the log are what was put out for the bytes that arrived
pub port_lines_are_arrivals : PortLinesAreArrivals
port_lines_are_arrivals layout history starts n quiet cadence =
    let m : Side UnderWay = (at_tick layout history starts n).side in
    let leaves : LeavesAllBytes history = λ k d within. quiet_leaves _ (quiet k d within) in
    let rests = rests_in layout history starts n 0 (quiet_from_start layout history starts quiet) cadence n (omega arith)
    (omega arith) in
    let none : unread m.port.core ≡ [] = ap (λ p. unread p.core) rests.same.port in
    flat_map-map (λ (l : LogLine). port_of l.item)
    (λ (s : Stamped). record { tick = tick_of starts n s.cycle; item = s.item }) m.log
    ∙ sym (append-nil (read_so_far m)) ∙ ap (λ v. read_so_far m ++ v) (sym none)
    ∙ each_is_read_once layout history starts n leaves
