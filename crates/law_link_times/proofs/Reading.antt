-- With a quiet host INT 09h reads the outcome of a byte 64 cycles after its arrival.
use Rattle.std.proofs.Common.{◌≡◌, ℕ, suc, zero, ◌+◌, ◌-◌, ◌*◌, ◌≤◌, ◌<◌, List, [], ◌∷◌, ◌++◌, length, map}
use Rattle.std.proofs.Common.{Bool, true, false, Some, None, refl, ap, sym, ◌∙◌, subst, arith}
use Rattle.std.specs.Prelude.{if◌then◌else◌, nat_le, slice_get, slice_index_or, Contains}
use Rattle.std.specs.declared.option.Option.{Option}
use Rattle.std.proofs.lemmas.Bool.Decides.{nat_tests}
use Rattle.std.proofs.lemmas.List.Elements.{Contains-append_left, Contains-append_right}
use Rattle.board_terms.specs.Cadence.{KeepsCadenceTo, tick_of}
use Rattle.board_terms.specs.declared.event.HostEvent.{HostEvent}
use Rattle.ctl_core.specs.Controller.{ControllerState}
use Rattle.ctl_core.specs.Translation.{translation, arrived}
use Rattle.ctl_core.specs.declared.translation.Translated.{Translated}
use Rattle.ctl_link.specs.declared.link.Link.TheVariants.{Hold, Busy}
use Rattle.ctl_link.specs.Link.{broken_off, filled_by, settled}
use Rattle.host_turn.specs.declared.stamped.Stamped.{Stamped}
use Rattle.host_turn.specs.Cycle.{host_of, port_by, said_of}
use Rattle.host_turn.specs.Host.{Host, bios_turn, event_turn, in_silence, interrupts, read_by_bios}
use Rattle.host_turn.specs.Run.{Side, desk_of, goes_on, says_lights, stamped}
use Rattle.host_turn.proofs.Turns.{turn_of}
use Rattle.pc_tables.specs.declared.item.Item.{Item}
use Rattle.pc_tables.specs.declared.item.Item.TheVariants.{Port}
use Rattle.model_controller.specs.declared.UnderWay.{UnderWay}
use Rattle.model_controller.specs.declared.meeting.Meeting.{Meeting}
use Rattle.model_controller.specs.declared.meeting.Meeting.TheVariants.{Got, Inhibited, Idle, Sent, Cut}
use Rattle.model_controller.specs.ByteTime.{Event, Quiet, Begins, Closes, Arrives, IsWhole, byte_cycle, carried, is_open, quietly, sends}
use Rattle.model_controller.proofs.Quiet.{quiet_more}
use Rattle.key_file.specs.Histories.{KeyHistory}
use Rattle.layout_reader.specs.Layouts.{KeyLayout}
use Rattle.model_link.specs.Machine.{LayeredKeyboard, keyboard}
use Rattle.model_link.specs.Expected.{Whole, begins_from, expected, from_meeting, lines, to_look, to_meeting}
use Rattle.model_link.specs.declared.line.LogLine.{LogLine}
use Rattle.law_quiet_log.specs.Once.{at_tick, meeting_at}
use Rattle.law_quiet_log.proofs.Acting.{IsQuietNext}
use Rattle.law_quiet_log.proofs.Calm.{Pc, core_of}
use Rattle.law_quiet_log.proofs.Carrying.{stays_under_way}
use Rattle.law_quiet_log.proofs.Saying.{tick_is}
use Rattle.law_quiet_log.proofs.Undue.{full_span, passing, side}
use Rattle.law_link_times.specs.Flowing.{IsHostQuiet, IsQuietFrom}
use Rattle.law_link_times.specs.Latency.{IsReadIn, put_out_in, read_stamp}
use Rattle.law_link_times.proofs.Clear.{view}
use Rattle.law_link_times.proofs.QuietFlow.{rests_in}
use Rattle.law_link_times.proofs.Resting.{Rests, begins, meet_same, meets, none_at, quiet_from_start, quiet_on, rest}
use Rattle.law_link_times.proofs.Shadow.{AreQuietFrom, Same, event_quietly, same_carried, same_span}

-- an element of a list, under a function
contains_at : {X Y : Type 0} (f : X → Y) (xs : List X) (x : X) (k : ℕ) → k < length xs → slice_index_or xs k x ≡ x
    → Contains (map f xs) (f x)
contains_at f [] x k l e = absurd (omega (arith, l))
contains_at f (y ∷ ys) x zero l e = (0, omega arith, ap f e)
contains_at f (y ∷ ys) x (suc k) l e =
    let r = contains_at f ys x k (omega (arith, l)) e in
    let b : r.0 < length (map f ys) = r.1 in
    (suc r.0, omega (arith, b), r.2)

-- what a list has, the list of its images has the image of
pub contains_map : {X Y : Type 0} (f : X → Y) (xs : List X) (x : X) → Contains xs x → Contains (map f xs) (f x)
contains_map f xs x c = contains_at f xs x c.0 c.1 c.2

module _ (events : List HostEvent) where
  -- what was said stays said
  kept_cycle : (now : ℕ) (e : Event) (m : Side UnderWay) (s : Stamped) → Contains m.log s
      → Contains (byte_cycle events now e m).log s
  unfolding byte_cycle goes_on
  kept_cycle now e m s c = Contains-append_left m.log _ s c

  kept_span : (n now : ℕ) (m : Side UnderWay) (s : Stamped) → Contains m.log s → Contains (quietly events n now m).log s
  kept_span zero now m s c = c
  kept_span (suc n) now m s c =
      kept_span n (suc now) (byte_cycle events now Quiet m) s (kept_cycle now Quiet m s c)

  kept_sends : (now : ℕ) (m : Side UnderWay) (s : Stamped) → Contains m.log s → Contains (sends events now m).log s
  kept_sends now m s c =
      let a : Side UnderWay = byte_cycle events now (Begins true) m in
      let b : Side UnderWay = quietly events 287 (suc now) a in
      kept_span 31 (289 + now) (byte_cycle events (288 + now) Closes b) s
      (kept_cycle (288 + now) Closes b s (kept_span 287 (suc now) a s (kept_cycle now (Begins true) m s c)))

  kept_carried : (begins : Meeting) (now : ℕ) (m : Side UnderWay) (s : Stamped) → Contains m.log s
      → Contains (carried events begins now m).log s
  kept_carried (Got byte) now m s c =
      let a : Side UnderWay = byte_cycle events now (Begins false) m in
      kept_cycle (320 + now) IsWhole (quietly events 319 (suc now) a) s
      (kept_span 319 (suc now) a s (kept_cycle now (Begins false) m s c))
  kept_carried Inhibited now m s c = kept_span 321 now m s c
  kept_carried Idle now m s c = kept_span 321 now m s c
  kept_carried (Sent byte) now m s c =
      kept_cycle (320 + now) (Arrives byte) (sends events now m) s (kept_sends now m s c)
  kept_carried Cut now m s c = kept_span 321 now m s c

  kept_tick : (shown lights start rest : ℕ) (begins : Meeting) (m : Side UnderWay) (s : Stamped) → Contains m.log s
      → Contains (from_meeting events start rest begins
      (to_meeting events start (to_look events shown lights start m))).log s
  kept_tick shown lights start rest begins m s c =
      let a : Side UnderWay = quietly events 232 start m in
      let b : Side UnderWay = says_lights (232 + start) shown lights a in
      let look : Side UnderWay = to_look events shown lights start m in
      let meet : Side UnderWay = to_meeting events start look in
      kept_span rest (609 + start) (carried events begins (288 + start) meet) s
      (kept_carried begins (288 + start) meet s
      (kept_span 32 (256 + start) look s
      (kept_span 24 (232 + start) b s (Contains-append_left a.log _ s (kept_span 232 start m s c)))))

  -- INT 09h's read, in a cycle in which the interrupt comes through
  read_items : (now filled : ℕ) (o : Option HostEvent) (h : Host) → IsQuietNext o → interrupts now filled h ≡ true
      → Contains (bios_turn now filled (event_turn now o h).host).items (Port h.core.output)
  read_items now filled o h q i =
      let e = event_quietly now o h q in
      let h' : Host = record h { bios = e.0 } in
      let head : Contains (read_by_bios h').items (Port h.core.output) = (0, omega arith, refl) in
      subst (λ v. Contains (bios_turn now filled v).items (Port h.core.output)) (sym e.1)
      (subst (λ c. Contains (if c then read_by_bios h' else in_silence h').items (Port h.core.output)) (sym i) head)

  reads_now : (now : ℕ) (m : Side UnderWay) → IsQuietNext (slice_get events m.done)
      → interrupts now m.port.filled (view m.masked m.port) ≡ true
      → Contains (byte_cycle events now Quiet m).log (record { cycle = now; item = Port m.port.core.output })
  unfolding byte_cycle goes_on
  reads_now now m quiet i =
      let h : Host = host_of (desk_of m) in
      let o : Option HostEvent = slice_get events m.done in
      let first : List Item = (event_turn now o h).items in
      let second : List Item = (bios_turn now m.port.filled (event_turn now o h).host).items in
      let said : List Item =
      said_of (settled now (broken_off is_open now (port_by (turn_of events now m) m.port))).did in
      let item : Item = Port m.port.core.output in
      let r : Contains second item = read_items now m.port.filled o h quiet i in
      Contains-append_right m.log (stamped now ((first ++ second) ++ said)) (record { cycle = now; item = item })
      (contains_map (λ v. record { cycle = now; item = v }) ((first ++ second) ++ said) item
      (Contains-append_left (first ++ second) said item (Contains-append_right first second item r)))

-- a byte has come whole, and is put out
abbrev come : ℕ → Option ℕ → Bool → Pc → ℕ → Side UnderWay
come now o mark q filled =
    let core : ControllerState = arrived (record { byte = o; mark = mark }) (core_of false q) in
    record {
      port = record { core = core; filled = filled_by now core filled; link = Hold now; awaits = false; flip = None };
      masked = false;
      bios = q.bios;
      done = q.done;
      log = [];
    }

comes : (now byte : ℕ) (q : Pc) (filled : ℕ)
    → byte_cycle [] now (Arrives byte) (side (Busy (passing false)) false q filled [])
    ≡ byte_cycle [] now Quiet (come now (translation true q.mark byte).byte (translation true q.mark byte).mark q filled)
unfolding byte_cycle
comes now byte q filled = refl

-- without a host: 63 cycles after its arrival it is put out still
abbrev put : ℕ → ℕ → Bool → Pc → Side UnderWay
put now code mark q = side (Hold now) true (record q { mark = mark; out = code }) now []

put_still : (now next byte code : ℕ) (q : Pc) (filled : ℕ) → (translation true q.mark byte).byte ≡ Some code
    → next ≡ 321 + now
    → quietly [] 63 next (carried [] (Sent byte) now (rest q filled))
    ≡ put (320 + now) code (translation true q.mark byte).mark q
put_still now next byte code q filled e z =
    let t : Translated = translation true q.mark byte in
    let n : ℕ = 320 + now in
    let x : Side UnderWay = put n code t.mark q in
    let s : suc n ≡ next = omega (arith, z) in
    ap (λ v. quietly [] 63 next (byte_cycle [] n (Arrives byte) v))
    (stays_under_way [] now q filled [] (none_at q now 320))
    ∙ ap (λ v. quietly [] 63 next v) (comes n byte q filled)
    ∙ ap (λ o. quietly [] 63 next (byte_cycle [] n Quiet (come n o t.mark q filled))) e
    ∙ ap (λ y. quietly [] 63 y (byte_cycle [] n Quiet x)) (sym s)
    ∙ full_span [] n (record q { mark = t.mark; out = code }) [] 64 n (omega arith)
    (none_at (record q { mark = t.mark; out = code }) n 64)

module _ (layout : KeyLayout) (history : KeyHistory) (d : ℕ) (quiet : AreQuietFrom d history.host) where
  abbrev host : List HostEvent
  host = history.host

  -- a tick in which a byte arrives
  module _ (w : Whole LayeredKeyboard) (start byte code : ℕ) (r : Rests d w.side)
      (e : (translation true w.side.port.core.break_mark byte).byte ≡ Some code) where
    abbrev meet : Side UnderWay
    meet = to_meeting host start (to_look host w.shown w.keys.keyboard.lights start w.side)

    abbrev gone : Side UnderWay
    gone = carried host (Sent byte) (288 + start) meet

    abbrev at_read : Side UnderWay
    at_read = quietly host 63 (609 + start) gone

    abbrev mark : Bool
    mark = (translation true r.pc.mark byte).mark

    known : (translation true r.pc.mark byte).byte ≡ Some code
    known = ap (λ p. (translation true p.core.break_mark byte).byte) (sym r.same.port) ∙ e

    read_same : Same d at_read (put (320 + (288 + start)) code mark r.pc)
    read_same =
        let b : Side UnderWay = carried [] (Sent byte) (288 + start) (rest r.pc r.filled) in
        let s : Same d at_read (quietly [] 63 (609 + start) b) =
        same_span host d quiet 63 (609 + start) gone b
        (same_carried host d quiet (Sent byte) (288 + start) meet (rest r.pc r.filled)
        (meet_same layout history d quiet w start r)) in
        let p : quietly [] 63 (609 + start) b ≡ put (320 + (288 + start)) code mark r.pc =
        put_still (288 + start) (609 + start) byte code r.pc r.filled known (omega arith) in
        record {
          port = s.port ∙ ap (λ (v : Side UnderWay). v.port) p;
          clear = s.clear;
          masked = s.masked ∙ ap (λ (v : Side UnderWay). v.masked) p;
          done = s.done;
        }

    -- the interrupt comes through in cycle 672
    through : (now : ℕ) → now ≡ 672 + start → interrupts now at_read.port.filled (view at_read.masked at_read.port) ≡ true
    through now z =
        let x : Side UnderWay = put (320 + (288 + start)) code mark r.pc in
        let late : nat_le (320 + (288 + start) + 64) now ≡ true = grind (arith, nat_tests, z) in
        ap (λ p. interrupts now p.filled (view at_read.masked p)) read_same.port
        ∙ ap (λ v. interrupts now x.port.filled (view v x.port)) read_same.masked ∙ late

    -- 64 cycles after a byte has arrived INT 09h has read what was put out for it, and the log says so
    pub reads_in : (all more now : ℕ) → 64 + more ≡ all → now ≡ 672 + start
        → Contains (from_meeting host start all (Sent byte) meet).log (record { cycle = now; item = Port code })
    reads_in all more now z y =
        let c : ℕ = 63 + (609 + start) in
        let n : c ≡ now = omega (arith, y) in
        let said : Contains (byte_cycle host c Quiet at_read).log
        (record { cycle = c; item = Port at_read.port.core.output }) =
        reads_now host c at_read (quiet at_read.done read_same.done) (through c (omega arith)) in
        let known_item : Contains (byte_cycle host c Quiet at_read).log (record { cycle = now; item = Port code }) =
        subst (λ k. Contains (byte_cycle host c Quiet at_read).log (record { cycle = k; item = Port code })) n
        (subst (λ v. Contains (byte_cycle host c Quiet at_read).log (record { cycle = c; item = Port v }))
        (ap (λ p. p.core.output) read_same.port) said) in
        subst (λ (v : Side UnderWay). Contains v.log (record { cycle = now; item = Port code }))
        (sym (quiet_more host 63 (suc more) all (609 + start) gone (omega (arith, z))))
        (kept_span host more (suc c) (byte_cycle host c Quiet at_read) (record { cycle = now; item = Port code }) known_item)

  -- in a run
  module _ (starts : ℕ → ℕ) (last first : ℕ) (cadence : KeepsCadenceTo starts last)
      (rests : (n : ℕ) → first ≤ n → n ≤ last → Rests d (at_tick layout history starts n).side) where
    says_at : (n byte code : ℕ) → first ≤ n → n < last → meeting_at layout history starts n ≡ Sent byte
        → put_out_in layout history starts n byte ≡ Some code
        → Contains (at_tick layout history starts (suc n)).side.log
        (record { cycle = 4096 + read_stamp starts n; item = Port code })
    says_at n byte code f l m e =
        let w : Whole LayeredKeyboard = at_tick layout history starts n in
        let start : ℕ = 4096 + starts n in
        let r : Rests d w.side = rests n f (omega (arith, l)) in
        let hi : starts n ≤ 2048 * n + 5 = (cadence n (omega (arith, l))).most in
        let lo : 2048 * suc n ≤ starts (suc n) = (cadence (suc n) l).least in
        let all : ℕ = starts (suc n) - starts n - 609 in
        let more : ℕ = starts (suc n) - starts n - 673 in
        let begins_so : begins_from (keyboard layout) host start w ≡ Sent byte =
        begins layout history d quiet w start r ∙ sym (meets layout history d quiet w start r) ∙ m in
        subst (λ v. Contains (from_meeting host start all v
        (to_meeting host start (to_look host w.shown w.keys.keyboard.lights start w.side))).log
        (record { cycle = 4096 + read_stamp starts n; item = Port code })) (sym begins_so)
        (reads_in w start byte code r e all more (4096 + read_stamp starts n) (omega (arith, hi, lo)) (omega arith))

    -- what was said in a tick is said at the end
    kept_on : (n count : ℕ) (s : Stamped) → Contains (at_tick layout history starts n).side.log s
        → Contains (at_tick layout history starts (count + n)).side.log s
    kept_on n zero s c =
        let z : n ≡ zero + n = omega arith in subst (λ v. Contains (at_tick layout history starts v).side.log s) z c
    kept_on n (suc count) s c =
        let k : ℕ = count + n in
        let z : suc k ≡ suc count + n = omega arith in
        let w : Whole LayeredKeyboard = at_tick layout history starts k in
        let start : ℕ = 4096 + starts k in
        subst (λ v. Contains (at_tick layout history starts v).side.log s) z
        (kept_tick host w.shown w.keys.keyboard.lights start (starts (suc k) - starts k - 609)
        (begins_from (keyboard layout) host start w) w.side s (kept_on n count s c))

    -- and with its tick
    line_at : (n byte code : ℕ) → first ≤ n → n < last → meeting_at layout history starts n ≡ Sent byte
        → put_out_in layout history starts n byte ≡ Some code
        → Contains (expected (keyboard layout) history.edges history.host starts last)
        (record { tick = n; item = Port code })
    line_at n byte code f l m e =
        let cycle : ℕ = 4096 + read_stamp starts n in
        let hi : starts n ≤ 2048 * n + 5 = (cadence n (omega (arith, l))).most in
        let s : Stamped = record { cycle = cycle; item = Port code } in
        let z : last - suc n + suc n ≡ last = omega (arith, l) in
        let c : Contains (at_tick layout history starts last).side.log s =
        subst (λ v. Contains (at_tick layout history starts v).side.log s) z
        (kept_on (suc n) (last - suc n) s (says_at n byte code f l m e)) in
        let t : tick_of starts last cycle ≡ n =
        tick_is starts last cadence n cycle l (omega arith) (omega (arith, hi)) in
        let f : Stamped → LogLine = λ v. record { tick = tick_of starts last v.cycle; item = v.item } in
        subst (λ k. Contains (lines starts last (at_tick layout history starts last).side.log)
        (record { tick = k; item = Port code })) t
        (contains_map f (at_tick layout history starts last).side.log s c)

    -- in the tick in which a byte arrives INT 09h reads what is put out for it
    pub read_in : (n byte : ℕ) → first ≤ n → n < last → meeting_at layout history starts n ≡ Sent byte
        → IsReadIn layout history starts last n byte
    read_in n byte f l m = record {
      arrives = m;
      reads = λ code e. says_at n byte code f l m e;
      says = λ code e. line_at n byte code f l m e;
    }

-- from a tick on
pub read_from : (layout : KeyLayout) (history : KeyHistory) (starts : ℕ → ℕ) (first last n byte : ℕ)
    → IsQuietFrom layout history starts first → KeepsCadenceTo starts last → first ≤ n → n < last
    → meeting_at layout history starts n ≡ Sent byte → IsReadIn layout history starts last n byte
read_from layout history starts first last n byte quiet cadence f l m =
    let d : ℕ = (at_tick layout history starts first).side.done in
    read_in layout history d (quiet_on history.host d quiet.acts) starts last first cadence
    (rests_in layout history starts last first quiet cadence) n byte f l m

-- with a quiet host INT 09h reads what is put out for a byte in the tick in which it arrives
pub reads_what_arrives : (layout : KeyLayout) (history : KeyHistory) (starts : ℕ → ℕ) (last n byte : ℕ)
    → IsHostQuiet history → KeepsCadenceTo starts last → n < last → meeting_at layout history starts n ≡ Sent byte
    → IsReadIn layout history starts last n byte
reads_what_arrives layout history starts last n byte quiet cadence l m =
    read_from layout history starts 0 last n byte (quiet_from_start layout history starts quiet) cadence (omega arith) l m
