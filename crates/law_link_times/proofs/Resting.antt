-- With a quiet host the link is free at each tick start, and each tick sends what is offered.
use Rattle.std.proofs.Common.{◌≡◌, ℕ, suc, zero, ◌+◌, ◌-◌, ◌*◌, ◌≤◌, List, [], ◌++◌, Bool, true}
use Rattle.std.specs.Prelude.{slice_get}
use Rattle.std.proofs.Common.{false, ◌==◌, Some, None, refl, ap, sym, ◌∙◌, subst, arith}
use Rattle.std.specs.declared.option.Option.{Option}
use Rattle.std.proofs.lemmas.Bool.Decides.{nat_tests}
use Rattle.board_terms.specs.Cadence.{KeepsCadenceTo}
use Rattle.board_terms.specs.declared.event.HostEvent.{HostEvent}
use Rattle.ctl_link.specs.declared.link.Link.TheVariants.{Free}
use Rattle.host_turn.specs.declared.stamped.Stamped.{Stamped}
use Rattle.host_turn.specs.Run.{Side, says_lights, side_at_start, stamped}
use Rattle.int09.specs.Bios.{start}
use Rattle.model_controller.specs.declared.UnderWay.{UnderWay}
use Rattle.model_controller.specs.declared.meeting.Meeting.{Meeting}
use Rattle.model_controller.specs.declared.meeting.Meeting.TheVariants.{Sent}
use Rattle.model_controller.specs.ByteTime.{carried, ended_as, meeting_by, quietly, sent_or_cut}
use Rattle.model_controller.proofs.Quiet.{quiet_more}
use Rattle.key_file.specs.Histories.{KeyHistory}
use Rattle.layout_reader.specs.Layouts.{KeyLayout}
use Rattle.model_keyboard.specs.Keyboard.{offer}
use Rattle.model_link.specs.Machine.{LayeredKeyboard, keyboard}
use Rattle.model_link.specs.Expected.{Whole, begins_from, from_meeting, meeting_from, to_look, to_meeting}
use Rattle.law_quiet_log.specs.Once.{at_tick, meeting_at}
use Rattle.law_quiet_log.proofs.Calm.{Pc, calm_meeting, core_of, items_of_meeting, met_by}
use Rattle.law_quiet_log.proofs.Carrying.{Freed}
use Rattle.law_quiet_log.proofs.Passing.{ends_calm, meets_calm, passes}
use Rattle.law_quiet_log.proofs.Undue.{IsUndue, free_span, side}
use Rattle.law_link_times.specs.Coming.{keyboard_at}
use Rattle.law_link_times.specs.Flowing.{IsAtRest, IsHostQuiet, IsQuietFrom}
use Rattle.law_quiet_log.specs.Quiet.{IsQuietAct}
use Rattle.law_quiet_log.proofs.Acting.{IsQuietNext}
use Rattle.ctl_link.specs.declared.port.LinkEnd.{LinkEnd}
use Rattle.law_link_times.proofs.Clear.{plain_core}
use Rattle.law_link_times.proofs.EachRead.{IsUnflipped}
use Rattle.law_link_times.proofs.Shadow.{AreQuietFrom, Same, all_quiet, next_quiet, none_due, same_carried, same_sends, same_span}

-- at rest: the port of a side with a free link and nothing put out
abbrev pub rest : Pc → ℕ → Side UnderWay
rest q filled = side Free false q filled []

pub record Rests (d : ℕ) (m : Side UnderWay) : Type 0 where
  pub pc : Pc
  pub filled : ℕ
  pub same : Same d m (rest pc filled)

-- without a host no event is due
pub none_at : (q : Pc) (now n : ℕ) → IsUndue [] q now n
none_at q now n = λ y l u. none_due y q.done

-- a step leaves one at rest, where it is the same as one without a host that does
same_then : (d : ℕ) (a b : Side UnderWay) (q : Pc) (filled : ℕ) (log : List Stamped) → Same d a b
    → b ≡ side Free false q filled log → Rests d a
same_then d a b q filled log s e = record {
  pc = q;
  filled = filled;
  same = record {
    port = s.port ∙ ap (λ (v : Side UnderWay). v.port) e;
    clear = s.clear;
    masked = s.masked ∙ ap (λ (v : Side UnderWay). v.masked) e;
    done = s.done;
  };
}

-- a side at rest, with so many events done, is one
pub rests_there : (m : Side UnderWay) → IsAtRest m → Rests m.done m
rests_there m r =
    let q : Pc = record { mark = m.port.core.break_mark; out = m.port.core.output; bios = start; done = 0 } in
    let p : LinkEnd UnderWay = m.port in
    record {
      pc = q;
      filled = p.filled;
      same = record {
        port = ap (λ b. record p { core = record (plain_core p.core) { output_full = b } }) r.output
            ∙ ap (λ b. record p { core = record (core_of false q) { command_byte = b } }) r.command
            ∙ ap (λ l. record p { core = core_of false q; link = l }) r.link
            ∙ ap (λ b. record p { core = core_of false q; link = Free; awaits = b }) r.awaits
            ∙ ap (λ f. record p { core = core_of false q; link = Free; awaits = false; flip = f }) r.flip;
        clear = record { input = r.input; flip = r.flip; unflipped = subst IsUnflipped (sym r.link) tt };
        masked = r.masked;
        done = omega arith;
      };
    }

-- and the other way round
pub at_rest : (d : ℕ) (m : Side UnderWay) → Rests d m → IsAtRest m
at_rest d m r = record {
  input = r.same.clear.input;
  output = ap (λ p. p.core.output_full) r.same.port;
  command = ap (λ p. p.core.command_byte) r.same.port;
  link = ap (λ p. p.link) r.same.port;
  awaits = ap (λ p. p.awaits) r.same.port;
  flip = r.same.clear.flip;
  masked = r.same.masked;
}

module _ (layout : KeyLayout) (history : KeyHistory) (d : ℕ) (quiet : AreQuietFrom d history.host) where
  abbrev host : List HostEvent
  host = history.host

  -- so many cycles at rest
  pub same_rest : (n now : ℕ) (m : Side UnderWay) (q : Pc) (filled : ℕ) → Same d m (rest q filled)
      → Same d (quietly host n now m) (rest q filled)
  same_rest n now m q filled s =
      let t : Same d (quietly host n now m) (quietly [] n now (rest q filled)) =
      same_span host d quiet n now m (rest q filled) s in
      let e : quietly [] n now (rest q filled) ≡ rest q filled = free_span [] q filled [] n now (none_at q now n) in
      record {
        port = t.port ∙ ap (λ (v : Side UnderWay). v.port) e;
        clear = t.clear;
        masked = t.masked ∙ ap (λ (v : Side UnderWay). v.masked) e;
        done = t.done;
      }

  module _ (w : Whole LayeredKeyboard) (start : ℕ) (r : Rests d w.side) where
    abbrev lights : ℕ
    lights = w.keys.keyboard.lights

    abbrev tested : Bool
    tested = w.keys.keyboard.test == 0

    abbrev offered : Option ℕ
    offered = offer w.keys.keyboard

    -- at the look, and in the cycle before a byte may begin
    abbrev look : Side UnderWay
    look = to_look host w.shown lights start w.side

    abbrev meet : Side UnderWay
    meet = to_meeting host start look

    look_same : Same d look (rest r.pc r.filled)
    look_same =
        let l : Same d (quietly host 232 start w.side) (rest r.pc r.filled) =
        same_rest 232 start w.side r.pc r.filled r.same in
        same_rest 24 (232 + start) (says_lights (232 + start) w.shown lights (quietly host 232 start w.side))
        r.pc r.filled (record { port = l.port; clear = l.clear; masked = l.masked; done = l.done })

    -- with a quiet host the link is at rest at the meeting too
    pub meet_same : Same d meet (rest r.pc r.filled)
    meet_same = same_rest 32 (256 + start) look r.pc r.filled look_same

    -- so what begins depends on the keyboard alone
    pub begins : begins_from (keyboard layout) host start w ≡ calm_meeting tested offered
    begins =
        ap (λ p. meeting_by tested offered p.link meet.port.link) look_same.port
        ∙ ap (λ p. meeting_by tested offered Free p.link) meet_same.port
        ∙ meets_calm tested offered r.pc r.filled []

    -- and isn't broken off
    ends_by : (t : Bool) (o : Option ℕ) (now : ℕ)
        → ended_as host (calm_meeting t o) now meet ≡ calm_meeting t o
    ends_by true None now = refl
    ends_by true (Some byte) now =
        ap (λ p. sent_or_cut byte p.link)
        (same_sends host d quiet now meet (rest r.pc r.filled) meet_same).port
        ∙ ends_calm [] true (Some byte) now r.pc r.filled [] (none_at r.pc now 320)
    ends_by false o now = refl

    -- with a quiet host what is offered after the self-test is what the meeting sends
    pub meets : meeting_from (keyboard layout) host start w ≡ calm_meeting tested offered
    meets =
        ap (λ v. ended_as host v (288 + start) meet) begins ∙ ends_by tested offered (288 + start)

    -- 64 cycles after the byte the link is free again, and stays so
    pub ends : (all more : ℕ) → 64 + more ≡ all
        → Rests d (from_meeting host start all (begins_from (keyboard layout) host start w) meet)
    ends all more e =
        let m : Meeting = calm_meeting tested offered in
        let a1 : Side UnderWay = carried host m (288 + start) meet in
        let b1 : Side UnderWay = carried [] m (288 + start) (rest r.pc r.filled) in
        let s : Same d (quietly host all (609 + start) a1) (quietly [] all (609 + start) b1) =
        same_span host d quiet all (609 + start) a1 b1
        (same_carried host d quiet m (288 + start) meet (rest r.pc r.filled) meet_same) in
        let p : Freed (met_by m r.pc) (quietly [] 64 (609 + start) b1) ([] ++ stamped (672 + start) (items_of_meeting m r.pc)) =
        passes [] tested offered start (672 + start) r.pc r.filled [] refl (none_at r.pc (288 + start) 385) in
        let log : List Stamped = [] ++ stamped (672 + start) (items_of_meeting m r.pc) in
        let is : quietly [] all (609 + start) b1 ≡ side Free false (met_by m r.pc) p.filled log =
        quiet_more [] 64 more all (609 + start) b1 e
        ∙ ap (λ v. quietly [] more (64 + (609 + start)) v) p.is
        ∙ free_span [] (met_by m r.pc) p.filled log more (64 + (609 + start))
        (none_at (met_by m r.pc) (64 + (609 + start)) more) in
        let r' : Rests d (quietly host all (609 + start) a1) =
        same_then d (quietly host all (609 + start) a1) (quietly [] all (609 + start) b1) (met_by m r.pc) p.filled log s is in
        subst (λ v. Rests d (from_meeting host start all v meet)) (sym begins) r'

  -- so it is at each start of a run from one on
  module _ (starts : ℕ → ℕ) (last first : ℕ) (cadence : KeepsCadenceTo starts last)
      (rests : Rests d (at_tick layout history starts first).side) where
    rests_on : (count : ℕ) → count + first ≤ last → Rests d (at_tick layout history starts (count + first)).side
    rests_on zero l =
        let z : first ≡ zero + first = omega arith in
        subst (λ k. Rests d (at_tick layout history starts k).side) z rests
    rests_on (suc count) l =
        let n : ℕ = count + first in
        let z : suc n ≡ suc count + first = omega arith in
        let hi : starts n ≤ 2048 * n + 5 = (cadence n (omega (arith, l))).most in
        let lo : 2048 * suc n ≤ starts (suc n) = (cadence (suc n) (omega (arith, l))).least in
        let all : ℕ = starts (suc n) - starts n - 609 in
        let more : ℕ = starts (suc n) - starts n - 673 in
        subst (λ k. Rests d (at_tick layout history starts k).side) z
        (ends (at_tick layout history starts n) (4096 + starts n) (rests_on count (omega (arith, l))) all more
        (omega (arith, hi, lo)))

    -- with a quiet host the link is at rest at each tick start from one on
    pub rests_at : (n : ℕ) → first ≤ n → n ≤ last → Rests d (at_tick layout history starts n).side
    rests_at n f l =
        let z : n - first + first ≡ n = omega (arith, f) in
        subst (λ k. Rests d (at_tick layout history starts k).side) z (rests_on (n - first) (omega (arith, l, z)))

    -- and each tick's meeting is known by what is offered
    pub meets_at : (n : ℕ) → first ≤ n → n ≤ last → meeting_at layout history starts n
        ≡ calm_meeting ((keyboard_at layout history starts n).test == 0) (offer (keyboard_at layout history starts n))
    meets_at n f l = meets (at_tick layout history starts n) (4096 + starts n) (rests_at n f l)

    -- with a quiet host each tick after the self-test from there on sends what is offered
    pub sends_at : (n byte : ℕ) → first ≤ n → n ≤ last
        → (keyboard_at layout history starts n).test ≡ 0 → offer (keyboard_at layout history starts n) ≡ Some byte
        → meeting_at layout history starts n ≡ Sent byte
    sends_at n byte f l t o =
        let z : ((keyboard_at layout history starts n).test == 0) ≡ true = grind (arith, nat_tests, t) in
        meets_at n f l ∙ ap (λ c. calm_meeting c (offer (keyboard_at layout history starts n))) z
        ∙ ap (λ v. calm_meeting true v) o

-- events that are quiet from one on
pub quiet_on : (events : List HostEvent) (d : ℕ)
    → ((i : ℕ) (event : HostEvent) → d ≤ i → slice_get events i ≡ Some event → IsQuietAct event.act)
    → AreQuietFrom d events
quiet_on events d acts i l = next_quiet (slice_get events i) (λ e g. acts i e l g)

-- a host that is quiet all along is so from the first tick on
pub quiet_from_start : (layout : KeyLayout) (history : KeyHistory) (starts : ℕ → ℕ) → IsHostQuiet history
    → IsQuietFrom layout history starts 0
quiet_from_start layout history starts quiet =
    let q : Pc = record { mark = false; out = 0; bios = start; done = 0 } in
    let none : Same 0 (side_at_start UnderWay) (rest q 0) = record {
      port = refl;
      clear = record { input = refl; flip = refl; unflipped = tt };
      masked = refl;
      done = omega arith;
    } in
    let all : (i : ℕ) → IsQuietNext (slice_get history.host i) = all_quiet history.host quiet in
    let there = same_rest layout history 0 (λ i l. all i) (starts 0) 4096 (side_at_start UnderWay) q 0 none in
    record {
      rests = at_rest 0 (at_tick layout history starts 0).side (record { pc = q; filled = 0; same = there });
      replied = refl;
      acts = λ i event l e. subst IsQuietNext e (all i);
    }
