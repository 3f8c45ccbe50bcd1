-- A byte is sent, put out and read, and the link is free again: 385 cycles from its first on.
use Rattle.std.proofs.Common.{◌≡◌, ℕ, suc, ◌+◌, ◌++◌, List, Bool, true, false, Some, None, refl, ap, sym, ◌∙◌, arith}
use Rattle.std.specs.Prelude.{if◌then◌else◌, nat_le}
use Rattle.std.specs.declared.option.Option.{Option}
use Rattle.std.proofs.lemmas.Bool.Decides.{nat_tests}
use Rattle.ctl_core.specs.Controller.{ControllerState}
use Rattle.ctl_core.specs.Translation.{translation, arrived}
use Rattle.ctl_core.specs.declared.translation.Translated.{Translated}
use Rattle.ctl_link.specs.declared.link.Link.TheVariants.{Free, Hold, Busy}
use Rattle.ctl_link.specs.Link.{filled_by}
use Rattle.board_terms.specs.declared.event.HostEvent.{HostEvent}
use Rattle.host_turn.specs.declared.stamped.Stamped.{Stamped}
use Rattle.host_turn.specs.Run.{Side, stamped}
use Rattle.model_controller.specs.declared.UnderWay.{UnderWay}
use Rattle.model_controller.specs.declared.meeting.Meeting.TheVariants.{Sent}
use Rattle.model_controller.specs.ByteTime.{Quiet, Begins, Closes, Arrives, byte_cycle, quietly, sends, carried}
use Rattle.model_controller.proofs.Quiet.{quiet_more}
use Rattle.law_quiet_log.proofs.Calm.{Pc, core_of, marked, read_of, said_of_read, met_by, items_of_meeting}
use Rattle.law_quiet_log.proofs.Undue.{side, passing, undue_cycle, relogged, hold_empty, full_read, IsUndue, busy_span, full_span, empty_span}

-- the side once the link is free again, whenever the output buffer was filled last
pub record Freed (q : Pc) (s : Side UnderWay) (log : List Stamped) : Type 0 where
  pub filled : ℕ
  pub is : s ≡ side Free false q filled log

module _ (events : List HostEvent) where
  -- a byte has come whole: it is put out, or begins a break
  abbrev come : ℕ → Option ℕ → Bool → Pc → ℕ → List Stamped → Side UnderWay
  come now o mark q filled log =
      let core : ControllerState = arrived (record { byte = o; mark = mark }) (core_of false q) in
      record {
        port = record { core = core; filled = filled_by now core filled; link = Hold now; awaits = false; flip = None };
        masked = false;
        bios = q.bios;
        done = q.done;
        log = log;
      }

  -- from there on 65 cycles
  read_span : (now last : ℕ) (o : Option ℕ) (mark : Bool) (q : Pc) (filled : ℕ) (log : List Stamped) → last ≡ now + 64
      → IsUndue events q now 65
      → Freed (read_of o (marked mark q)) (quietly events 65 now (come now o mark q filled log))
      (log ++ stamped last (said_of_read o q))
  read_span now last None mark q filled log e h =
      let p : Pc = marked mark q in
      let s : Side UnderWay = side (Hold now) false p filled log in
      let z : 64 + now ≡ last = omega (arith, e) in
      let t : nat_le (now + 64) last ≡ true = grind (arith, nat_tests, e) in
      record {
        filled = filled;
        is = quiet_more events 64 1 65 now s refl
            ∙ ap (λ v. byte_cycle events (64 + now) Quiet v)
            (empty_span events now p filled log 64 now (omega arith) (λ y l u. h y l (omega (arith, u))))
            ∙ ap (λ y. byte_cycle events y Quiet s) z
            ∙ undue_cycle events last s (h last (omega (arith, e)) (omega (arith, e)))
            ∙ hold_empty last now p filled log
            ∙ ap (λ c. side (if c then Free else Hold now) false p filled log) t
            ∙ sym (relogged Free false p filled log);
      }
  read_span now last (Some code) mark q filled log e h =
      let p : Pc = record q { mark = mark; out = code } in
      let s : Side UnderWay = side (Hold now) true p now log in
      let z : 64 + now ≡ last = omega (arith, e) in
      let t : nat_le (now + 64) last ≡ true = grind (arith, nat_tests, e) in
      record {
        filled = now;
        is = quiet_more events 64 1 65 now s refl
            ∙ ap (λ v. byte_cycle events (64 + now) Quiet v)
            (full_span events now p log 64 now (omega arith) (λ y l u. h y l (omega (arith, u))))
            ∙ ap (λ y. byte_cycle events y Quiet s) z
            ∙ undue_cycle events last s (h last (omega (arith, e)) (omega (arith, e)))
            ∙ full_read last now p now log t t;
      }

  -- the cycle in which it arrives
  arrives : (now byte : ℕ) (q : Pc) (filled : ℕ) (log : List Stamped)
      → byte_cycle events now (Arrives byte) (side (Busy (passing false)) false q filled log)
      ≡ byte_cycle events now Quiet
      (come now (translation true q.mark byte).byte (translation true q.mark byte).mark q filled log)
  unfolding byte_cycle
  arrives now byte q filled log = refl

  -- the cycle in which it begins
  begins : (now : ℕ) (q : Pc) (filled : ℕ) (log : List Stamped)
      → byte_cycle events now (Begins true) (side Free false q filled log)
      ≡ byte_cycle events now Quiet (side (Busy (passing true)) false q filled log)
  unfolding byte_cycle
  begins now q filled log = refl

  -- and the one from which on it can't be broken off
  closes : (now : ℕ) (q : Pc) (filled : ℕ) (log : List Stamped)
      → byte_cycle events now Closes (side (Busy (passing true)) false q filled log)
      ≡ byte_cycle events now Quiet (side (Busy (passing false)) false q filled log)
  unfolding byte_cycle
  closes now q filled log = refl

  -- nothing breaks it off: it is still under way in its last cycle
  pub stays_under_way : (now : ℕ) (q : Pc) (filled : ℕ) (log : List Stamped) → IsUndue events q now 320
      → sends events now (side Free false q filled log) ≡ side (Busy (passing false)) false q filled log
  stays_under_way now q filled log h =
      let s : Side UnderWay = side (Busy (passing true)) false q filled log in
      let s' : Side UnderWay = side (Busy (passing false)) false q filled log in
      let z : suc (288 + now) ≡ 289 + now = omega arith in
      ap (λ v. quietly events 31 (289 + now) (byte_cycle events (288 + now) Closes (quietly events 287 (suc now) v)))
      (begins now q filled log)
      ∙ ap (λ v. quietly events 31 (289 + now) (byte_cycle events (288 + now) Closes v))
      (busy_span events true q filled log 288 now (λ y l u. h y l (omega (arith, u))))
      ∙ ap (λ v. quietly events 31 (289 + now) v) (closes (288 + now) q filled log)
      ∙ ap (λ y. quietly events 31 y (byte_cycle events (288 + now) Quiet s')) (sym z)
      ∙ busy_span events false q filled log 32 (288 + now) (λ y l u. h y (omega (arith, l)) (omega (arith, u)))

  -- the whole of it
  pub sent : (now last : ℕ) (byte : ℕ) (q : Pc) (filled : ℕ) (log : List Stamped) → last ≡ now + 384
      → IsUndue events q now 385
      → Freed (met_by (Sent byte) q)
      (quietly events 64 (321 + now) (carried events (Sent byte) now (side Free false q filled log)))
      (log ++ stamped last (items_of_meeting (Sent byte) q))
  sent now last byte q filled log e h =
      let t : Translated = translation true q.mark byte in
      let x : Side UnderWay = come (320 + now) t.byte t.mark q filled log in
      let z : 321 + now ≡ suc (320 + now) = omega arith in
      let first : carried events (Sent byte) now (side Free false q filled log)
      ≡ byte_cycle events (320 + now) Quiet x =
      ap (λ v. byte_cycle events (320 + now) (Arrives byte) v)
      (stays_under_way now q filled log (λ y l u. h y l (omega (arith, u)))) ∙ arrives (320 + now) byte q filled log in
      let r : Freed (met_by (Sent byte) q) (quietly events 65 (320 + now) x)
      (log ++ stamped last (items_of_meeting (Sent byte) q)) =
      read_span (320 + now) last t.byte t.mark q filled log (omega (arith, e))
      (λ y l u. h y (omega (arith, l)) (omega (arith, u))) in
      record {
        filled = r.filled;
        is = ap (λ v. quietly events 64 (321 + now) v) first
            ∙ ap (λ y. quietly events 64 y (byte_cycle events (320 + now) Quiet x)) z ∙ r.is;
      }
