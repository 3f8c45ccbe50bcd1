-- The meeting of a quiet tick, and what it comes to, up to the cycle in which the link is free again.
use Rattle.std.proofs.Common.{◌≡◌, ℕ, ◌+◌, List, ◌++◌, Bool, true, false, Some, None, refl, ap, sym, ◌∙◌, arith}
use Rattle.std.specs.declared.option.Option.{Option}
use Rattle.std.proofs.lemmas.List.{append-nil}
use Rattle.ctl_link.specs.declared.link.Link.TheVariants.{Free}
use Rattle.board_terms.specs.declared.event.HostEvent.{HostEvent}
use Rattle.host_turn.specs.declared.stamped.Stamped.{Stamped}
use Rattle.host_turn.specs.Run.{Side, stamped}
use Rattle.model_controller.specs.declared.meeting.Meeting.TheVariants.{Sent}
use Rattle.model_controller.specs.declared.UnderWay.{UnderWay}
use Rattle.model_controller.specs.ByteTime.{quietly, carried, meeting_in, sent_or_cut, ended_as}
use Rattle.law_quiet_log.proofs.Calm.{Pc, calm_meeting, met_by, items_of_meeting}
use Rattle.law_quiet_log.proofs.Undue.{side, IsUndue, free_span}
use Rattle.law_quiet_log.proofs.Carrying.{Freed, stays_under_way, sent}

-- over a free link it depends on the test and the offer alone
pub meets_calm : (tested : Bool) (offer : Option ℕ) (q : Pc) (filled : ℕ) (log : List Stamped)
    → meeting_in tested offer (side Free false q filled log) (side Free false q filled log) ≡ calm_meeting tested offer
meets_calm true None q filled log = refl
meets_calm true (Some byte) q filled log = refl
meets_calm false offer q filled log = refl

module _ (events : List HostEvent) where
  -- what begins isn't broken off
  pub ends_calm : (tested : Bool) (offer : Option ℕ) (now : ℕ) (q : Pc) (filled : ℕ) (log : List Stamped)
      → IsUndue events q now 320
      → ended_as events (calm_meeting tested offer) now (side Free false q filled log) ≡ calm_meeting tested offer
  ends_calm true None now q filled log h = refl
  ends_calm true (Some byte) now q filled log h =
      ap (λ (s : Side UnderWay). sent_or_cut byte s.port.link) (stays_under_way events now q filled log h)
  ends_calm false offer now q filled log h = refl

  -- a tick in which nothing passes
  idle : (start : ℕ) (q : Pc) (filled : ℕ) (log : List Stamped) → IsUndue events q (288 + start) 385
      → quietly events 64 (609 + start) (quietly events 321 (288 + start) (side Free false q filled log))
      ≡ side Free false q filled log
  idle start q filled log u =
      ap (λ v. quietly events 64 (609 + start) v)
      (free_span events q filled log 321 (288 + start) (λ y l k. u y l (omega (arith, k))))
      ∙ free_span events q filled log 64 (609 + start) (λ y l k. u y (omega (arith, l)) (omega (arith, k)))

  -- a tick with the byte that is offered, and without one
  pub passes : (tested : Bool) (offer : Option ℕ) (start last : ℕ) (q : Pc) (filled : ℕ) (log : List Stamped)
      → last ≡ 672 + start → IsUndue events q (288 + start) 385
      → Freed (met_by (calm_meeting tested offer) q)
      (quietly events 64 (609 + start)
      (carried events (calm_meeting tested offer) (288 + start) (side Free false q filled log)))
      (log ++ stamped last (items_of_meeting (calm_meeting tested offer) q))
  passes true (Some byte) start last q filled log e u =
      let z : 321 + (288 + start) ≡ 609 + start = omega arith in
      let r = sent events (288 + start) last byte q filled log (omega (arith, e)) u in
      record {
        filled = r.filled;
        is = ap (λ y. quietly events 64 y (carried events (Sent byte) (288 + start) (side Free false q filled log)))
            (sym z)
            ∙ r.is;
      }
  passes true None start last q filled log e u =
      record {
        filled = filled;
        is = idle start q filled log u ∙ ap (λ v. side Free false q filled v) (sym (append-nil log));
      }
  passes false offer start last q filled log e u =
      record {
        filled = filled;
        is = idle start q filled log u ∙ ap (λ v. side Free false q filled v) (sym (append-nil log));
      }
