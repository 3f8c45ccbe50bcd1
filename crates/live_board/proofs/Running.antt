-- A run from where a keyboard is goes on with the run of its past.
use Rattle.std.proofs.Common.{◌≡◌, ◌≤◌, ◌<◌, ◌+◌, ℕ, zero, suc, Some, None, refl, ap, sym, subst, ◌∙◌, inl, inr, arith}
use Rattle.std.specs.Prelude.{IfSome}
use Rattle.std.specs.declared.option.Option.{Option}
use Rattle.joint_feed.proofs.Going.{same_state}
use Rattle.joint_feed.specs.Stories.{state_at}
use Rattle.joint_run.specs.Joint.{Beside}
use Rattle.joint_run.specs.Run.{World}
use Rattle.joint_run.specs.declared.due.Due.{Due}
use Rattle.joint_run.specs.declared.machine.Machine.{Machine}
use Rattle.live_board.proofs.Calling.{holds_still}
use Rattle.live_board.proofs.Meeting.{last_or_before, met_here, unmet_more}
use Rattle.live_board.proofs.Stepping.{counted, here, no_further, one_on, says_one}
use Rattle.live_board.proofs.Tallying.{tally_first, tally_more, tally_still}
use Rattle.live_board.specs.Calls.{Says}
use Rattle.live_board.specs.Heard.{HasKeptAll}
use Rattle.live_board.specs.Onward.{AreSteps, IsNextStep, IsUnmetStep, RunsOn, begun, met_in}
use Rattle.live_board.specs.Pasts.{Past, gone_on, state_of, story_of}
use Rattle.live_board.specs.Running.{AreBefore, AreFew, AreUnmet, EndsSo, HasRun, is_met, met_at}
use Rattle.live_board.specs.States.{HasPast}
use Rattle.live_board.specs.declared.parts.Parts.{Parts as Keyboard}
use Rattle.live_board.specs.declared.ran.RunEnd.{RunEnd}
use Rattle.live_board.specs.declared.ran.RunEnd.TheVariants as ends
use Rattle.live_board.specs.declared.stops.Stops.{Stops}

-- the run so far, from a past on: its steps began before a cycle
record GoesOnSo (p : Past) (old : Keyboard) (to : ℕ) (k : Keyboard) : Type 0 where
  has_past : HasPast (gone_on p k.joint.steps) k
  more : old.joint.steps ≤ k.joint.steps
  before : AreBefore p old.joint.steps k.joint.steps to
  log_kept : HasKeptAll p old k

-- before its first step
goes_first : (p : Past) (old : Keyboard) (to : ℕ) → HasPast p old → GoesOnSo p old to (begun old)
goes_first p old to s = record {
  has_past = holds_still (gone_on p old.joint.steps) old (begun old) refl refl s.none_waits
      (subst (λ n. HasPast (gone_on p n) old) (sym s.steps) s);
  more = omega arith;
  before = λ j w l m h. absurd (omega (arith, l, m));
  log_kept = tally_first p old (begun old) refl refl refl;
}

-- a step more
module _ (p : Past) (old : Keyboard) (to : ℕ) (k new : Keyboard) (so : GoesOnSo p old to k) (next : IsNextStep to k new) where
  has_past_on : HasPast (gone_on p new.joint.steps) new
  has_past_on = one_on (gone_on p k.joint.steps) k so.has_past new next.by_what_waits.step next.by_what_waits.edges next.host

  one_step : new.joint.steps ≡ suc k.joint.steps
  one_step = (counted k.due k.joint new.joint new.seen next.by_what_waits.step).1

  says_on : Says (gone_on p k.joint.steps) (gone_on p new.joint.steps) new.seen.items.items
  says_on = says_one (gone_on p k.joint.steps) k so.has_past new next.by_what_waits.step next.by_what_waits.edges next.host

  before_on : AreBefore p old.joint.steps new.joint.steps to
  before_on j w from less h =
      let steps = one_step in
      let to_last : j < suc k.joint.steps = omega (arith, less, steps) in
      elim (last_or_before j k.joint.steps to_last) [
        | inl l ↦ so.before j w from l h
        | inr e ↦
            let there : state_of (gone_on p k.joint.steps) ≡ Some w = ap (state_at (story_of p)) (sym e) ∙ h in
            let same : so.has_past.world ≡ w = same_state (sym (here (gone_on p k.joint.steps) k so.has_past) ∙ there) in
            let soon = next.soon in
            let at = so.has_past.in_run.cycle in
            let c = ap (λ (u : World Beside). u.cycle) same in
            omega (arith, soon, at, c)
      ]

  goes_more : GoesOnSo p old to new
  goes_more = record {
    has_past = has_past_on;
    more = let m = so.more in let steps = one_step in omega (arith, m, steps);
    before = before_on;
    log_kept = tally_more p old k new so.has_past has_past_on one_step new.seen.items.items says_on
        next.by_what_waits.kept next.by_what_waits.risen so.log_kept;
  }

  meets : (stops : Stops) → met_at stops p k.joint.steps ≡ met_in stops k new
  meets stops = met_here stops p k new so.has_past has_past_on one_step says_on

-- steps that do nothing of what a run is to stop for
goes_unmet : (stops : Stops) (p : Past) (old : Keyboard) (to : ℕ) → HasPast p old → (n : ℕ) (k : Keyboard)
    → AreSteps (IsUnmetStep stops to) n (begun old) k
    → GoesOnSo p old to k × AreUnmet stops p old.joint.steps k.joint.steps
goes_unmet stops p old to s zero k h =
    subst (λ (x : Keyboard). GoesOnSo p old to x × AreUnmet stops p old.joint.steps x.joint.steps) (sym h)
    (goes_first p old to s, λ j l m. absurd (omega (arith, l, m)))
goes_unmet stops p old to s (suc n) new h =
    let so = goes_unmet stops p old to s n h.0 h.1 in (
      goes_more p old to h.0 new so.0 h.2.0,
      unmet_more stops p old.joint.steps h.0.joint.steps new.joint.steps so.1 (one_step p old to h.0 new so.0 h.2.0)
          (ap is_met (meets p old to h.0 new so.0 h.2.0 stops) ∙ h.2.1),
    )

fewer : (old new : Keyboard) (steps : Option ℕ) → IfSome steps (λ most. new.joint.steps < old.joint.steps + most)
    → AreFew old steps new
fewer old new None h = tt
fewer old new (Some most) h = omega (arith, h)

module _ (stops : Stops) (p : Past) (old : Keyboard) (cycles : ℕ) (steps : Option ℕ) (s : HasPast p old) where
  abbrev to : ℕ
  to = old.joint.cycle + cycles

  -- the run to its end
  gone_so : (end : RunEnd) (new : Keyboard) → RunsOn stops old cycles steps end new → GoesOnSo p old to new
  gone_so ends.Passed new h = (goes_unmet stops p old to s h.0 new h.1).0
  gone_so (ends.Met what) new h = goes_more p old to h.1 new (goes_unmet stops p old to s h.0 h.1 h.2).0 h.3
  gone_so ends.LastCycle new h = (goes_unmet stops p old to s h.0 new h.1).0
  gone_so (ends.Stuck place) new h =
      let k : Keyboard = h.1 in
      let so = (goes_unmet stops p old to s h.0 k h.2).0 in
      let same : new.joint.steps ≡ k.joint.steps = ap (λ (m : Machine). m.steps) h.3.joint in
      record {
        has_past = subst (λ n. HasPast (gone_on p n) new) (sym same)
            (holds_still (gone_on p k.joint.steps) k new h.3.joint (ap (λ (d : Due). d.edges.items) h.3.due)
            (ap (λ (d : Due). d.host.items) h.3.due ∙ so.has_past.none_waits) so.has_past);
        more = let m = so.more in omega (arith, m, same);
        before = subst (λ n. AreBefore p old.joint.steps n to) (sym same) so.before;
        log_kept = tally_still p old k new h.3.joint h.3.heard h.3.rises so.log_kept;
      }

  few_so : (end : RunEnd) (new : Keyboard) → RunsOn stops old cycles steps end new → AreFew old steps new
  few_so ends.Passed new h = h.2
  few_so (ends.Met what) new h = h.6
  few_so ends.LastCycle new h = fewer old new steps h.3.few
  few_so (ends.Stuck place) new h = fewer old new steps h.5.few

  ends_so : (end : RunEnd) (new : Keyboard) → RunsOn stops old cycles steps end new → EndsSo stops p old cycles steps end new
  ends_so ends.Passed new h = (h.3, (goes_unmet stops p old to s h.0 new h.1).1)
  ends_so (ends.Met what) new h =
      let so = goes_unmet stops p old to s h.0 h.1 h.2 in (
        h.1.joint.steps,
        one_step p old to h.1 new so.0 h.3,
        so.0.more,
        so.1,
        meets p old to h.1 new so.0 h.3 stops ∙ h.4,
        h.5,
      )
  ends_so ends.LastCycle new h = (h.2, h.3, (goes_unmet stops p old to s h.0 new h.1).1)
  ends_so (ends.Stuck place) new h =
      let k : Keyboard = h.1 in
      let so = goes_unmet stops p old to s h.0 k h.2 in
      let same : new.joint.steps ≡ k.joint.steps = ap (λ (m : Machine). m.steps) h.3.joint in (
        ap (λ n. state_at (story_of p) (suc n)) same ∙ no_further (gone_on p k.joint.steps) k so.0.has_past h.3.none,
        h.4,
        h.5,
        subst (λ n. AreUnmet stops p old.joint.steps n) (sym same) so.1,
      )

  -- the run from where a keyboard is has gone on with the run of its past
  pub has_run : (end : RunEnd) (new : Keyboard) → RunsOn stops old cycles steps end new → HasRun stops p old cycles steps end new
  has_run end new h = record {
    has_past = (gone_so end new h).has_past;
    before = (gone_so end new h).before;
    few = few_so end new h;
    ends = ends_so end new h;
  }

  -- and what happens in it is kept
  pub has_kept : (end : RunEnd) (new : Keyboard) → RunsOn stops old cycles steps end new → HasKeptAll p old new
  has_kept end new h = (gone_so end new h).log_kept
