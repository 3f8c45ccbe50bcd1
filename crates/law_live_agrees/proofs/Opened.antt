-- What an opened keyboard has been through.
use Rattle.std.proofs.Common.{◌≡◌, ◌≤◌, ◌<◌, ℕ, zero, suc, ◌+◌, ◌-◌, true, false, List, [], Some, None}
use Rattle.std.proofs.Common.{Ok, Err, refl, ap, sym, subst, ◌∙◌, inl, inr, arith}
use Rattle.std.proofs.lemmas.List.Elements.{All-cons, All-nil}
use Rattle.std.specs.declared.option.Option.{Option}
use Rattle.std.specs.declared.result.Result.{Result}
use Rattle.law_agreement.specs.Agreement.{AnyMemoryLaw}
use Rattle.law_agreement.specs.AnyKeys.{AnyKeysLaw}
use Rattle.board_terms.specs.Flips.{FlipsDataOrParity}
use Rattle.board_terms.specs.declared.event.HostAct.TheVariants.{Mask}
use Rattle.board_terms.specs.declared.event.HostEvent.{HostEvent}
use Rattle.fw_compile.specs.Image.{image_of}
use Rattle.joint_feed.proofs.Going.{same_state}
use Rattle.joint_feed.specs.Stories.{state_at}
use Rattle.joint_run.specs.Filled.{filled}
use Rattle.joint_run.specs.Joint.{Beside, joint_board}
use Rattle.joint_run.specs.Run.{World}
use Rattle.key_file.specs.Accepted.{IsLawfulFor, WritesByte}
use Rattle.layout_reader.specs.Layouts.{IsKeyLayout, KeyLayout}
use Rattle.law_live_agrees.proofs.Agreed.{any_use_is_lawful, fills_are_fine, logs_agree, never_stuck}
use Rattle.law_live_agrees.specs.Law.{history_of}
use Rattle.law_live_agrees.specs.Opened.{IsMasked, OpenedIsMasked, ReadyIsMasked, masked_at}
use Rattle.live_board.proofs.Stepping.{here}
use Rattle.live_board.proofs.Meeting.{rise_is_met}
use Rattle.live_board.proofs.Timed.{before, joined, step_timed}
use Rattle.live_board.specs.Calls.{IsActed}
use Rattle.live_board.specs.Pasts.{Past, acted, gone_on, state_of, story_of, untouched}
use Rattle.live_board.specs.Ready.{IsOpened}
use Rattle.live_board.specs.Running.{EndsSo, HasRun, at_rise, is_met}
use Rattle.live_board.specs.States.{HasPast}
use Rattle.live_board.specs.declared.parts.Parts.{Parts as Keyboard}
use Rattle.live_board.specs.declared.ran.RunEnd.{RunEnd}
use Rattle.live_board.specs.declared.ran.RunEnd.TheVariants as ends
use Rattle.live_board.specs.declared.refused.Refused.{Refused}
use Rattle.live_board.specs.declared.refused.Refused.TheVariants as R
use Rattle.live_board.specs.declared.stops.Stops.{Stops}
use Rattle.mcs48_ranges.specs.Sizes.{IsFine}

-- a run from power-on to stamp 0 ends there, or a cycle past it, if it isn't stuck on the way
module _ (p : Past) (old new : Keyboard) (end : RunEnd) (from : p.steps ≡ 0) (s : HasPast p old) (zero_cycle : old.joint.cycle ≡ 0)
    (r : HasRun (at_rise false) p old 4096 None end new) (goes : (n : ℕ) → (w : World Beside) × (state_at (story_of p) n ≡ Some w)) where
  least : (x : RunEnd) → EndsSo (at_rise false) p old 4096 None x new → 4096 ≤ new.joint.cycle
  least ends.Passed h = elim h.0 [ inl far ↦ omega (arith, far) | inr none ↦ absurd none ]
  least (ends.Met what) h =
      let e : true ≡ false = sym h.5 ∙ ap is_met (sym h.4) ∙ rise_is_met false p h.0 in absurd cc
  least ends.LastCycle h = absurd (let l = h.0 in let m = h.1.soon in omega (arith, l, m, zero_cycle))
  least (ends.Stuck place) h =
      absurd (let there = goes (suc new.joint.steps) in
      let e : None ≡ Some there.0 = sym h.0 ∙ there.1 in cc)

  at_end : state_at (story_of p) new.joint.steps ≡ Some r.has_past.world
  at_end = here (gone_on p new.joint.steps) new r.has_past

  most : (n : ℕ) → new.joint.steps ≡ n → new.joint.cycle ≤ 4097
  most zero is =
      let first : state_at (story_of p) 0 ≡ Some r.has_past.world = ap (state_at (story_of p)) (sym is) ∙ at_end in
      let begins : 0 ≡ r.has_past.world.cycle = ap (λ (w : World Beside). w.cycle) (same_state first) in
      let cycle : new.joint.cycle ≡ r.has_past.world.cycle = r.has_past.in_run.cycle in
      omega (arith, begins, cycle)
  most (suc n) is =
      let last : state_at (story_of p) (suc n) ≡ Some r.has_past.world = ap (state_at (story_of p)) (sym is) ∙ at_end in
      let w = before (story_of p) n r.has_past.world last in
      let steps : old.joint.steps ≡ 0 = s.steps ∙ from in
      let early : w.0.cycle < old.joint.cycle + 4096 = r.before n w.0 (omega (arith, steps)) (omega (arith, is)) w.1 in
      let step = (step_timed (joint_board p.edges p.events) p.bytes w.0 r.has_past.world
      (joined (story_of p) n w.0 r.has_past.world w.1 last)).1 in
      let cycle : new.joint.cycle ≡ r.has_past.world.cycle = r.has_past.in_run.cycle in
      omega (arith, early, step, cycle, zero_cycle)

  -- a run of 4,096 cycles from power-on ends at stamp 0 or a cycle past it
  pub ends_at_0 : (4096 ≤ new.joint.cycle) × (new.joint.cycle ≤ 4097)
  ends_at_0 = (least end r.ends, most new.joint.steps refl)

module _ (law : AnyKeysLaw) (memory : AnyMemoryLaw) (layout : KeyLayout) (fill : ℕ) (fine : IsKeyLayout layout)
    (small : fill < 256) where
  abbrev bytes : List ℕ
  bytes = image_of layout

  masks : (stamp steps stop : ℕ) → IsLawfulFor layout (history_of (masked_at fill bytes stamp steps) stop)
  masks stamp steps stop =
      let e : HostEvent = record { stamp = stamp; act = Mask } in
      any_use_is_lawful layout (masked_at fill bytes stamp steps) stop refl tt
      (All-cons (λ (event : HostEvent). WritesByte event.act) e [] tt (All-nil (λ (event : HostEvent). WritesByte event.act)))
      (All-cons (λ (event : HostEvent). FlipsDataOrParity event.act) e [] tt
      (All-nil (λ (event : HostEvent). FlipsDataOrParity event.act)))

  goes : (p : Past) → p.bytes ≡ bytes → p.held ≡ filled fill → (w : World Beside) × (state_of p ≡ Some w)
  goes p is held =
      never_stuck law layout p fine is (subst (λ m. IsFine m) (sym held) (fills_are_fine fill small))

  -- a past in which nothing but the mask happened
  is_masked : (stamp steps : ℕ) (k : Keyboard) → stamp ≤ 1 → HasPast (masked_at fill bytes stamp steps) k
      → IsMasked layout fill k
  is_masked stamp steps k soon s = record {
    stamp = stamp;
    soon = soon;
    steps = steps;
    has_past = s;
    fine = fills_are_fine fill small;
    lawful = masks stamp steps;
    agrees =
        logs_agree memory layout (masked_at fill bytes stamp steps) 0 k s fine refl (fills_are_fine fill small)
        (masks stamp steps 0);
  }

  -- the mask is done
  masked : (old new : Keyboard) (answer : Result (Unit {0}) Refused) (steps : ℕ) → HasPast (untouched fill bytes steps) old
      → 4096 ≤ old.joint.cycle → old.joint.cycle ≤ 4097 → IsActed Mask old answer new → IsMasked layout fill new
  masked old new (Ok done) steps s late soon a =
      is_masked (old.joint.cycle - 4096) (suc steps) new (omega (arith, soon)) (a.1 (untouched fill bytes steps) s)
  masked old new (Err R.Early) steps s late soon a = absurd (let l : old.joint.cycle < 4096 = a.0 in omega (arith, l, late))
  masked old new (Err R.LastCycle) steps s late soon a = absurd (let l = a.0 in omega (arith, l, soon))
  masked old new (Err R.Full) steps s late soon a = absurd (let e : false ≡ true = a.0.2 in cc)
  masked old new (Err (R.Stuck place)) steps s late soon a =
      absurd (let w = goes (acted (untouched fill bytes steps) (old.joint.cycle - 4096) Mask) refl refl in
      let e : None ≡ Some w.0 = sym (a.0.2 (untouched fill bytes steps) s) ∙ w.1 in cc)

  -- a keyboard that was opened with a layout's image was masked at stamp 0 or 1, and agrees with the model
  pub opened_by : (k : Keyboard) → IsOpened fill bytes k → IsMasked layout fill k
  opened_by k o =
      let p : Past = untouched fill bytes 0 in
      let ends = ends_at_0 p o.first o.middle o.end refl o.at_first o.first_cycle o.ran
      (λ n. goes (gone_on p n) refl refl) in
      masked o.middle k o.answer o.middle.joint.steps o.ran.has_past ends.0 ends.1 o.masked

  -- and it stays so as the run goes on
  pub ran_on : (stops : Stops) (old new : Keyboard) (cycles : ℕ) (steps : Option ℕ) (end : RunEnd)
      → ((p : Past) → HasPast p old → HasRun stops p old cycles steps end new) → IsMasked layout fill old
      → IsMasked layout fill new
  ran_on stops old new cycles steps end runs m =
      is_masked m.stamp new.joint.steps new m.soon (runs (masked_at fill bytes m.stamp m.steps) m.has_past).has_past

-- a keyboard opened with a layout's image, or switched off and on, was masked at stamp 0 or 1, and agrees with the
-- model
pub opened_is_masked : AnyKeysLaw → AnyMemoryLaw → OpenedIsMasked
opened_is_masked law memory layout fill k fine small o = opened_by law memory layout fill fine small k o

-- a keyboard that was run until its line rose, or for a second, was masked at stamp 0 or 1, and agrees with the model
pub ready_is_masked : AnyKeysLaw → AnyMemoryLaw → ReadyIsMasked
ready_is_masked law memory layout k fine r =
    let m = opened_by law memory layout 0 fine (omega arith) r.opened r.is_opened in
    ran_on law memory layout 0 fine (omega arith) (at_rise true) r.opened k 400000 None r.end r.ran m
