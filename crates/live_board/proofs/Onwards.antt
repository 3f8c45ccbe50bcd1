-- Going on from where a keyboard is, by quiet steps and a step after them.
use Rattle.std.proofs.Common.{◌≡◌, ◌≤◌, ◌<◌, ℕ, zero, suc, ◌+◌, ◌-◌, true, false, List, [], ◌∷◌, ◌++◌, drop}
use Rattle.std.proofs.Common.{None, Some, Ok, Err, refl, ap, sym, subst, ◌∙◌, ◌&&◌, ◌⊎◌, inl, inr, arith}
use Rattle.std.specs.Prelude.{map}
use Rattle.std.specs.declared.option.Option.{Option}
use Rattle.arrayvec.specs.ArrayVec.{ArrayVec}
use Rattle.board_terms.specs.declared.event.HostAct.{HostAct}
use Rattle.board_terms.specs.declared.event.HostEvent.{HostEvent}
use Rattle.board_terms.specs.declared.lines.Lines.{Lines}
use Rattle.joint_run.specs.Cycle.{outside_wires}
use Rattle.host_turn.specs.declared.stamped.Stamped.{Stamped}
use Rattle.joint_glide.specs.Uneventful.{AreUneventful, HasGone, IsUneventful}
use Rattle.joint_run.specs.Due.{due_step, IsJointStep}
use Rattle.joint_run.specs.Joint.{Beside}
use Rattle.joint_run.specs.Run.{World}
use Rattle.joint_run.specs.declared.due.Due.{Due}
use Rattle.joint_run.specs.declared.due.Seen.{Seen}
use Rattle.joint_run.specs.declared.machine.Machine.{Machine}
use Rattle.joint_run.specs.declared.outside.Outside.{Outside}
use Rattle.mcs48_core.specs.declared.stepping.Stuck.{Stuck}
use Rattle.live_board.proofs.Calling.{stuck_at}
use Rattle.live_board.proofs.Gliding.{counted_quietly, steady, stuck_same}
use Rattle.live_board.proofs.Meeting.{flat_wires, lines_of, none_of, not_met}
use Rattle.live_board.proofs.Passed.{still_none}
use Rattle.live_board.proofs.Stepping.{counted}
use Rattle.live_board.proofs.Tallying.{still_rise}
use Rattle.live_board.specs.Calls.{place_of}
use Rattle.live_board.specs.Heard.{heard_all, rise, said_so}
use Rattle.live_board.specs.Onward.{AreSteps, IsNextStep, IsStepBy, IsStuckAt, IsUnmetStep, begun, due_of, met_in}
use Rattle.live_board.specs.Passing.{at_fall, passed_by}
use Rattle.live_board.specs.Rising.{irq_of, rose}
use Rattle.live_board.specs.Running.{counter_met, is_met, item_met, met_by, wires_met}
use Rattle.live_items.specs.declared.happened.Happened.{Happened}
use Rattle.live_board.specs.declared.irq.Irq.{Irq}
use Rattle.live_board.specs.declared.parts.Parts.{Parts as Keyboard}
use Rattle.live_board.specs.declared.stops.Met.{Met}
use Rattle.live_board.specs.declared.stops.Stops.{Stops}

-- a quiet step from where a keyboard is
module _ (k : Keyboard) (m : Machine) (q : IsUneventful k.due k.joint m) where
  abbrev after : Keyboard
  after = record k { joint = m; seen = q.seen }

  same : m.outside ≡ k.joint.outside
  same = ap (λ (x : Machine). x.outside) q.parts

  -- it is a step by what waits
  pub quiet_step : IsStepBy k.due k after
  quiet_step = record {
    step = q.step;
    edges = ap (λ e. drop e k.due.edges.items) (sym q.edges);
    kept = sym
        (ap (λ (o : Outside). heard_all k.heard (passed_by (at_fall k.joint.outside) k.joint.cycle o.clock ++ map said_so q.seen.items.items)) same
        ∙ ap (λ (l : List Happened). heard_all k.heard (l ++ map said_so q.seen.items.items)) (still_none k.joint.outside k.joint.cycle)
        ∙ ap (λ (items : List Stamped). heard_all k.heard (map said_so items)) q.items);
    risen =
        let flat = ap (λ (o : Outside). rise (irq_of k.joint.outside.desk.port) (irq_of o.desk.port)) same
        ∙ still_rise (irq_of k.joint.outside.desk.port) in
        omega (arith, flat);
  }

  -- if it ends in time, it begins in time
  pub quiet_next : (to : ℕ) → m.cycle ≤ to → IsNextStep to k after
  quiet_next to room = record {
    soon = let some = q.some in let at = ap (λ (x : Machine). x.cycle) q.parts in omega (arith, some, at, room);
    by_what_waits = quiet_step;
    host = refl;
  }

  -- it doesn't raise the line
  pub quiet_line : rose (irq_of k.joint.outside.desk.port) (irq_of m.outside.desk.port) ≡ false
  quiet_line = ap (λ (o : Outside). rose (irq_of k.joint.outside.desk.port) (irq_of o.desk.port)) same
      ∙ steady (irq_of k.joint.outside.desk.port)

  -- it does nothing that a run can be to stop for, if no place is asked for
  pub quiet_met : (stops : Stops) → stops.counter ≡ None → is_met (met_in stops k after) ≡ false
  quiet_met stops none =
      let lines : lines_of m ≡ lines_of k.joint = (λ i. outside_wires (q.latch i) (same i)) in
      let wire : wires_met (lines_of k.joint) (lines_of m) ≡ false =
      ap (λ (l : Lines). wires_met (lines_of k.joint) l) lines ∙ flat_wires (lines_of k.joint) in
      none_of (stops.rise && rose (irq_of k.joint.outside.desk.port) (irq_of m.outside.desk.port))
      (stops.item && item_met q.seen.items.items) (stops.wires && wires_met (lines_of k.joint) (lines_of m))
      (counter_met stops.counter m.mcu.pc)
      (not_met stops.rise _ quiet_line) (not_met stops.item _ (ap item_met q.items)) (not_met stops.wires _ wire)
      (ap (λ o. counter_met o m.mcu.pc) none)

-- quiet steps of at most so many cycles from a keyboard on are steps of this kind
abbrev pub AreQuietly : (Keyboard → Keyboard → Type 0) → ℕ → ℕ → Type 0
AreQuietly is_so from until =
    (k : Keyboard) (m : Machine) (q : IsUneventful k.due k.joint m) → from ≤ k.joint.cycle → m.cycle ≤ until
    → is_so k (record k { joint = m; seen = q.seen })

-- in a run. If it is to stop at a place, no cycle is left for a quiet step
pub quiet_unmet : (stops : Stops) (to from most : ℕ) → (most ≡ 0) ⊎ (stops.counter ≡ None) → from + most ≤ to
    → AreQuietly (IsUnmetStep stops to) from (from + most)
quiet_unmet stops to from most (inl zeroes) room k m q later soon =
    let some = q.some in
    let at = ap (λ (x : Machine). x.cycle) q.parts in
    absurd (omega (arith, zeroes, later, soon, some, at))
quiet_unmet stops to from most (inr none) room k m q later soon =
    (quiet_next k m q to (omega (arith, room, soon)), quiet_met k m q stops none)

-- a run goes on by quiet steps
pub quiet_onward : (is_so : Keyboard → Keyboard → Type 0) (n : ℕ) (from k : Keyboard) → AreSteps is_so n from k → (until count : ℕ)
    → AreQuietly is_so k.joint.cycle until → (m : Machine) → AreUneventful k.due 2048 count k.joint m → m.cycle ≤ until
    → (all : ℕ) × (seen : Seen) × AreSteps is_so all from (record k { joint = m; seen = seen })
quiet_onward is_so n from k so until zero quietly m h room =
    (n, k.seen, subst (λ (x : Machine). AreSteps is_so n from (record k { joint = x; seen = k.seen })) (sym h) so)
quiet_onward is_so n from k so until (suc count) quietly m h room =
    let between : Machine = h.0 in
    let q : IsUneventful k.due between m = h.2 in
    let some = q.some in
    let at = ap (λ (x : Machine). x.cycle) q.parts in
    let before = quiet_onward is_so n from k so until count quietly between h.1 (omega (arith, some, at, room)) in
    let here : Keyboard = record k { joint = between; seen = before.1 } in
    let later = (counted_quietly k.due 2048 count k.joint between h.1).cycles in
    (suc before.0, q.seen, (here, before.2, quietly here m q (omega (arith, later)) room))

-- quiet steps in time, and the step after them
module _ (k new : Keyboard) (most to : ℕ) (is_so : Keyboard → Keyboard → Type 0) (n : ℕ) (from : Keyboard)
    (so : AreSteps is_so n from k) (room : k.joint.cycle + most < to)
    (quietly : AreQuietly is_so k.joint.cycle (k.joint.cycle + most))
    (g : HasGone k.due 2048 most k.joint (Ok new.seen) new.joint)
    (edges : new.due.edges.items ≡ drop new.seen.edges k.due.edges.items) (host : new.due.host ≡ k.due.host) (was : Irq)
    (line : was ≡ irq_of k.joint.outside.desk.port)
    (kept : new.heard ≡ heard_all k.heard (passed_by (at_fall k.joint.outside) (new.joint.cycle - new.seen.cycles)
    new.joint.outside.clock ++ map said_so new.seen.items.items))
    (risen : new.rises ≡ k.rises + rise was (irq_of new.joint.outside.desk.port)) where
  abbrev quiet : (all : ℕ) × (seen : Seen) × AreSteps is_so all from (record k { joint = g.last; seen = seen })
  quiet = quiet_onward is_so n from k so (k.joint.cycle + most) g.count quietly g.last g.quiet g.within

  -- the keyboard before that step
  abbrev pub last_of : Keyboard
  last_of = record k { joint = g.last; seen = quiet.1 }

  outside_kept : g.last.outside ≡ k.joint.outside
  outside_kept = (counted_quietly k.due 2048 g.count k.joint g.last g.quiet).outside

  -- it is a step by what waits, and begins in time
  pub last_step : IsNextStep to last_of new
  last_step = record {
    soon = let within = g.within in omega (arith, within, room);
    by_what_waits = record {
      step = g.step;
      edges = edges;
      kept =
          let cycles = (counted k.due g.last new.joint new.seen g.step).0 in
          let at : new.joint.cycle - new.seen.cycles ≡ g.last.cycle = omega (arith, cycles) in
          kept
          ∙ ap (λ (c : ℕ). heard_all k.heard (passed_by (at_fall k.joint.outside) c new.joint.outside.clock
          ++ map said_so new.seen.items.items)) at
          ∙ ap (λ (o : Outside). heard_all k.heard (passed_by (at_fall o) g.last.cycle new.joint.outside.clock
          ++ map said_so new.seen.items.items)) (sym outside_kept);
      risen = risen
          ∙ ap (λ (i : Irq). k.rises + rise i (irq_of new.joint.outside.desk.port))
          (line ∙ ap (λ (o : Outside). irq_of o.desk.port) (sym outside_kept));
    };
    host = host;
  }

  -- what the step does of what the run is to stop for, as the machines after it and before the quiet steps show
  pub met_before : (stops : Stops) → met_in stops last_of new ≡ met_by stops (irq_of k.joint.outside.desk.port) (lines_of k.joint) new
  met_before stops =
      let latch : g.last.mcu.p2 ≡ k.joint.mcu.p2 = (counted_quietly k.due 2048 g.count k.joint g.last g.quiet).latch in
      (λ i. met_by stops (irq_of (outside_kept i).desk.port) (outside_wires (latch i) (outside_kept i)) new)

  -- if that step is of this kind too, the run goes on
  pub goes_onward : is_so last_of new → (all : ℕ) × AreSteps is_so all from new
  goes_onward it = (suc quiet.0, (last_of, quiet.2, it))

  -- if it does what the run is to stop for, the run ends there
  pub ends_met : (stops : Stops) (what : Met) (Few : Type 0)
      → met_by stops (irq_of k.joint.outside.desk.port) (lines_of k.joint) new ≡ what → is_met what ≡ true → Few
      → (all : ℕ) × (before : Keyboard) × AreSteps is_so all from before × IsNextStep to before new
      × (met_in stops before new ≡ what) × (is_met what ≡ true) × Few
  ends_met stops what Few met is few = (quiet.0, last_of, quiet.2, last_step, met_before stops ∙ met, is, few)

  -- if it does nothing of it, it is a step of a run that is to stop
  pub unmet_step : (stops : Stops) → is_met (met_by stops (irq_of k.joint.outside.desk.port) (lines_of k.joint) new) ≡ false
      → IsUnmetStep stops to last_of new
  unmet_step stops flat = (last_step, ap is_met (met_before stops) ∙ flat)

-- no step follows where the processor is stuck
pub stuck_none : (due : Due) (old new : Machine) (stuck : Stuck) (o : Option (World Beside)) → IsJointStep due old o (Err stuck) new → o ≡ None
stuck_none due old new stuck None h = refl
stuck_none due old new stuck (Some w) h = absurd h

-- if the processor is stuck after quiet steps, the run ends there, by a last keyboard that is stuck
pub stuck_onward : (k new : Keyboard) (most : ℕ) (is_so : Keyboard → Keyboard → Type 0) (n : ℕ) (from : Keyboard) (stuck : Stuck)
    → AreSteps is_so n from k → AreQuietly is_so k.joint.cycle (k.joint.cycle + most)
    → HasGone k.due 2048 most k.joint (Err stuck) new.joint → new.due ≡ k.due → new.heard ≡ k.heard → new.rises ≡ k.rises
    → (all : ℕ) × (last : Keyboard) × AreSteps is_so all from last × IsStuckAt last new × (stuck ≡ place_of new.joint)
stuck_onward k new most is_so n from stuck so quietly g due heard rises =
    let quiet = quiet_onward is_so n from k so (k.joint.cycle + most) g.count quietly g.last g.quiet g.within in
    let is : new.joint ≡ g.last = stuck_same k.due g.last new.joint stuck (due_step k.due g.last) g.step in (
      quiet.0,
      record k { joint = g.last; seen = quiet.1 },
      quiet.2,
      record {
        none = stuck_none k.due g.last new.joint stuck (due_step k.due g.last) g.step;
        joint = is;
        due = due;
        heard = heard;
        rises = rises;
      },
      stuck_at k.due g.last new.joint stuck (due_step k.due g.last) g.step ∙ ap place_of (sym is),
    )

-- the host's event, as a list of its own, with the edges that wait
same_due : (k : Keyboard) (act : HostAct) (host : ArrayVec HostEvent)
    → host.items ≡ record { stamp = k.joint.cycle - 4096; act = act } ∷ []
    → ◌≡◌ {A = Due} (record { edges = k.due.edges; host = host }) (due_of act k)
same_due k act host only = ap (λ (items : List HostEvent). record { edges = k.due.edges; host = record { items = items } }) only

-- a step by such events is the host's step
pub host_step : (k : Keyboard) (act : HostAct) (host : ArrayVec HostEvent)
    → host.items ≡ record { stamp = k.joint.cycle - 4096; act = act } ∷ [] → (new : Keyboard)
    → IsJointStep (record { edges = k.due.edges; host = host }) k.joint (due_step (record { edges = k.due.edges; host = host }) k.joint)
    (Ok new.seen) new.joint
    → new.due.edges.items ≡ drop new.seen.edges k.due.edges.items
    → new.heard ≡ heard_all k.heard (passed_by (at_fall k.joint.outside) (new.joint.cycle - new.seen.cycles)
    new.joint.outside.clock ++ map said_so new.seen.items.items)
    → new.rises ≡ rise (irq_of k.joint.outside.desk.port) (irq_of new.joint.outside.desk.port)
    → IsStepBy (due_of act k) (begun k) new
host_step k act host only new step edges kept risen = record {
  step = subst (λ (d : Due). IsJointStep d k.joint (due_step d k.joint) (Ok new.seen) new.joint) (same_due k act host only) step;
  edges = edges;
  kept =
      let cycles = (counted (record { edges = k.due.edges; host = host }) k.joint new.joint new.seen step).0 in
      let at : new.joint.cycle - new.seen.cycles ≡ k.joint.cycle = omega (arith, cycles) in
      kept
      ∙ ap (λ (c : ℕ). heard_all k.heard (passed_by (at_fall k.joint.outside) c new.joint.outside.clock
      ++ map said_so new.seen.items.items)) at;
  risen = omega (arith, risen);
}

-- and where the processor is stuck the host's call makes none
pub no_step : (k : Keyboard) (act : HostAct) (host : ArrayVec HostEvent)
    → host.items ≡ record { stamp = k.joint.cycle - 4096; act = act } ∷ [] → (new : Machine) (stuck : Stuck)
    → IsJointStep (record { edges = k.due.edges; host = host }) k.joint (due_step (record { edges = k.due.edges; host = host }) k.joint)
    (Err stuck) new → due_step (due_of act k) k.joint ≡ None
no_step k act host only new stuck step =
    subst (λ (d : Due). due_step d k.joint ≡ None) (same_due k act host only)
    (stuck_none (record { edges = k.due.edges; host = host }) k.joint new stuck
    (due_step (record { edges = k.due.edges; host = host }) k.joint) step)
