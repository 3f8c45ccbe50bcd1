-- A joint step is made, and the events of the history go on.
use Rattle.std.proofs.Common.{◌≡◌, ◌≤◌, ◌<◌, ℕ, suc, ◌+◌, ◌-◌, List, [], length, take, drop, Some, None}
use Rattle.std.proofs.Common.{Ok, Err, refl, ap, sym, subst, ◌∙◌, ◌++◌, arith, add-one}
use Rattle.std.proofs.lemmas.List.{length-take, length-drop}
use Rattle.std.specs.declared.option.Option.{Option}
use Rattle.board_terms.specs.Edges.{AreInOrder}
use Rattle.board_terms.specs.declared.event.Edge.{Edge}
use Rattle.key_file.specs.Accepted.{IsThin}
use Rattle.host_turn.specs.declared.stamped.Stamped.{Stamped}
use Rattle.joint_run.specs.declared.due.Due.{Due}
use Rattle.joint_run.specs.declared.due.Seen.{Seen}
use Rattle.joint_run.specs.declared.machine.Machine.{Machine}
use Rattle.joint_run.specs.Due.{due_step, made_first, machine_after, IsSeen, IsJointStep}
use Rattle.joint_run.specs.History.{IsInRunFrom, IsDueOf, GoesOn as RunGoesOn, IsStepOfRun}
use Rattle.joint_run.specs.Joint.{Beside, joint_board, joint_start_of, log_of}
use Rattle.joint_run.specs.Run.{World, run_at}
use Rattle.mcs48_core.specs.declared.stepping.Stuck.{Stuck}
use Rattle.joint_feed.specs.declared.course.Course.{Course}
use Rattle.joint_feed.specs.declared.ahead.Ahead.{Ahead}
use Rattle.joint_feed.specs.Course.{IsOnCourse}
use Rattle.joint_feed.specs.Ahead.{IsFed}
use Rattle.joint_feed.specs.Stories.{Story, state_at}
use Rattle.joint_feed.proofs.Counts.{made_few, done_few}
use Rattle.joint_feed.proofs.Feeding.{all_of_four, thin_after, unmade_before, four_are_all, rest_unmade, drop_more, cut_at_four}

-- what is handed in is what the step asks for
pub due_of : (s : Story) (it : Course) (h : IsOnCourse s it) → IsThin s.edges → IsDueOf s.edges s.events it.ahead.made h.world it.ahead.due
due_of s it h thin =
    let left = drop it.ahead.made s.edges in
    record {
      next = h.fed.edges_next ∙ all_of_four left ∙ ap (λ (v : List Edge). take (length v) left) (sym h.fed.edges_next);
      all = ap (λ (v : List Edge). made_first h.world.cycle (drop (length v) left)) h.fed.edges_next
          ∙ four_are_all h.world.cycle left (thin_after it.ahead.made s.edges thin) h.unreached;
      host = h.fed.host_next ∙ ap (λ (n : ℕ). take 2 (drop n s.events)) h.done;
    }

-- what a step that was made comes to
pub record IsMade (due : Due) (old : Machine) (seen : Seen) (new : Machine) : Type 0 where
  pub world : World Beside
  pub step : due_step due old ≡ Some world
  pub after : new ≡ machine_after due old world
  pub seen_so : IsSeen due old world seen

made_if : (due : Due) (old : Machine) (seen : Seen) (new : Machine) (o : Option (World Beside))
    → due_step due old ≡ o → IsJointStep due old o (Ok seen) new → IsMade due old seen new
made_if due old seen new None e h = absurd h
made_if due old seen new (Some w) e h = record { world = w; step = e; after = h.0; seen_so = h.1 }

-- a step that answers what was seen was made, and the machine is as that step leaves it
pub made : (due : Due) (old : Machine) (seen : Seen) (new : Machine)
    → IsJointStep due old (due_step due old) (Ok seen) new → IsMade due old seen new
made due old seen new h = made_if due old seen new (due_step due old) refl h

-- the state that the machine is at
pub here : (s : Story) (it : Course) (h : IsOnCourse s it) → state_at s it.joint.steps ≡ Some h.world
here s it h = subst (λ (bytes : List ℕ). run_at (joint_board s.edges s.events) bytes (joint_start_of s.held) it.joint.steps
    ≡ Some h.world) h.image h.in_run.run

-- these items are what the step after the first k puts after the log
abbrev pub IsSaid : Story → ℕ → List Stamped → Type 0
IsSaid s k items =
    (w v : World Beside) → state_at s k ≡ Some w → state_at s (suc k) ≡ Some v
    → log_of v.board ≡ log_of w.board ++ items

-- what is in equal options is equal
pub same_state : {w v : World Beside} → Some w ≡ Some v → w ≡ v
same_state h = cc h

module _ (s : Story) (it : Course) (new : Machine) (seen : Seen) (h : IsOnCourse s it) (thin : IsThin s.edges) (order : AreInOrder s.edges)
    (is : IsJointStep it.ahead.due it.joint (due_step it.ahead.due it.joint) (Ok seen) new)
    (run : IsStepOfRun it.ahead.due it.joint (Ok seen) new) where
  abbrev pub old : World Beside
  old = h.world

  abbrev pub left : List Edge
  left = drop it.ahead.made s.edges

  -- the run of the history goes on by the step
  pub on : RunGoesOn s.held s.edges s.events it.ahead.made old seen new
  on = run s.held s.edges s.events it.ahead.made old order h.in_run (due_of s it h thin)

  -- the step was made, and the machine is as it leaves it
  pub step : IsMade it.ahead.due it.joint seen new
  step = made it.ahead.due it.joint seen new is

  -- the machine has made one step more
  pub steps_more : new.steps ≡ suc it.joint.steps
  steps_more = ap (λ m. m.steps) step.after ∙ add-one it.joint.steps

  -- the machine is as many cycles later as the step took
  pub cycle_more : it.joint.cycle + seen.cycles ≡ new.cycle
  cycle_more = step.seen_so.cycles ∙ sym (ap (λ m. m.cycle) step.after)

  -- the events that were made and done are among those that were handed in
  pub edges_few : seen.edges ≤ length it.ahead.due.edges.items
  edges_few = let a = made_few it.joint.cycle it.ahead.due.edges.items in let b = step.seen_so.edges in omega (arith, a, b)

  -- the step did no more events than were handed in
  pub host_few : seen.host ≤ length it.ahead.due.host.items
  host_few = let a = done_few it.ahead.due it.joint step.world step.step in let b = step.seen_so.host in omega (arith, a, b)

  -- they are there
  pub edges_there : it.ahead.made + seen.edges ≤ length s.edges
  edges_there =
      let a = made_few it.joint.cycle it.ahead.due.edges.items in
      let b = step.seen_so.edges in
      let c : length it.ahead.due.edges.items ≡ length (take 4 left) = ap length h.fed.edges_next in
      let d = length-take 4 left in
      let e = h.made_within in
      let f : length left ≡ length s.edges - it.ahead.made = length-drop it.ahead.made s.edges in
      omega (arith, a, b, c, d, e, f)

  -- the events that are done are the history's
  pub host_there : it.ahead.done + seen.host ≤ length s.events
  host_there =
      let a = done_few it.ahead.due it.joint step.world step.step in
      let b = step.seen_so.host in
      let c : length it.ahead.due.host.items ≡ length (take 2 (drop it.ahead.done s.events)) = ap length h.fed.host_next in
      let d = length-take 2 (drop it.ahead.done s.events) in
      let e = h.done_within in
      let f : length (drop it.ahead.done s.events) ≡ length s.events - it.ahead.done = length-drop it.ahead.done s.events in
      omega (arith, a, b, c, d, e, f)

  -- no edge that is left was reached at the step's first cycle
  none_left : made_first old.cycle (drop (it.ahead.made + seen.edges) s.edges) ≡ []
  none_left =
      let due = it.ahead.due.edges.items in
      let count : seen.edges ≡ length (made_first old.cycle (take 4 left)) =
      step.seen_so.edges ∙ ap (λ (n : ℕ). length (made_first n due)) h.in_run.cycle
      ∙ ap (λ (v : List Edge). length (made_first old.cycle v)) h.fed.edges_next in
      let rest = rest_unmade old.cycle (take 4 left) (drop (length (take 4 left)) left)
      (four_are_all old.cycle left (thin_after it.ahead.made s.edges thin) h.unreached) in
      ap (made_first old.cycle) (sym (drop_more it.ahead.made seen.edges (it.ahead.made + seen.edges) s.edges refl))
      ∙ ap (λ (n : ℕ). made_first old.cycle (drop n left)) count
      ∙ ap (λ (v : List Edge). made_first old.cycle (drop (length (made_first old.cycle (take 4 left))) v)) (sym (cut_at_four left))
      ∙ rest

  -- the state that the step leads to, as the run counts its steps
  there : state_at s (suc it.joint.steps) ≡ Some on.next
  there =
      let image : new.image.bytes ≡ s.bytes = ap (λ m. m.image.bytes) step.after ∙ h.image in
      subst (λ (k : ℕ). state_at s k ≡ Some on.next) steps_more
      (subst (λ (bytes : List ℕ). run_at (joint_board s.edges s.events) bytes (joint_start_of s.held) new.steps ≡ Some on.next)
      image on.in_run.run)

  -- what is reported is what the step puts after the log
  pub is_said : IsSaid s it.joint.steps seen.items.items
  is_said w v from to =
      let first : Some h.world ≡ Some w = sym (here s it h) ∙ from in
      let next : Some on.next ≡ Some v = sym there ∙ to in
      ap (λ (u : World Beside). log_of u.board) (sym (same_state next)) ∙ on.log
      ∙ ap (λ (u : World Beside). log_of u.board ++ seen.items.items) (same_state first)

  -- after the step the machine is at a later cycle
  pub later : 0 < seen.cycles → it.joint.cycle < new.cycle
  later some = let c = cycle_more in omega (arith, c, some)

  -- the step is in the course again
  pub on_again : (fill : ℕ) (ahead : Ahead) → 0 < seen.cycles → seen.cycles < 3 → IsFed s.edges s.events ahead
      → ahead.made ≡ it.ahead.made + seen.edges
      → ahead.done ≡ it.ahead.done + seen.host → IsOnCourse s (record { joint = new; ahead = ahead; seen = seen; fill = fill })
  on_again fill ahead some few fed made_now done_now =
      let next_cycle : old.cycle + seen.cycles ≡ on.next.cycle = ap (λ (n : ℕ). n + seen.cycles) (sym h.in_run.cycle) ∙ cycle_more
      ∙ on.in_run.cycle in
      record {
        world = on.next;
        image = ap (λ m. m.image.bytes) step.after ∙ h.image;
        few = let a = h.few in let b = steps_more in let d = cycle_more in omega (arith, a, b, d, some);
        in_run = subst (λ (n : ℕ). IsInRunFrom s.held s.edges s.events new n on.next) (sym made_now) on.in_run;
        unreached =
            let soon : on.next.cycle - 2 ≤ old.cycle = omega (arith, next_cycle, few) in
            subst (λ (n : ℕ). made_first (on.next.cycle - 2) (drop n s.edges) ≡ []) (sym made_now)
            (unmade_before (on.next.cycle - 2) old.cycle (drop (it.ahead.made + seen.edges) s.edges) soon none_left);
        fed = fed;
        done = let a = h.done in let b = on.done in omega (arith, done_now, a, b);
        done_within = let a = host_there in omega (arith, a, done_now);
        made_within = let a = edges_there in omega (arith, a, made_now);
      }

-- if the processor is stuck the run has no further state
pub no_further : (s : Story) (it : Course) (new : Machine) (stuck : Stuck) → IsOnCourse s it → IsThin s.edges → AreInOrder s.edges
    → IsStepOfRun it.ahead.due it.joint (Err stuck) new → state_at s (suc it.joint.steps) ≡ None
no_further s it new stuck h thin order run =
    let none = run s.held s.edges s.events it.ahead.made h.world order h.in_run (due_of s it h thin) in
    subst (λ (bytes : List ℕ). run_at (joint_board s.edges s.events) bytes (joint_start_of s.held) (suc it.joint.steps) ≡ None) h.image none

-- where neither machine nor events have changed the course is the same
pub on_moved : (s : Story) (it : Course) (joint : Machine) (seen : Seen) (fill : ℕ) → joint ≡ it.joint → IsOnCourse s it
    → IsOnCourse s (record { joint = joint; ahead = it.ahead; seen = seen; fill = fill })
on_moved s it joint seen fill e h =
    let still : IsOnCourse s (record { joint = it.joint; ahead = it.ahead; seen = seen; fill = fill }) = record {
      world = h.world;
      image = h.image;
      few = h.few;
      in_run = h.in_run;
      unreached = h.unreached;
      fed = h.fed;
      done = h.done;
      done_within = h.done_within;
      made_within = h.made_within;
    } in
    subst (λ (m : Machine). IsOnCourse s (record { joint = m; ahead = it.ahead; seen = seen; fill = fill })) (sym e) still
