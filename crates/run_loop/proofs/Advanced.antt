-- Steps were made one after another, and what the last one took is counted.
use Rattle.std.proofs.Common.{◌≡◌, ◌≤◌, ◌<◌, ℕ, suc, ◌+◌, List, length, Some, ap, sym, subst, ◌∙◌, arith}
use Rattle.run_probes.specs.Probes.{Watch}
use Rattle.host_turn.specs.declared.stamped.Stamped.{Stamped}
use Rattle.joint_feed.proofs.Going.{edges_few as edges_taken, here, host_few as host_taken}
use Rattle.joint_feed.specs.Ahead.{HasTaken, IsFed}
use Rattle.joint_feed.specs.Course.{IsOnCourse}
use Rattle.joint_feed.specs.Stories.{Story, state_at}
use Rattle.joint_feed.specs.declared.ahead.Ahead.{Ahead}
use Rattle.joint_feed.specs.declared.course.Course.{Course}
use Rattle.joint_run.specs.declared.due.Seen.{Seen}
use Rattle.key_file.specs.Accepted.{IsAccepted}
use Rattle.key_file.specs.Feeds.{Fed}
use Rattle.key_file.specs.Histories.{KeyHistory}
use Rattle.run_loop.specs.declared.ending.Halt.{Halt}
use Rattle.run_loop.specs.Advance.{IsAtReport}
use Rattle.run_loop.specs.Gliding.{HasGlided, IsGoing, history_of}
use Rattle.run_loop.specs.Running.{AreIn, log_at, step_says}
use Rattle.run_loop.proofs.Quietly.{goes_on_to, log_more, next_cycle, next_step, on_with}
use Rattle.run_loop.proofs.Said.{all_in_less}
use Rattle.run_loop.proofs.Steps.{says_after, says_in}
use Rattle.run_loop.proofs.Timekeeping.{soon}

-- what a step took is among the events that were handed in
pub record IsCountable (h : KeyHistory) (ahead : Ahead) (seen : Seen) : Type 0 where
  pub accepted : IsAccepted h
  pub fed : IsFed h.edges h.host ahead
  pub made : ahead.made ≤ length h.edges
  pub done : ahead.done ≤ length h.host
  pub edges : seen.edges ≤ length ahead.due.edges.items
  pub host : seen.host ≤ length ahead.due.host.items

module _ (u : Halt) (s : Story) (first : List Watch) (old new : Course) (after : List Watch) (start : IsGoing u s old)
    (g : HasGlided u s first old new after) where
  abbrev last : Course
  last = g.last

  going : IsGoing u s last
  going = g.onward.going

  -- the events that the last step took can be counted: they are of the history
  pub countable : IsCountable (history_of s) new.ahead new.seen
  countable =
      let on = going.run_so_far.on in
      let lawful = going.accepted.lawful in
      let t = g.stepped in
      subst (λ (a : Ahead). IsCountable (history_of s) a new.seen) (sym t.ahead) (record {
        accepted = going.accepted;
        fed = on.fed;
        made = on.made_within;
        done = on.done_within;
        edges = edges_taken s last new.joint new.seen on lawful.thin lawful.edges_in_order t.step t.run;
        host = host_taken s last new.joint new.seen on lawful.thin lawful.edges_in_order t.step t.run;
      })

  -- what the feed has handed out is still what is in hand
  pub taken_now : (fed : Fed) → HasTaken fed old.ahead → HasTaken fed new.ahead
  taken_now fed taken = subst (λ (a : Ahead). HasTaken fed a) (sym (g.stepped.ahead ∙ g.onward.ahead)) taken

  step_now : new.joint.steps ≡ suc last.joint.steps
  step_now = next_step u s last new going g.stepped

  cycles_now : (last.joint.cycle < new.joint.cycle) × (new.joint.cycle < last.joint.cycle + 3)
  cycles_now = next_cycle u s last new going g.stepped

  -- after the steps the machine is at a later cycle
  pub later : old.joint.cycle < new.joint.cycle
  later = let so_far = g.onward.cycle in let now = cycles_now.0 in omega (arith, so_far, now)

  -- once it is counted
  module _ (ahead : Ahead) (fed : IsFed s.edges s.events ahead) (made : ahead.made ≡ new.ahead.made + new.seen.edges)
      (done : ahead.done ≡ new.ahead.done + new.seen.host) where
    abbrev counted : Course
    counted = record { joint = new.joint; ahead = ahead; seen = new.seen; fill = new.fill }

    on_now : IsOnCourse s counted
    on_now =
        on_with u s last new going g.stepped ahead fed
        (made ∙ ap (λ (a : Ahead). a.made + new.seen.edges) g.stepped.ahead)
        (done ∙ ap (λ (a : Ahead). a.done + new.seen.host) g.stepped.ahead)

    there : state_at s new.joint.steps ≡ Some on_now.world
    there = here s counted on_now

    -- what the last step said
    items_now : AreIn start.run_so_far.on.world.cycle new.joint.cycle new.seen.items.items
    items_now =
        let w = going.run_so_far.on.world in
        let v = on_now.world in
        let items = new.seen.items.items in
        let first : state_at s last.joint.steps ≡ Some w = here s last going.run_so_far.on in
        let next : state_at s (suc last.joint.steps) ≡ Some v = ap (state_at s) (sym step_now) ∙ there in
        let these : step_says s last.joint.steps ≡ items =
        says_after s last.joint.steps items
        (sym (ap (log_at s) step_now) ∙ log_more u s last new going g.stepped v there) in
        let until : AreIn w.cycle new.joint.cycle items =
        subst (λ (n : ℕ). AreIn w.cycle n items) (sym on_now.in_run.cycle)
        (subst (λ (l : List Stamped). AreIn w.cycle v.cycle l) these (says_in s last.joint.steps w v first next)) in
        let so_far = g.onward.cycle in
        let from = start.run_so_far.on.in_run.cycle in
        let to = going.run_so_far.on.in_run.cycle in
        all_in_less start.run_so_far.on.world.cycle w.cycle new.joint.cycle items (omega (arith, so_far, from, to)) until

    -- once what the last step took is counted, the run is at a report
    pub at_report : IsAtReport u.ending u.wires s old.joint.steps counted
    at_report =
        let more = later in
        let few = cycles_now.1 in
        let from = start.run_so_far.on.in_run.cycle in
        let near = soon u s last going in
        record {
          timely = start.timely;
          run_so_far = record { on = on_now; goes_on = goes_on_to u s last new going g.stepped };
          last = last.joint.steps;
          quiet = g.onward.quiet;
          steps = step_now;
          said = log_more u s last new going g.stepped on_now.world there;
          from = start.run_so_far.on.world;
          there = here s old start.run_so_far.on;
          later = omega (arith, more, from);
          near = omega (arith, few, near);
          items = items_now;
        }
