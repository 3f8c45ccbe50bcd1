-- One joint step goes on with the run of the past.
use Rattle.std.proofs.Common.{◌≡◌, ◌≤◌, ◌<◌, ℕ, suc, ◌+◌, ◌-◌, true, List, [], ◌∷◌, ◌++◌, length, take, drop, Some}
use Rattle.std.proofs.Common.{None, Ok, Err, refl, ap, sym, subst, ◌∙◌, arith}
use Rattle.std.specs.Prelude.{if◌then◌else◌}
use Rattle.std.specs.List.{All}
use Rattle.std.proofs.lemmas.Bool.Decides.{nat_tests}
use Rattle.std.proofs.lemmas.List.{drop_all, length-drop, take_all}
use Rattle.std.proofs.lemmas.List.Elements.{All-drop, All-head, All-nil, All-tail, All-take}
use Rattle.board_terms.specs.Edges.{AreInOrder, is_made}
use Rattle.board_terms.specs.declared.event.Edge.{Edge}
use Rattle.board_terms.specs.declared.event.HostEvent.{HostEvent}
use Rattle.joint_run.specs.Due.{due_step, made_first, powered_on_from, IsJointStep}
use Rattle.joint_run.specs.Filled.{filled}
use Rattle.joint_run.specs.History.{GoesOn, IsFirstOfRunFrom, IsInRunFrom, IsStepOfRun}
use Rattle.joint_run.specs.Joint.{Beside, joint_board, joint_start_of, log_of}
use Rattle.joint_run.specs.Run.{World, run_at}
use Rattle.joint_run.specs.declared.due.Due.{Due}
use Rattle.joint_run.specs.declared.due.Seen.{Seen}
use Rattle.joint_run.specs.declared.machine.Machine.{Machine}
use Rattle.joint_feed.proofs.Counts.{done_few, made_few}
use Rattle.joint_feed.proofs.Feeding.{drop_more}
use Rattle.joint_feed.proofs.Going.{IsMade, made as step_made, same_state}
use Rattle.joint_feed.specs.Stories.{Story, state_at}
use Rattle.mcs48_core.specs.Cpu.{Cpu}
use Rattle.joint_run.proofs.OneStep.{step_of_run}
use Rattle.live_board.proofs.Timed.{few_cycles, step_later}
use Rattle.live_board.specs.Calls.{Says, place_of}
use Rattle.live_board.specs.Pasts.{Past, gone_on, state_of, story_of, untouched}
use Rattle.live_board.specs.States.{AreParted, HasPast}
use Rattle.live_board.specs.declared.parts.Parts.{Parts as Keyboard}

-- a keyboard at power-on has a past in which nothing has happened
pub at_first : (fill : ℕ) (bytes : List ℕ) (k : Keyboard)
    → k.joint ≡ powered_on_from (filled fill) bytes → IsFirstOfRunFrom (filled fill) k.joint
    → k.due.edges.items ≡ [] → k.due.host.items ≡ [] → HasPast (untouched fill bytes 0) k
at_first fill bytes k is first edges host = record {
  made = 0;
  made_within = omega arith;
  world = joint_start_of (filled fill);
  image = ap (λ m. m.image.bytes) is;
  steps = ap (λ m. m.steps) is;
  in_run = first [] [];
  edges_wait = edges;
  none_waits = host;
  all_done = refl;
  order = tt;
  reached = record { edges_reached = All-nil _; events_reached = All-nil _ };
  parted = record { made_before = All-nil _; come_now = All-nil _ };
}

-- the state that it is at
pub here : (p : Past) (k : Keyboard) (s : HasPast p k) → state_of p ≡ Some s.world
here p k s =
    subst (λ n. state_at (story_of p) n ≡ Some s.world) s.steps
    (subst (λ bytes. run_at (joint_board p.edges p.events) bytes (joint_start_of p.held) k.joint.steps ≡ Some s.world) s.image s.in_run.run)

-- edges before a cycle are before a later one
pub later_edges : (soon late : ℕ) (es : List Edge) → soon ≤ late → All (λ e. e.stamp + 4096 ≤ soon) es → All (λ e. e.stamp + 4096 ≤ late) es
later_edges soon late es l h = λ i d m. let k = h i d m in omega (arith, k, l)

-- events before a cycle are before a later one
pub later_events : (soon late : ℕ) (es : List HostEvent)
    → soon ≤ late → All (λ e. e.stamp + 4096 ≤ soon) es → All (λ e. e.stamp + 4096 ≤ late) es
later_events soon late es l h = λ i d m. let k = h i d m in omega (arith, k, l)

-- all that are left are handed in
pub handed : (edges : List Edge) (made cycle : ℕ) (items : List Edge) → items ≡ drop made edges
    → (items ≡ take (length items) (drop made edges)) × (made_first cycle (drop (length items) (drop made edges)) ≡ [])
handed edges made cycle items e =
    let l = ap length e in
    let short : length (drop made edges) ≤ length items = omega (arith, l) in (
      e ∙ sym (take_all (length items) (drop made edges) short),
      ap (made_first cycle) (drop_all (length items) (drop made edges) short),
    )

-- edges that are all reached are all made in a step
all_made : (cycle : ℕ) (es : List Edge) → All (λ e. e.stamp + 4096 ≤ cycle) es → made_first cycle es ≡ es
all_made cycle [] h = refl
all_made cycle (e ∷ es) h =
    let first = All-head (λ (x : Edge). x.stamp + 4096 ≤ cycle) e es h in
    let is : is_made cycle e ≡ true = grind (arith, nat_tests, first) in
    ap (λ b. if b then e ∷ made_first cycle es else []) is
    ∙ ap (λ v. e ∷ v) (all_made cycle es (All-tail (λ (x : Edge). x.stamp + 4096 ≤ cycle) e es h))

-- after that none waits, and all were made before the cycle that comes then
pub all_parted : (soon late made : ℕ) (es : List Edge) → soon < late → length es ≤ made
    → All (λ e. e.stamp + 4096 ≤ soon) es → AreParted late made es
all_parted soon late made es l m h = record {
  made_before =
      All-take (λ (e : Edge). e.stamp + 4096 < late) made es (λ i d n. let k = h i d n in omega (arith, k, l));
  come_now =
      subst (λ v. All (λ (e : Edge). late ≤ e.stamp + 4096) v) (sym (drop_all made es m)) (All-nil _);
}

-- a step that was made, of a machine in the run of these edges and events, with all of them handed in
module _ (held : Cpu) (edges : List Edge) (events : List HostEvent) (due : Due) (old new : Machine) (seen : Seen) (made : ℕ) (world : World Beside)
    (within : made ≤ length edges) (order : AreInOrder edges) (in_run : IsInRunFrom held edges events old made world)
    (wait : due.edges.items ≡ drop made edges)
    (host : due.host.items ≡ take 2 (drop world.board.pc.side.done events))
    (is : IsJointStep due old (due_step due old) (Ok seen) new) (run : IsStepOfRun due old (Ok seen) new) where
  -- the run of the past goes on by the step
  pub on : GoesOn held edges events made world seen new
  on =
      let h = handed edges made world.cycle due.edges.items wait in
      run held edges events made world order in_run (record { next = h.0; all = h.1; host = host })

  -- the step was made, and the machine is as it leaves it
  pub step : IsMade due old seen new
  step = step_made due old seen new is

  -- the machine has made one step more
  pub steps_more : new.steps ≡ old.steps + 1
  steps_more = ap (λ m. m.steps) step.after

  -- the program is as it was
  pub image_same : new.image.bytes ≡ old.image.bytes
  image_same = ap (λ m. m.image.bytes) step.after

  -- the machine is as many cycles later as the step took
  pub cycle_more : old.cycle + seen.cycles ≡ new.cycle
  cycle_more = step.seen_so.cycles ∙ sym (ap (λ m. m.cycle) step.after)

  -- the run's next state is at no earlier cycle
  pub world_later : world.cycle ≤ on.next.cycle
  world_later = let a = in_run.cycle in let b = cycle_more in let c = on.in_run.cycle in omega (arith, a, b, c)

  -- the edges that the step made are the past's
  pub edges_there : made + seen.edges ≤ length edges
  edges_there =
      let a = made_few old.cycle due.edges.items in
      let b = step.seen_so.edges in
      let c = ap length wait in
      let d : length (drop made edges) ≡ length edges - made = length-drop made edges in
      omega (arith, a, b, c, d, within)

  -- the run's next state is at a later cycle
  pub world_sooner : world.cycle < on.next.cycle
  world_sooner =
      let s : Story = record { bytes = old.image.bytes; edges = edges; events = events; stop = 0; held = held } in
      let one = steps_more in
      let next : old.steps + 1 ≡ suc old.steps = omega arith in
      let there : state_at s (suc old.steps) ≡ Some on.next =
      subst (λ n. state_at s n ≡ Some on.next) (one ∙ next)
      (subst (λ bytes. run_at (joint_board edges events) bytes (joint_start_of held) new.steps ≡ Some on.next) image_same on.in_run.run) in
      step_later s old.steps world on.next in_run.run there

  -- the step makes all edges that wait
  pub parted_on : All (λ e. e.stamp + 4096 ≤ world.cycle) edges → AreParted on.next.cycle (made + seen.edges) edges
  parted_on reached =
      let left = All-drop (λ (e : Edge). e.stamp + 4096 ≤ world.cycle) made edges reached in
      let all : made_first old.cycle due.edges.items ≡ drop made edges =
      ap (λ n. made_first n due.edges.items) in_run.cycle ∙ ap (made_first world.cycle) wait
      ∙ all_made world.cycle (drop made edges) left in
      let a = step.seen_so.edges in
      let b = ap length all in
      let c : length (drop made edges) ≡ length edges - made = length-drop made edges in
      all_parted world.cycle on.next.cycle (made + seen.edges) edges world_sooner (omega (arith, a, b, c, within)) reached

  -- the edges that are left are those of the past after the ones made
  pub edges_left : (items : List Edge) → items ≡ drop seen.edges due.edges.items → items ≡ drop (made + seen.edges) edges
  edges_left items e = e ∙ ap (drop seen.edges) wait ∙ drop_more made seen.edges (made + seen.edges) edges refl

  -- the step did no more events than were handed in
  pub host_few : seen.host ≤ length due.host.items
  host_few = let a = done_few due old step.world step.step in let b = step.seen_so.host in omega (arith, a, b)

-- the machine's step is a step of each run that it is in
pub of_run : (due : Due) (old new : Machine) (seen : Seen) → IsJointStep due old (due_step due old) (Ok seen) new
    → IsStepOfRun due old (Ok seen) new
of_run due old new seen is = step_of_run due old (Ok seen) new is (few_cycles due old new seen is)

-- no event of the host is left
no_event : (p : Past) (old : Keyboard) (s : HasPast p old) → old.due.host.items ≡ take 2 (drop s.world.board.pc.side.done p.events)
no_event p old s =
    let done = s.all_done in
    s.none_waits ∙ sym (ap (λ (v : List HostEvent). take 2 v) (drop_all s.world.board.pc.side.done p.events (omega (arith, done))))

-- the run goes on by a step, where the host does nothing
module _ (p : Past) (old : Keyboard) (s : HasPast p old) (new : Keyboard)
    (is : IsJointStep old.due old.joint (due_step old.due old.joint) (Ok new.seen) new.joint)
    (left : new.due.edges.items ≡ drop new.seen.edges old.due.edges.items) (same : new.due.host ≡ old.due.host) where
  run : IsStepOfRun old.due old.joint (Ok new.seen) new.joint
  run = of_run old.due old.joint new.joint new.seen is

  no_host : old.due.host.items ≡ take 2 (drop s.world.board.pc.side.done p.events)
  no_host = no_event p old s

  -- after the step the keyboard has the past, gone on by a step
  pub one_on : HasPast (gone_on p new.joint.steps) new
  one_on =
      let on = on p.held p.edges p.events old.due old.joint new.joint new.seen s.made s.world s.made_within
      s.order s.in_run s.edges_wait no_host is run in
      let cycle = world_later p.held p.edges p.events old.due old.joint new.joint new.seen s.made s.world
      s.made_within s.order s.in_run s.edges_wait no_host is run in
      record {
        made = s.made + new.seen.edges;
        made_within =
            edges_there p.held p.edges p.events old.due old.joint new.joint new.seen s.made s.world s.made_within
            s.order s.in_run s.edges_wait no_host is run;
        world = on.next;
        image = image_same p.held p.edges p.events old.due old.joint new.joint new.seen s.made s.world s.made_within
            s.order s.in_run s.edges_wait no_host is run ∙ s.image;
        steps = refl;
        in_run = on.in_run;
        edges_wait =
            edges_left p.held p.edges p.events old.due old.joint new.joint new.seen s.made s.world s.made_within s.order
            s.in_run s.edges_wait no_host is run new.due.edges.items left;
        none_waits = ap (λ h. h.items) same ∙ s.none_waits;
        all_done =
            let few = host_few p.held p.edges p.events old.due old.joint new.joint new.seen s.made s.world s.made_within
            s.order s.in_run s.edges_wait no_host is run in
            let none = ap length s.none_waits in
            let more = on.done in
            let done = s.all_done in
            omega (arith, few, none, more, done);
        order = s.order;
        reached = record {
          edges_reached = later_edges s.world.cycle on.next.cycle p.edges cycle s.reached.edges_reached;
          events_reached = later_events s.world.cycle on.next.cycle p.events cycle s.reached.events_reached;
        };
        parted =
            parted_on p.held p.edges p.events old.due old.joint new.joint new.seen s.made s.world s.made_within s.order
            s.in_run s.edges_wait no_host is run s.reached.edges_reached;
      }

  -- what the step says is what it puts after the log
  pub says_one : Says p (gone_on p new.joint.steps) new.seen.items.items
  says_one w v from to =
      let goes = on p.held p.edges p.events old.due old.joint new.joint new.seen s.made s.world s.made_within
      s.order s.in_run s.edges_wait no_host is run in
      let image = image_same p.held p.edges p.events old.due old.joint new.joint new.seen s.made s.world s.made_within
      s.order s.in_run s.edges_wait no_host is run ∙ s.image in
      let first : s.world ≡ w = same_state (sym (here p old s) ∙ from) in
      let there : state_of (gone_on p new.joint.steps) ≡ Some goes.next =
      subst (λ bytes. run_at (joint_board p.edges p.events) bytes (joint_start_of p.held) new.joint.steps ≡ Some goes.next) image goes.in_run.run in
      let next : goes.next ≡ v = same_state (sym there ∙ to) in
      ap (λ (u : World Beside). log_of u.board) (sym next) ∙ goes.log
      ∙ ap (λ (u : World Beside). log_of u.board ++ new.seen.items.items) first

-- a step takes its cycles, and is one
pub counted : (due : Due) (old new : Machine) (seen : Seen)
    → IsJointStep due old (due_step due old) (Ok seen) new → (old.cycle + seen.cycles ≡ new.cycle) × (new.steps ≡ suc old.steps)
counted due old new seen is =
    let made = step_made due old seen new is in
    let steps = ap (λ m. m.steps) made.after in
    (made.seen_so.cycles ∙ sym (ap (λ m. m.cycle) made.after), omega (arith, steps))

-- where the processor is stuck no state follows
pub no_further : (p : Past) (old : Keyboard) (s : HasPast p old) → due_step old.due old.joint ≡ None
    → state_of (gone_on p (suc old.joint.steps)) ≡ None
no_further p old s stuck =
    let h = handed p.edges s.made s.world.cycle old.due.edges.items s.edges_wait in
    let run : IsStepOfRun old.due old.joint (Err (place_of old.joint)) old.joint =
    step_of_run old.due old.joint (Err (place_of old.joint)) old.joint
    (subst (λ o. IsJointStep old.due old.joint o (Err (place_of old.joint)) old.joint) (sym stuck) (refl, refl)) tt in
    let none = run p.held p.edges p.events s.made s.world s.order s.in_run (record { next = h.0; all = h.1; host = no_event p old s }) in
    subst (λ bytes. run_at (joint_board p.edges p.events) bytes (joint_start_of p.held) (suc old.joint.steps) ≡ None) s.image none
