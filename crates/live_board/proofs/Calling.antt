-- What the calls add is at the end of the past.
use Rattle.std.proofs.Common.{◌≡◌, ◌≤◌, ◌<◌, ℕ, suc, ◌+◌, ◌-◌, false, List, [], ◌∷◌, ◌++◌, take, drop, Some}
use Rattle.std.proofs.Common.{None, Ok, Err, refl, ap, sym, subst, ◌∙◌, arith, length-append}
use Rattle.std.specs.List.{All}
use Rattle.std.proofs.lemmas.List.{append-nil, drop-append-le, take-append-le}
use Rattle.std.proofs.lemmas.List.Elements.{All-append, All-cons, All-head, All-nil, All-tail}
use Rattle.std.proofs.Math.Seq.{drop-append_seam}
use Rattle.board_terms.specs.Edges.{AreInOrder}
use Rattle.board_terms.specs.Matrix.{all_up, turned_by}
use Rattle.board_terms.specs.declared.event.Edge.{Edge}
use Rattle.board_terms.specs.declared.event.HostAct.{HostAct}
use Rattle.board_terms.specs.declared.event.HostEvent.{HostEvent}
use Rattle.host_turn.specs.Host.{waits}
use Rattle.joint_run.specs.Due.{due_step, made_first, IsJointStep}
use Rattle.joint_run.specs.History.{GoesOn, IsInRunFrom, IsStepOfRun}
use Rattle.joint_run.specs.Joint.{Beside, joint_board, joint_start_of, log_of}
use Rattle.joint_run.specs.Run.{World, run_at}
use Rattle.joint_run.specs.declared.due.Due.{Due}
use Rattle.joint_run.specs.declared.due.Seen.{Seen}
use Rattle.joint_run.specs.declared.machine.Machine.{Machine}
use Rattle.joint_feed.proofs.Going.{made as step_made, same_state}
use Rattle.joint_feed.specs.Stories.{state_at}
use Rattle.joint_run.proofs.OneStep.{step_of_run}
use Rattle.std.specs.declared.option.Option.{Option}
use Rattle.std.specs.declared.result.Result.{Result}
use Rattle.mcs48_core.specs.declared.stepping.Stuck.{Stuck}
use Rattle.live_board.proofs.Acting.{HasDone, has_done}
use Rattle.live_board.proofs.Growing.{grows}
use Rattle.live_board.proofs.Stepping.{edges_left, edges_there, handed, here, image_same}
use Rattle.live_board.proofs.Stepping.{later_edges, later_events, of_run, on, parted_on, steps_more, world_later}
use Rattle.live_board.proofs.Timed.{few_cycles}
use Rattle.live_board.specs.Acts.{IsAnswered}
use Rattle.live_board.specs.Calls.{IsActed, Says, place_of}
use Rattle.live_board.specs.Pasts.{Past, acted, pressed, state_of, story_of}
use Rattle.live_board.specs.States.{HasPast}
use Rattle.live_board.specs.declared.parts.Parts.{Parts as Keyboard}
use Rattle.live_board.specs.declared.refused.Refused.{Refused}

-- the machine is in the run of the past with one event of the host more, whose stamp is now
event_grown : (p : Past) (k : Keyboard) (s : HasPast p k) (e : HostEvent)
    → k.joint.cycle ≤ e.stamp + 4096 → IsInRunFrom p.held p.edges (p.events ++ e ∷ []) k.joint s.made s.world
event_grown p k s e late =
    let r = s.in_run in
    let c = r.cycle in
    let run = grows (record { bytes = k.joint.image.bytes; edges = p.edges; events = p.events; stop = 0; held = p.held }) []
    (e ∷ []) k.joint.steps s.world r.run
    (record {
      edges_ahead = All-nil _;
      events_ahead =
          All-cons (λ (x : HostEvent). s.world.cycle ≤ x.stamp + 4096) e [] (omega (arith, late, c)) (All-nil _);
    }) in
    record {
      run = subst (λ (es : List Edge). run_at (joint_board es (p.events ++ e ∷ [])) k.joint.image.bytes (joint_start_of p.held) k.joint.steps
          ≡ Some s.world) (append-nil p.edges) run;
      mcu = r.mcu;
      outside = r.outside;
      cycle = r.cycle;
      matrix = r.matrix;
      reached = r.reached;
    }

-- and with one edge more
edge_grown : (p : Past) (k : Keyboard) (s : HasPast p k) (e : Edge)
    → k.joint.cycle ≤ e.stamp + 4096 → IsInRunFrom p.held (p.edges ++ e ∷ []) p.events k.joint s.made s.world
edge_grown p k s e late =
    let r = s.in_run in
    let c = r.cycle in
    let run = grows (record { bytes = k.joint.image.bytes; edges = p.edges; events = p.events; stop = 0; held = p.held })
    (e ∷ []) [] k.joint.steps s.world r.run
    (record {
      edges_ahead = All-cons (λ (x : Edge). s.world.cycle ≤ x.stamp + 4096) e [] (omega (arith, late, c))
          (All-nil _);
      events_ahead = All-nil _;
    }) in
    let first : take s.made (p.edges ++ e ∷ []) ≡ take s.made p.edges = take-append-le s.made p.edges (e ∷ []) s.made_within in
    record {
      run = subst (λ (hs : List HostEvent). run_at (joint_board (p.edges ++ e ∷ []) hs) k.joint.image.bytes (joint_start_of p.held) k.joint.steps
          ≡ Some s.world) (append-nil p.events) run;
      mcu = r.mcu;
      outside = r.outside;
      cycle = r.cycle;
      matrix = r.matrix ∙ ap (λ (es : List Edge). turned_by es all_up) (sym first);
      reached = ap (made_first s.world.cycle) first ∙ r.reached ∙ sym first;
    }

-- the host acts
module _ (old : Keyboard) (act : HostAct) (late : 4096 ≤ old.joint.cycle) (room : waits act old.joint.outside.desk.port.core ≡ false)
    (due : Due) (new : Machine) (seen : Seen) (only : due.host.items ≡ record { stamp = old.joint.cycle - 4096; act = act } ∷ [])
    (is : IsJointStep due old.joint (due_step due old.joint) (Ok seen) new) where
  abbrev pub event : HostEvent
  event = record { stamp = old.joint.cycle - 4096; act = act }

  done_here : HasDone act (step_made due old.joint seen new is).world
  done_here =
      let made = step_made due old.joint seen new is in
      let count = made.seen_so.cycles in
      let some = (few_cycles due old.joint new seen is).0 in
      has_done due old.joint event only (omega (arith, late)) room made.world (omega (arith, count, some)) made.step

  -- the call of the host is answered in the step
  pub answered_here : IsAnswered act seen.items.items
  answered_here = subst (IsAnswered act) (sym (step_made due old.joint seen new is).seen_so.items) done_here.answered

  module _ (p : Past) (s : HasPast p old) (wait : due.edges.items ≡ old.due.edges.items) where
    run : IsStepOfRun due old.joint (Ok seen) new
    run = of_run due old.joint new seen is

    grown_run : IsInRunFrom p.held p.edges (p.events ++ event ∷ []) old.joint s.made s.world
    grown_run = event_grown p old s event (omega (arith, late))

    host_next : due.host.items ≡ take 2 (drop s.world.board.pc.side.done (p.events ++ event ∷ []))
    host_next =
        only ∙ sym (ap (λ (v : List HostEvent). take 2 v)
        (ap (λ (n : ℕ). drop n (p.events ++ event ∷ [])) s.all_done ∙ drop-append_seam p.events (event ∷ [])))

    goes : GoesOn p.held p.edges (p.events ++ event ∷ []) s.made s.world seen new
    goes = on p.held p.edges (p.events ++ event ∷ []) due old.joint new seen s.made s.world s.made_within s.order grown_run
        (wait ∙ s.edges_wait) host_next is run

    steps_on : new.steps ≡ suc p.steps
    steps_on =
        let a = steps_more p.held p.edges (p.events ++ event ∷ []) due old.joint new seen s.made s.world s.made_within
        s.order grown_run (wait ∙ s.edges_wait) host_next is run in
        let b = s.steps in
        omega (arith, a, b)

    -- after the call the keyboard has the past with the call at its end
    pub acted_on : (k : Keyboard) → k.joint ≡ new
        → k.due.edges.items ≡ drop seen.edges due.edges.items → k.due.host.items ≡ [] → HasPast (acted p (old.joint.cycle - 4096) act) k
    unfolding goes
    acted_on k joint left none =
        let es = p.edges in
        let hs = p.events ++ event ∷ [] in
        let w = s.world in
        let waiting = wait ∙ s.edges_wait in
        let cycle = world_later p.held es hs due old.joint new seen s.made w s.made_within s.order grown_run waiting host_next is run in
        record {
          made = s.made + seen.edges;
          made_within = edges_there p.held es hs due old.joint new seen s.made w s.made_within s.order grown_run waiting host_next is run;
          world = goes.next;
          image = ap (λ m. m.image.bytes) joint
              ∙ image_same p.held es hs due old.joint new seen s.made w s.made_within s.order grown_run waiting host_next is run ∙ s.image;
          steps = ap (λ m. m.steps) joint ∙ steps_on;
          in_run = subst (λ (m : Machine). IsInRunFrom p.held es hs m (s.made + seen.edges) goes.next) (sym joint) goes.in_run;
          edges_wait =
              edges_left p.held es hs due old.joint new seen s.made w s.made_within s.order grown_run waiting
              host_next is run k.due.edges.items left;
          none_waits = none;
          all_done =
              let one = done_here.one in
              let log_kept = (step_made due old.joint seen new is).seen_so.host in
              let more = goes.done in
              let before = s.all_done in
              let long = length-append p.events (event ∷ []) in
              omega (arith, one, log_kept, more, before, long);
          order = s.order;
          reached = record {
            edges_reached = later_edges w.cycle goes.next.cycle es cycle s.reached.edges_reached;
            events_reached =
                let at = grown_run.cycle in
                All-append (λ (x : HostEvent). x.stamp + 4096 ≤ goes.next.cycle) p.events (event ∷ [])
                (later_events w.cycle goes.next.cycle p.events cycle s.reached.events_reached)
                (All-cons (λ (x : HostEvent). x.stamp + 4096 ≤ goes.next.cycle) event [] (omega (arith, at, late, cycle)) (All-nil _));
          };
          parted =
              parted_on p.held es hs due old.joint new seen s.made w s.made_within s.order grown_run waiting host_next
              is run s.reached.edges_reached;
        }

    -- the step says what the run of that past says there
    pub says_on : Says p (acted p (old.joint.cycle - 4096) act) seen.items.items
    says_on w v from to =
        let first : s.world ≡ w = same_state (sym (here p old s) ∙ from) in
        let image = image_same p.held p.edges (p.events ++ event ∷ []) due old.joint new seen s.made s.world s.made_within
        s.order grown_run (wait ∙ s.edges_wait) host_next is run ∙ s.image in
        let there : state_of (acted p (old.joint.cycle - 4096) act) ≡ Some goes.next =
        subst (λ n. state_at (story_of (acted p (old.joint.cycle - 4096) act)) n ≡ Some goes.next) steps_on
        (subst (λ bytes. run_at (joint_board p.edges (p.events ++ event ∷ [])) bytes (joint_start_of p.held) new.steps ≡ Some goes.next)
        image goes.in_run.run) in
        let next : goes.next ≡ v = same_state (sym there ∙ to) in
        ap (λ (u : World Beside). log_of u.board) (sym next) ∙ goes.log
        ∙ ap (λ (u : World Beside). log_of u.board ++ seen.items.items) first

-- where the processor is stuck no state follows
pub acted_stuck : (old : Keyboard) (act : HostAct) → 4096 ≤ old.joint.cycle → (due : Due) (new : Machine) (stuck : Stuck)
    → due.host.items ≡ record { stamp = old.joint.cycle - 4096; act = act } ∷ [] → due.edges.items ≡ old.due.edges.items
    → IsJointStep due old.joint (due_step due old.joint) (Err stuck) new → (p : Past) → HasPast p old → state_of (acted p (old.joint.cycle - 4096) act) ≡ None
acted_stuck old act late due new stuck only wait is p s =
    let run : IsStepOfRun due old.joint (Err stuck) new = step_of_run due old.joint (Err stuck) new is tt in
    let e : HostEvent = record { stamp = old.joint.cycle - 4096; act = act } in
    let h = handed p.edges s.made s.world.cycle due.edges.items (wait ∙ s.edges_wait) in
    let host : due.host.items ≡ take 2 (drop s.world.board.pc.side.done (p.events ++ e ∷ [])) =
    only ∙ sym (ap (λ (v : List HostEvent). take 2 v)
    (ap (λ (n : ℕ). drop n (p.events ++ e ∷ [])) s.all_done ∙ drop-append_seam p.events (e ∷ []))) in
    let none = run p.held p.edges (p.events ++ e ∷ []) s.made s.world s.order (event_grown p old s e (omega (arith, late)))
    (record { next = h.0; all = h.1; host = host }) in
    let steps : suc old.joint.steps ≡ suc p.steps = ap suc s.steps in
    subst (λ n. state_at (story_of (acted p (old.joint.cycle - 4096) act)) n ≡ None) steps
    (subst (λ bytes. run_at (joint_board p.edges (p.events ++ e ∷ [])) bytes (joint_start_of p.held) (suc old.joint.steps) ≡ None) s.image none)

-- where it is
pub stuck_at : (due : Due) (old new : Machine) (stuck : Stuck) (o : Option (World Beside))
    → IsJointStep due old o (Err stuck) new → stuck ≡ place_of old
stuck_at due old new stuck None h = h.0
stuck_at due old new stuck (Some w) h = absurd h

-- after a call of the host's there is a past to be in, of the same program and the same edges
pub holds_after : (p : Past) (act : HostAct) (old new : Keyboard) (r : Result (Unit {0}) Refused) → HasPast p old → IsActed act old r new
    → (q : Past) × (q.bytes ≡ p.bytes) × (q.held ≡ p.held) × (q.edges ≡ p.edges) × HasPast q new
holds_after p act old new (Ok done) s h = (acted p (old.joint.cycle - 4096) act, refl, refl, refl, h.1 p s)
holds_after p act old new (Err refused) s h = (p, refl, refl, refl, h.2 p s)

-- nothing has changed but what the last step said
pub holds_still : (p : Past) (old new : Keyboard)
    → new.joint ≡ old.joint → new.due.edges.items ≡ old.due.edges.items → new.due.host.items ≡ [] → HasPast p old → HasPast p new
holds_still p old new joint edges host s = record {
  made = s.made;
  made_within = s.made_within;
  world = s.world;
  image = ap (λ m. m.image.bytes) joint ∙ s.image;
  steps = ap (λ m. m.steps) joint ∙ s.steps;
  in_run = subst (λ (m : Machine). IsInRunFrom p.held p.edges p.events m s.made s.world) (sym joint) s.in_run;
  edges_wait = edges ∙ s.edges_wait;
  none_waits = host;
  all_done = s.all_done;
  order = s.order;
  reached = s.reached;
  parted = s.parted;
}

-- an edge whose stamp is now is after those before it
in_order : (cycle : ℕ) (es : List Edge) (e : Edge)
    → AreInOrder es → All (λ e. e.stamp + 4096 ≤ cycle) es → cycle ≤ e.stamp + 4096 → AreInOrder (es ++ e ∷ [])
in_order cycle [] e order reached l = tt
in_order cycle (a ∷ []) e order reached l =
    let r = All-head (λ (x : Edge). x.stamp + 4096 ≤ cycle) a [] reached in (omega (arith, r, l), tt)
in_order cycle (a ∷ b ∷ es) e order reached l =
    (order.0, in_order cycle (b ∷ es) e order.1 (All-tail (λ (x : Edge). x.stamp + 4096 ≤ cycle) a (b ∷ es) reached) l)

-- a key goes down or up
pub keyed_on : (p : Past) (old new : Keyboard) (e : Edge)
    → 4096 ≤ old.joint.cycle → e.stamp ≡ old.joint.cycle - 4096 → new.joint ≡ old.joint
    → new.due.edges.items ≡ old.due.edges.items ++ e ∷ [] → new.due.host ≡ old.due.host → HasPast p old → HasPast (pressed p e) new
keyed_on p old new e late stamp joint edges host s =
    let at = s.in_run.cycle in
    let now : old.joint.cycle ≤ e.stamp + 4096 = omega (arith, late, stamp) in
    let soon : s.world.cycle ≤ e.stamp + 4096 = omega (arith, now, at) in
    let reached : e.stamp + 4096 ≤ s.world.cycle = omega (arith, late, stamp, at) in
    record {
      made = s.made;
      made_within = let l = length-append p.edges (e ∷ []) in let m = s.made_within in omega (arith, l, m);
      world = s.world;
      image = ap (λ m. m.image.bytes) joint ∙ s.image;
      steps = ap (λ m. m.steps) joint ∙ s.steps;
      in_run = subst (λ (m : Machine). IsInRunFrom p.held (p.edges ++ e ∷ []) p.events m s.made s.world) (sym joint) (edge_grown p old s e now);
      edges_wait = edges ∙ ap (λ v. v ++ e ∷ []) s.edges_wait ∙ sym (drop-append-le s.made p.edges (e ∷ []) s.made_within);
      none_waits = ap (λ h. h.items) host ∙ s.none_waits;
      all_done = s.all_done;
      order = in_order s.world.cycle p.edges e s.order s.reached.edges_reached soon;
      reached = record {
        edges_reached =
            All-append (λ (x : Edge). x.stamp + 4096 ≤ s.world.cycle) p.edges (e ∷ []) s.reached.edges_reached
            (All-cons (λ (x : Edge). x.stamp + 4096 ≤ s.world.cycle) e [] reached (All-nil _));
        events_reached = s.reached.events_reached;
      };
      parted = record {
        made_before =
            subst (λ v. All (λ (x : Edge). x.stamp + 4096 < s.world.cycle) v)
            (sym (take-append-le s.made p.edges (e ∷ []) s.made_within)) s.parted.made_before;
        come_now =
            subst (λ v. All (λ (x : Edge). s.world.cycle ≤ x.stamp + 4096) v)
            (sym (drop-append-le s.made p.edges (e ∷ []) s.made_within))
            (All-append (λ (x : Edge). s.world.cycle ≤ x.stamp + 4096) (drop s.made p.edges) (e ∷ []) s.parted.come_now
            (All-cons (λ (x : Edge). s.world.cycle ≤ x.stamp + 4096) e [] soon (All-nil _)));
      };
    }
