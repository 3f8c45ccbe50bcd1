-- Steps that follow one another at once, of which nothing is to be reported.
use Rattle.std.proofs.Common.{◌≡◌, ◌≤◌, ◌<◌, ℕ, suc, ◌+◌, ◌-◌, Bool, true, false, List, [], ◌∷◌, ◌++◌, map, leb, Some, refl}
use Rattle.std.proofs.Common.{ap, sym, subst, ◌∙◌, arith}
use Rattle.std.specs.Prelude.{if◌then◌else◌}
use Rattle.std.proofs.lemmas.Bool.Decides.{nat_tests}
use Rattle.std.proofs.lemmas.List.{append-nil}
use Rattle.std.specs.declared.option.Option.{Option}
use Rattle.board_terms.specs.declared.lines.Lines.{Lines}
use Rattle.run_probes.proofs.Sights.{same_sight}
use Rattle.run_probes.specs.Looks.{looked_at, looks}
use Rattle.run_probes.specs.Probes.{Sight, Watch, looked, sight_in, sight_of}
use Rattle.joint_feed.proofs.Going.{here, on, step, on_again, steps_more as one_more_step, cycle_more, is_said, IsSaid}
use Rattle.joint_feed.specs.Ahead.{IsFed}
use Rattle.joint_feed.specs.Course.{IsOnCourse}
use Rattle.joint_feed.specs.Stories.{Story, state_at, starts_tick}
use Rattle.joint_feed.specs.declared.ahead.Ahead.{Ahead}
use Rattle.joint_feed.specs.declared.course.Course.{Course}
use Rattle.joint_run.specs.History.{GoesOn as RunGoesOn}
use Rattle.joint_run.specs.Joint.{Beside, joint_board, joint_start_of}
use Rattle.joint_run.specs.Run.{World, run_at}
use Rattle.run_loop.specs.declared.ending.Ending.{Ending}
use Rattle.run_loop.specs.declared.ending.Ending.TheVariants.{TickStart, Stamp}
use Rattle.run_loop.specs.declared.ending.Halt.{Halt}
use Rattle.run_loop.specs.Answers.{MeetsNoTick}
use Rattle.run_loop.specs.Gliding.{AreSameStarts, IsGoing, IsOnward, IsStepped, lines_at, lines_in, IsSilent}
use Rattle.run_loop.specs.Running.{GoesOnTo, log_at, logged}
use Rattle.run_loop.specs.Starts.{start_stamp, starts_among}
use Rattle.run_loop.specs.Stretching.{CanFollow}

no_starts : (e : Ending) (s : Story) (k : ℕ) → AreSameStarts e s k k
no_starts TickStart s k = refl
no_starts Stamp s k = tt

then_starts : (e : Ending) (s : Story) (k n m : ℕ) → AreSameStarts e s k n → AreSameStarts e s n m → AreSameStarts e s k m
then_starts TickStart s k n m a b = b ∙ a
then_starts Stamp s k n m a b = tt

-- of zero steps nothing is to be reported
pub none_quiet : (e : Ending) (wires : Bool) (s : Story) (k : ℕ) → IsSilent e wires s k k
none_quiet e wires s k = record {
  later = omega arith;
  log = refl;
  starts = no_starts e s k;
  levels = λ on j l m. let same : j ≡ k = omega (arith, l, m) in ap (lines_at s) same;
}

-- if nothing is to be reported of some steps and of those after them, nothing is of all of them
pub then_quiet : (e : Ending) (wires : Bool) (s : Story) (k n m : ℕ) → IsSilent e wires s k n → IsSilent e wires s n m → IsSilent e wires s k m
then_quiet e wires s k n m a b =
    let first = a.later in
    let second = b.later in
    record {
      later = omega (arith, first, second);
      log = b.log ∙ a.log;
      starts = then_starts e s k n m a.starts b.starts;
      levels = λ on j l h. elim (leb j n) as (λ c. leb j n ≡ c → lines_at s j ≡ lines_at s k) [
        | true ↦ λ f. a.levels on j l (grind (arith, nat_tests, f))
        | false ↦ λ f. b.levels on j (grind (arith, nat_tests, f)) h ∙ a.levels on n first (omega arith)
      ] refl;
    }

-- the wires at a state that the machine is at
pub lines_here : (s : Story) (c : Course) (on : IsOnCourse s c) → lines_at s c.joint.steps ≡ Some (sight_of c.joint).lines
lines_here s c on =
    ap lines_in (here s c on)
    ∙ sym (ap (λ (v : Sight). Some v.lines) (same_sight c.joint on.world on.in_run.mcu on.in_run.outside on.in_run.cycle))

-- probes after a look at the machine
abbrev pub looked_now : Course → List Watch → List Watch
looked_now c probes = map (looked c.joint.steps (sight_of c.joint)) probes

no_start : (b : Bool) (xs : List ℕ) (n : ℕ) → false ≡ b → xs ++ (if b then n ∷ [] else []) ≡ xs
no_start true xs n off = absurd (cc off)
no_start false xs n off = append-nil xs

module _ (u : Halt) (s : Story) (old new : Course) (g : IsGoing u s old) (t : IsStepped old new) where
  abbrev with_ahead : Ahead → Course
  with_ahead ahead = record { joint = new.joint; ahead = ahead; seen = new.seen; fill = new.fill }

  -- after a step, with its events counted, the machine is in its run
  pub on_with : (ahead : Ahead) → IsFed s.edges s.events ahead → ahead.made ≡ old.ahead.made + new.seen.edges
      → ahead.done ≡ old.ahead.done + new.seen.host → IsOnCourse s (with_ahead ahead)
  on_with ahead fed made done =
      on_again s old new.joint new.seen g.run_so_far.on g.accepted.lawful.thin g.accepted.lawful.edges_in_order t.step t.run
      new.fill ahead t.some t.few fed made done

  -- the step is one step more
  pub next_step : new.joint.steps ≡ suc old.joint.steps
  next_step = one_more_step s old new.joint new.seen g.run_so_far.on g.accepted.lawful.thin g.accepted.lawful.edges_in_order t.step t.run

  -- the step takes one or two cycles
  pub next_cycle : (old.joint.cycle < new.joint.cycle) × (new.joint.cycle < old.joint.cycle + 3)
  next_cycle =
      let a = cycle_more s old new.joint new.seen g.run_so_far.on g.accepted.lawful.thin g.accepted.lawful.edges_in_order t.step t.run in
      let b = t.some in
      let c = t.few in
      (omega (arith, a, b), omega (arith, a, c))

  says : IsSaid s old.joint.steps new.seen.items.items
  says = is_said s old new.joint new.seen g.run_so_far.on g.accepted.lawful.thin g.accepted.lawful.edges_in_order t.step t.run

  -- the run goes on to the next state
  pub goes_on_to : GoesOnTo u.ending s new.joint.steps
  goes_on_to = subst (GoesOnTo u.ending s) (sym next_step) (g.run_so_far.goes_on, g.run_so_far.on.world, here s old g.run_so_far.on, g.not_over)

  -- what it says is after the log
  pub log_more : (v : World Beside)
      → state_at s new.joint.steps ≡ Some v → log_at s new.joint.steps ≡ log_at s old.joint.steps ++ new.seen.items.items
  log_more v there =
      let next : state_at s (suc old.joint.steps) ≡ Some v = ap (state_at s) (sym next_step) ∙ there in
      let first = here s old g.run_so_far.on in
      ap logged there ∙ says g.run_so_far.on.world v first next
      ∙ ap (λ (o : Option (World Beside)). logged o ++ new.seen.items.items) (sym first)

  goes_on : RunGoesOn s.held s.edges s.events old.ahead.made g.run_so_far.on.world new.seen new.joint
  goes_on = on s old new.joint new.seen g.run_so_far.on g.accepted.lawful.thin g.accepted.lawful.edges_in_order t.step t.run

  there : state_at s (suc old.joint.steps) ≡ Some goes_on.next
  there =
      let made = step s old new.joint new.seen g.run_so_far.on g.accepted.lawful.thin g.accepted.lawful.edges_in_order t.step t.run in
      let image : new.joint.image.bytes ≡ s.bytes = ap (λ m. m.image.bytes) made.after ∙ g.run_so_far.on.image in
      subst (λ (k : ℕ). state_at s k ≡ Some goes_on.next) next_step
      (subst (λ (b : List ℕ). run_at (joint_board s.edges s.events) b (joint_start_of s.held) new.joint.steps ≡ Some goes_on.next)
      image goes_on.in_run.run)

  -- a look at each state is one at the machine, after those at the states before
  pub looks_on : (first : List Watch) → looks s new.joint.steps first ≡ looked_now new (looks s old.joint.steps first)
  looks_on first =
      let before : List Watch = looks s old.joint.steps first in
      let sight : sight_in goes_on.next ≡ sight_of new.joint =
      sym (same_sight new.joint goes_on.next goes_on.in_run.mcu goes_on.in_run.outside goes_on.in_run.cycle) in
      ap (λ (n : ℕ). looks s n first) next_step
      ∙ ap (λ (o : Option (World Beside)). looked_at (suc old.joint.steps) o before) there
      ∙ ap (λ (v : Sight). map (looked (suc old.joint.steps) v) before) sight
      ∙ sym (ap (λ (n : ℕ). map (looked n (sight_of new.joint)) before) next_step)

  -- if the next one can follow at once the run goes on
  module _ (lines : Lines) (kept : u.wires ≡ true → (sight_of old.joint).lines ≡ lines) (can : CanFollow u lines new) where
    on_now : IsOnCourse s new
    on_now =
        let edges = can.edges in
        let host = can.host in
        subst (λ (a : Ahead). IsOnCourse s (with_ahead a)) (sym t.ahead)
        (on_with old.ahead g.run_so_far.on.fed (omega (arith, edges)) (omega (arith, host)))

    there_now : state_at s new.joint.steps ≡ Some on_now.world
    there_now = here s new on_now

    goes_still : IsGoing u s new
    goes_still = record {
      stop = g.stop;
      accepted = g.accepted;
      timely = g.timely;
      run_so_far = record { on = on_now; goes_on = goes_on_to };
      not_over = sym (can.before_end s on_now.world g.stop (sym on_now.in_run.mcu) (sym on_now.in_run.cycle));
    }

    same_starts : (e : Ending) → MeetsNoTick e new.joint → AreSameStarts e s old.joint.steps new.joint.steps
    same_starts TickStart none =
        let off : false ≡ starts_tick s on_now.world = none s.edges s.events on_now.world (sym on_now.in_run.mcu) in
        ap (λ (o : Option (World Beside)). starts_among s new.joint.steps ++ start_stamp s o) there_now
        ∙ no_start (starts_tick s on_now.world) (starts_among s new.joint.steps) (on_now.world.cycle - 4096) off
        ∙ ap (starts_among s) next_step
    same_starts Stamp none = tt

    lines_still : u.wires ≡ true → (j : ℕ) → old.joint.steps ≤ j → j ≤ new.joint.steps → lines_at s j ≡ lines_at s old.joint.steps
    lines_still on j l m =
        elim (leb j old.joint.steps) as (λ b. leb j old.joint.steps ≡ b → lines_at s j ≡ lines_at s old.joint.steps) [
          | true ↦ λ f. let same : j ≡ old.joint.steps = grind (arith, nat_tests, f, l) in ap (lines_at s) same
          | false ↦ λ f.
              let more = next_step in
              let same : j ≡ new.joint.steps = grind (arith, nat_tests, f, m, more) in
              ap (lines_at s) same ∙ lines_here s new on_now ∙ ap (λ (v : Lines). Some v) (can.levels on ∙ sym (kept on))
              ∙ sym (lines_here s old g.run_so_far.on)
        ] refl

    -- if the next step can follow at once, the run goes on and nothing is to be reported
    pub one_onward : IsOnward u s old new
    one_onward = record {
      going = goes_still;
      ahead = t.ahead;
      cycle = let a = next_cycle.0 in omega (arith, a);
      quiet = record {
        later = let a = next_step in omega (arith, a);
        log = log_more on_now.world there_now ∙ ap (λ v. log_at s old.joint.steps ++ v) can.items ∙ append-nil (log_at s old.joint.steps);
        starts = same_starts u.ending can.no_tick;
        levels = lines_still;
      };
    }

-- no step was made yet
pub none_onward : (u : Halt) (s : Story) (c : Course) → IsGoing u s c → IsOnward u s c c
none_onward u s c g = record { going = g; ahead = refl; cycle = omega arith; quiet = none_quiet u.ending u.wires s c.joint.steps }

-- and some more
pub then_onward : (u : Halt) (s : Story) (p q r : Course) → IsOnward u s p q → IsOnward u s q r → IsOnward u s p r
then_onward u s p q r a b =
    let cycle_a = a.cycle in
    let cycle_b = b.cycle in
    record {
      going = b.going;
      ahead = b.ahead ∙ a.ahead;
      cycle = omega (arith, cycle_a, cycle_b);
      quiet = then_quiet u.ending u.wires s p.joint.steps q.joint.steps r.joint.steps a.quiet b.quiet;
    }
