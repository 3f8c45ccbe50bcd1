-- Quiet joint steps, made at once, are steps that probes which rest needn't look at; and then comes one of any kind.
use Rattle.std.proofs.Common.{◌≡◌, ◌≤◌, ◌<◌, ◌%◌, ◌&&◌, ◌==◌, ℕ, suc, zero, ◌+◌, Bool, true}
use Rattle.std.proofs.Common.{false, not, List, map, None, Some, Ok, Err, refl, ap, sym, subst, ◌∙◌, arith}
use Rattle.std.specs.Prelude.{nat_le}
use Rattle.std.specs.declared.option.Option.{Option}
use Rattle.std.specs.declared.result.Result.{Result}
use Rattle.std.proofs.lemmas.Bool.Decides.{nat_tests}
use Rattle.board_terms.specs.declared.lines.Lines.{Lines}
use Rattle.run_probes.specs.Looks.{looks}
use Rattle.run_probes.specs.Probes.{Watch, looked, sight_of}
use Rattle.run_probes.specs.Resting.{all_rest}
use Rattle.fw_kernel.specs.declared.labels.TheConstants.{TICK}
use Rattle.fw_ticks.specs.JointRun.{DecidesTick}
use Rattle.joint_feed.proofs.Going.{no_further}
use Rattle.joint_feed.specs.Stories.{Story, state_at}
use Rattle.joint_feed.specs.declared.course.Course.{Course}
use Rattle.joint_glide.specs.Uneventful.{is_at, AreUneventful, IsUneventful}
use Rattle.joint_run.specs.Cycle.{outside_wires}
use Rattle.joint_run.specs.Due.{IsJointStep}
use Rattle.joint_run.specs.Joint.{Beside, joint_board}
use Rattle.joint_run.specs.Run.{World, seen as pins_seen}
use Rattle.joint_run.specs.declared.due.Due.{Due}
use Rattle.joint_run.specs.declared.due.Seen.{Seen}
use Rattle.joint_run.specs.declared.machine.Machine.{Machine}
use Rattle.joint_run.specs.declared.outside.Outside.{Outside}
use Rattle.mcs48_core.specs.Cpu.{Cpu}
use Rattle.mcs48_core.specs.Step.{takes_external, takes_timer}
use Rattle.mcs48_core.specs.declared.stepping.Stuck.{Stuck}
use Rattle.run_loop.specs.declared.ending.Ending.{Ending}
use Rattle.run_loop.specs.declared.ending.Ending.TheVariants.{TickStart, Stamp}
use Rattle.run_loop.specs.declared.ending.Halt.{Halt}
use Rattle.run_loop.specs.Answers.{MeetsNoTick, DecidesOver}
use Rattle.run_loop.specs.Gliding.{HasGlided, IsGoing, IsHeldUp, IsOnward, IsStepped}
use Rattle.run_loop.specs.Stretching.{CanFollow, HasMade, NoneHalts}
use Rattle.run_loop.proofs.Dozing.{HasDozed, dozes_on, looked_on, none_dozed}
use Rattle.run_loop.proofs.Over.{open_off_tick, reached_at}
use Rattle.run_loop.proofs.Quietly.{looked_now, next_cycle, one_onward, then_onward}

-- a machine whose counter is elsewhere is at no tick start
off_tick : (m : Machine) → is_at TICK m ≡ false → DecidesTick m false
off_tick m off edges events w same =
    let at : (w.cpu.pc % 2048 == TICK) ≡ false = ap (λ (c : Cpu). c.pc % 2048 == TICK) same ∙ off in
    sym (ap (λ b. b && not (takes_external (pins_seen (joint_board edges events) w) w.cpu) && not (takes_timer w.cpu)) at)

-- and one whose cycle is before the end has not reached it
no_halt : (e : Ending) (stop place to : ℕ) (m : Machine) → NoneHalts e stop place to → is_at place m ≡ false → m.cycle ≤ to
    → DecidesOver e m stop false × MeetsNoTick e m
no_halt TickStart stop place to m h off below =
    let tick : DecidesTick m false = off_tick m (ap (λ p. is_at p m) (sym h) ∙ off) in
    (λ s w at_stop cpu cycle. open_off_tick s w false (tick s.edges s.events w cpu) refl, tick)
no_halt Stamp stop place to m h off below =
    let end : to < 4096 + stop = h in
    let before : nat_le (4096 + stop) m.cycle ≡ false = grind (arith, nat_tests, end, below) in
    (λ s w at_stop cpu cycle. reached_at s w stop m.cycle false (sym before) at_stop cycle, tt)

-- a quiet step changes no wire
same_wires : (due : Due) (m n : Machine) → IsUneventful due m n → (sight_of n).lines ≡ (sight_of m).lines
same_wires due m n q =
    let outside : n.outside ≡ m.outside = ap (λ (x : Machine). x.outside) q.parts in
    ap (λ p. outside_wires p n.outside) q.latch ∙ ap (λ (o : Outside). outside_wires m.mcu.p2 o) outside

-- where the processor is stuck nothing has changed
stuck_as : (due : Due) (old new : Machine) (o : Option (World Beside)) (stuck : Stuck) → IsJointStep due old o (Err stuck) new → new ≡ old
stuck_as due old new None stuck h = h.1
stuck_as due old new (Some w) stuck h = absurd h

-- the machine in a run, where no event was taken
abbrev pub course_at : Course → Machine → Seen → Course
course_at c m reported = record { joint = m; ahead = c.ahead; seen = reported; fill = c.fill }

-- quiet steps were made that probes needn't look at, and the wires are as they were
pub record HasSlept (u : Halt) (s : Story) (first : List Watch) (old : Course) (latest : ℕ) (p : Course) (probes : List Watch)
    (m : Machine) : Type 0 where
  pub reported : Seen
  pub dozed : HasDozed u s first old latest (course_at p m reported) probes
  pub cycle : p.joint.cycle ≤ m.cycle
  pub wires : (sight_of m).lines ≡ (sight_of p.joint).lines

module _ (u : Halt) (s : Story) (first : List Watch) (old : Course) (latest : ℕ) (p : Course) (probes : List Watch)
    (d : HasDozed u s first old latest p probes) (clk rest : Bool) (level : (sight_of p.joint).lines.clk ≡ clk)
    (at_rest : rest ≡ true → all_rest clk probes ≡ true) where
  not_yet : (m : Machine) → m ≡ p.joint → HasSlept u s first old latest p probes m
  not_yet m same =
      subst (λ (n : Machine). HasSlept u s first old latest p probes n) (sym same)
      (record { reported = p.seen; dozed = d; cycle = omega arith; wires = refl })

  slept : all_rest clk probes ≡ true → (place to : ℕ) → NoneHalts u.ending u.stop place to → (k : ℕ) (m : Machine)
      → AreUneventful p.ahead.due place k p.joint m → m.cycle ≤ to → HasSlept u s first old latest p probes m
  slept resting place to none zero m e below = not_yet m e
  slept resting place to none (suc k) m h below =
      let between = h.0 in
      let q = h.2 in
      let at : m.cycle ≡ between.cycle + q.seen.cycles = ap (λ (n : Machine). n.cycle) q.parts in
      let some = q.some in
      let it = slept resting place to none k between h.1 (omega (arith, at, below)) in
      let last = course_at p between it.reported in
      let new = course_at p m q.seen in
      let halt = no_halt u.ending u.stop place to m none h.3 below in
      let same = same_wires p.ahead.due between m q in
      let stepped : IsStepped last new = record { step = q.step; run = q.run; some = q.some; few = q.few; ahead = refl } in
      let onward = one_onward u s last new it.dozed.onward.going stepped (sight_of between).lines (λ on. refl)
      (record { edges = q.edges; host = q.host; items = q.items; before_end = halt.0; no_tick = halt.1; levels = λ on. same }) in
      let so_far = it.cycle in
      record {
        reported = q.seen;
        dozed = dozes_on u s first old latest last probes it.dozed new stepped clk resting
            (ap (λ (l : Lines). l.clk) (same ∙ it.wires) ∙ level) onward;
        cycle = omega (arith, at, so_far);
        wires = same ∙ it.wires;
      }

  module _ (new : Course) (result : Result Seen Stuck) (made : HasMade u rest p result new) where
    -- the steps before the last one that was made
    slept_on : HasSlept u s first old latest p probes made.gone.last
    slept_on =
        let last = made.gone.last in
        elim rest as (λ b. rest ≡ b → HasSlept u s first old latest p probes last) [
          | true ↦ λ f.
              slept (at_rest f) made.place (p.joint.cycle + made.most) made.before_halt made.gone.count
              last made.gone.quiet made.gone.within
          | false ↦ λ f. not_yet last (subst (λ k. AreUneventful p.ahead.due made.place k p.joint last) (made.alone f) made.gone.quiet)
        ] refl

    abbrev last : Course
    last = course_at p made.gone.last slept_on.reported

    abbrev going : IsGoing u s last
    going = slept_on.dozed.onward.going

  -- after them the processor is stuck
  module _ (new : Course) (stuck : Stuck) (made : HasMade u rest p (Err stuck) new) where
    still : new.joint ≡ made.gone.last
    still = stuck_as p.ahead.due made.gone.last new.joint _ stuck made.gone.step

    -- after a step that was stuck there is no state
    pub none_there : state_at s (suc made.gone.last.steps) ≡ None
    none_there =
        let g = going new (Err stuck) made in
        no_further s (last new (Err stuck) made) new.joint stuck g.run_so_far.on g.accepted.lawful.thin g.accepted.lawful.edges_in_order
        made.gone.run

    -- a run whose processor is stuck after quiet steps is stuck there, if the probes have looked at all states
    pub held : (after : List Watch) → after ≡ looks s new.joint.steps first → IsHeldUp u s first old new after stuck
    held after looked = record {
      last = last new (Err stuck) made;
      onward = (slept_on new (Err stuck) made).dozed.onward;
      joint = still;
      ahead = made.ahead;
      step = made.gone.step;
      run = made.gone.run;
      looked = looked;
    }

    -- a run whose processor is stuck is stuck there, if no state has come since the probes' last look
    pub held_unseen : new.joint.steps ≡ latest → IsHeldUp u s first old new probes stuck
    held_unseen same =
        held probes (subst (λ (m : Machine). m.steps ≡ latest → probes ≡ looks s m.steps first) (sym still)
        (slept_on new (Err stuck) made).dozed.none same)

    -- a run whose processor is stuck is stuck there, after the probes' look at the last state
    pub held_seen : (new.joint.steps ≡ latest → ⊥) → IsHeldUp u s first old new (looked_now new probes) stuck
    held_seen other =
        held (looked_now new probes)
        (subst (λ (m : Machine). (m.steps ≡ latest → ⊥) → map (looked m.steps (sight_of m)) probes ≡ looks s m.steps first) (sym still)
        (slept_on new (Err stuck) made).dozed.some other)

  -- or there is one more step
  module _ (new : Course) (made : HasMade u rest p (Ok new.seen) new) (some : 0 < new.seen.cycles) (few : new.seen.cycles < 3) where
    abbrev before : HasSlept u s first old latest p probes made.gone.last
    before = slept_on new (Ok new.seen) made

    abbrev it : Course
    it = last new (Ok new.seen) made

    stepped : IsStepped it new
    stepped = record { step = made.gone.step; run = made.gone.run; some = some; few = few; ahead = made.ahead }

    -- after one more step the machine is at a later cycle
    pub later : p.joint.cycle < new.joint.cycle
    later =
        let so_far = before.cycle in
        let more = (next_cycle u s it new (going new (Ok new.seen) made) stepped).0 in
        omega (arith, so_far, more)

    -- a look at the state after one more step leaves the probes as if they had looked at each state
    pub seen : looked_now new probes ≡ looks s new.joint.steps first
    seen = looked_on u s first old latest it probes before.dozed new stepped

    -- it may have something to be reported
    pub glided : HasGlided u s first old new (looked_now new probes)
    glided = record { last = it; onward = before.dozed.onward; stepped = stepped; looked = seen }

    -- or the next one can follow at once
    module _ (lines : Lines) (kept : u.wires ≡ true → (sight_of p.joint).lines ≡ lines) (can : CanFollow u lines new) where
      onward : IsOnward u s it new
      onward = one_onward u s it new (going new (Ok new.seen) made) stepped lines (λ on. before.wires ∙ kept on) can

      -- if the probes rest and the clock is as it was, they needn't look at the state after one more step
      pub dozed : all_rest clk probes ≡ true → (sight_of new.joint).lines.clk ≡ clk → HasDozed u s first old latest new probes
      dozed resting now = dozes_on u s first old latest it probes before.dozed new stepped clk resting now onward

      -- after a look at the state that one more step led to the probes are up to date
      pub woken : (number : ℕ) → number ≡ new.joint.steps → (after : List Watch) → after ≡ looked_now new probes
          → HasDozed u s first old number new after
      woken number same after is =
          none_dozed u s first old new number after (then_onward u s old it new before.dozed.onward onward) same (is ∙ seen)
