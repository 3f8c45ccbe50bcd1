-- A program that keeps its time: its run isn't stuck, and comes to its end soon enough.
use Rattle.std.proofs.Common.{◌≡◌, ◌≤◌, ◌<◌, ◌^◌, ℕ, zero, suc, ◌+◌, true, false, ◌&&◌, leb, Some, None, refl, ap, sym, ◌∙◌, arith}
use Rattle.std.specs.Prelude.{nat_le}
use Rattle.std.proofs.lemmas.Bool.Decides.{nat_tests}
use Rattle.fw_kernel.specs.declared.labels.TheConstants.{TICK}
use Rattle.fw_ticks.specs.JointRun.{KeepsTimeFrom}
use Rattle.joint_feed.proofs.Going.{here, same_state}
use Rattle.joint_feed.specs.Stories.{Story, state_at}
use Rattle.joint_feed.specs.declared.course.Course.{Course}
use Rattle.joint_run.specs.Joint.{Beside, joint_board, joint_start_of}
use Rattle.joint_run.specs.Run.{World}
use Rattle.joint_run.specs.Starts.{IsEnd}
use Rattle.run_loop.specs.declared.ending.Ending.{Ending}
use Rattle.run_loop.specs.declared.ending.Ending.TheVariants.{TickStart, Stamp}
use Rattle.run_loop.specs.declared.ending.Halt.{Halt}
use Rattle.run_loop.specs.Gliding.{IsGoing, IsTimely}
use Rattle.run_loop.specs.Running.{GoesOnTo, is_over}
use Rattle.run_loop.specs.Stretching.{NoneHalts}
use Rattle.run_loop.proofs.Steps.{on_at, step_later}

-- the run is never stuck
pub never_stuck : (s : Story) (k : ℕ) → KeepsTimeFrom (joint_start_of s.held) s.bytes s.edges s.events → state_at s k ≡ None → ⊥
never_stuck s k time none =
    let on = time.goes_on k in
    let there : state_at s k ≡ Some on.0 = on.1 in
    absurd (cc (none, there))

module _ (s : Story) (t : KeepsTimeFrom (joint_start_of s.held) s.bytes s.edges s.events) where
  grows : (k m : ℕ) (w v : World Beside) → k ≤ m → state_at s k ≡ Some w → state_at s m ≡ Some v → w.cycle ≤ v.cycle
  grows k zero w v l h g =
      let e : k ≡ 0 = omega (arith, l) in
      let f : Some w ≡ Some v = sym h ∙ ap (state_at s) e ∙ g in
      let same : w.cycle ≡ v.cycle = ap (λ (u : World Beside). u.cycle) (same_state f) in
      omega (arith, same)
  grows k (suc m) w v l h g =
      elim (leb k m) as (λ b. leb k m ≡ b → w.cycle ≤ v.cycle) [
        | true ↦ λ f.
            let on = t.goes_on m in
            let below : k ≤ m = grind (arith, nat_tests, f) in
            let a = grows k m w on.0 below h on.1 in
            let b = (step_later s m on.0 v on.1 g).0 in
            omega (arith, a, b)
        | false ↦ λ f.
            let e : k ≡ suc m = grind (arith, nat_tests, f, l) in
            let i : Some w ≡ Some v = sym h ∙ ap (state_at s) e ∙ g in
            let same : w.cycle ≡ v.cycle = ap (λ (u : World Beside). u.cycle) (same_state i) in
            omega (arith, same)
      ] refl

  -- the end is a start that comes soon enough
  end_soon : (n : ℕ) (e : IsEnd (joint_board s.edges s.events) TICK s.bytes (joint_start_of s.held) s.stop n)
      → e.start.state.cycle < s.stop + 6152
  end_soon zero e =
      let near = t.near zero e.stamp e.start in
      let a = near.most in
      let b = e.start.cycle in
      omega (arith, a, b)
  end_soon (suc m) e =
      let near = t.near (suc m) e.stamp e.start in
      let earlier = t.starts m in
      let before = e.before m earlier.0 (omega arith) earlier.1 in
      let least = (t.near m earlier.0 earlier.1).least in
      let a = near.most in
      let b = e.start.cycle in
      omega (arith, a, b, before, least)

  -- a run that isn't over by now is near its end
  pub still_near : (k : ℕ) (w : World Beside)
      → GoesOnTo TickStart s k → state_at s k ≡ Some w → is_over TickStart s w ≡ false → w.cycle < s.stop + 6152
  still_near k w on here off =
      let end = t.ends s.stop in
      let e = end.1 in
      let soon = end_soon end.0 e in
      let reaches = e.reaches in
      let stamp = e.start.cycle in
      elim (leb k e.start.steps) as (λ b. leb k e.start.steps ≡ b → w.cycle < s.stop + 6152) [
        | true ↦ λ f. let a = grows k e.start.steps w e.start.state (grind (arith, nat_tests, f)) here e.start.reached in
            omega (arith, a, soon)
        | false ↦ λ f.
            let j = on_at s TickStart k e.start.steps on (grind (arith, nat_tests, f)) in
            let same : Some j.0 ≡ Some e.start.state = sym j.1 ∙ e.start.reached in
            let open_still : is_over TickStart s e.start.state ≡ false = sym (ap (is_over TickStart s) (same_state same)) ∙ j.2 in
            let reached : nat_le (4096 + s.stop) e.start.state.cycle ≡ true = grind (arith, nat_tests, reaches, stamp) in
            let over : is_over TickStart s e.start.state ≡ true =
            ap (λ b. b && nat_le (4096 + s.stop) e.start.state.cycle) e.start.at ∙ reached in
            absurd (cc (open_still, over))
      ] refl

-- a run that goes on hasn't come far
near_end : (e : Ending) (s : Story) (k : ℕ) (w : World Beside)
    → IsTimely e s → GoesOnTo e s k → state_at s k ≡ Some w → is_over e s w ≡ false
    → w.cycle < s.stop + 6152
near_end TickStart s k w time on there open_now = still_near s time k w on there open_now
near_end Stamp s k w time on there open_now = let l : w.cycle < 4096 + s.stop = grind (arith, nat_tests, open_now) in omega (arith, l)

-- a run that keeps its time is always before cycle 2^30
pub soon : (u : Halt) (s : Story) (c : Course) → IsGoing u s c → c.joint.cycle < 2 ^ 30
soon u s c g =
    let near = near_end u.ending s c.joint.steps g.run_so_far.on.world g.timely g.run_so_far.goes_on (here s c g.run_so_far.on) g.not_over in
    let now = g.run_so_far.on.in_run.cycle in
    let range = g.accepted.end_in_range in
    omega (arith, near, now, range)

-- one that is to end at its end stamp is before it
before_end : (e : Ending) (s : Story) (w : World Beside) → e ≡ Stamp → is_over e s w ≡ false → w.cycle < 4096 + s.stop
before_end TickStart s w is off = absurd (cc is)
before_end Stamp s w is off = grind (arith, nat_tests, off)

-- a run that ends at a stamp is before that stamp as long as it goes on
pub before_stamp : (u : Halt) (s : Story) (c : Course) → IsGoing u s c → u.ending ≡ Stamp → c.joint.cycle < 4096 + u.stop
before_stamp u s c g is =
    let before = before_end u.ending s g.run_so_far.on.world is g.not_over in
    let now = g.run_so_far.on.in_run.cycle in
    let stop = g.stop in
    omega (arith, before, now, stop)

none_by : (e : Ending) (stop cycle : ℕ) → (e ≡ Stamp → cycle < 4096 + stop) → NoneHalts e stop TICK (cycle + 0)
none_by TickStart stop cycle before = refl
none_by Stamp stop cycle before = let b = before refl in omega (arith, b)

-- no steps lead to no halt
pub none_halts : (u : Halt) (s : Story) (c : Course) → IsGoing u s c → NoneHalts u.ending u.stop TICK (c.joint.cycle + 0)
none_halts u s c g = none_by u.ending u.stop c.joint.cycle (before_stamp u s c g)
