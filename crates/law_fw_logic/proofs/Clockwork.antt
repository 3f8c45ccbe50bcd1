-- From one law a tick to the whole run: where the first start and the tick from each start to the next are known, every
-- tick start is.
use Rattle.std.proofs.Common.{◌≡◌, ◌≤◌, ◌<◌, ℕ, suc, zero, ◌+◌, ◌-◌, ◌*◌, List, true, Some, refl, ap, sym, ◌∙◌}
use Rattle.std.proofs.Common.{subst, arith}
use Rattle.board_terms.specs.Cadence.{IsNear}
use Rattle.fw_kernel.specs.declared.labels.TheConstants.{TICK}
use Rattle.joint_run.specs.Run.{Board, World, run_at}
use Rattle.joint_run.specs.Starts.{at_tick, starts_before, Comes, Tick, IsNth, IsStart, IsEnd}
use Rattle.fw_ticks.proofs.Numbers.{Reached, nth_reached, same_start, goes_on, least}

-- a set of tick starts, by how many cycles they are late, and what is to be shown of it
pub record IsClockwork (d : Board) (bytes : List ℕ) (from : World d.State) (S : ℕ → World d.State
    → Type 0) : Type 0 where
  pub first : Comes d TICK bytes from (λ w. (late : ℕ) × S late w × (late ≤ 1) × (w.cycle ≡ 4096 + late))
  pub each : (late : ℕ) (w : World d.State) → S late w → late ≤ 1
      → Tick d TICK bytes w (λ v. (l : ℕ) × S l v × (l ≤ 1) × (v.cycle + late ≡ w.cycle + 2048 + l))
  pub serves : (late : ℕ) (w : World d.State) → S late w → (w.cpu.svc ≡ true) × (w.cpu.rb ≡ true)

module _ (d : Board) (bytes : List ℕ) (from : World d.State) (S : ℕ → World d.State → Type 0)
    (clock : IsClockwork d bytes from S) where
  -- the n-th start
  pub record Known (n : ℕ) : Type 0 where
    pub w : World d.State
    pub nth : IsNth d TICK bytes from n w
    pub late : ℕ
    pub set : S late w
    pub most : late ≤ 1
    pub cycle : w.cycle ≡ 4096 + 2048 * n + late

  -- each number has its tick start, at its multiple of 2,048 or a cycle past it
  pub known : (n : ℕ) → Known n
  known zero =
      let r = clock.first in
      let cycle : r.end.cycle ≡ 4096 + r.goal.0 = r.goal.3 in
      record {
        w = r.end;
        nth = record { steps = r.steps; end = r.end; run = r.run; goal = refl };
        late = r.goal.0;
        set = r.goal.1;
        most = r.goal.2;
        cycle = omega (arith, cycle);
      }
  known (suc n) =
      let k = known n in
      let t = clock.each k.late k.w k.set k.most in
      let r = t.rest in
      let before : k.w.cycle ≡ 4096 + 2048 * n + k.late = k.cycle in
      let time : r.end.cycle + k.late ≡ k.w.cycle + 2048 + r.goal.0 = r.goal.3 in
      let rest : Comes d TICK bytes t.first (λ e. e ≡ r.end) =
      record { steps = r.steps; end = r.end; run = r.run; goal = refl } in
      record {
        w = r.end;
        nth = (k.w, k.nth, record { at = t.at; first = t.first; step = t.step; rest = rest });
        late = r.goal.0;
        set = r.goal.1;
        most = r.goal.2;
        cycle = omega (arith, before, time);
      }

  -- each of these states is a tick start
  pub at_start : (n : ℕ) → at_tick d TICK (known n).w ≡ true
  at_start n = let k = known n in (clock.each k.late k.w k.set k.most).at

  cycle_of : (n : ℕ) → (4096 + 2048 * n ≤ (known n).w.cycle) × ((known n).w.cycle ≤ 4096 + 2048 * n + 1)
  cycle_of n =
      let k = known n in
      let c : k.w.cycle ≡ 4096 + 2048 * n + k.late = k.cycle in
      let l : k.late ≤ 1 = k.most in
      (omega (arith, c), omega (arith, c, l))

  -- how the run reaches the n-th start
  reached : (n : ℕ) → Reached d TICK bytes from n (known n).w
  reached n = nth_reached d TICK bytes from n (known n).w (known n).nth

  -- a tick start that the run reaches is the one of its number
  pub is_known : (k : ℕ) (w : World d.State) → run_at d bytes from k ≡ Some w → at_tick d TICK w ≡ true
      → (known (starts_before d TICK bytes from k)).w ≡ w
  is_known k w run at =
      let n = starts_before d TICK bytes from k in
      let r = reached n in
      same_start d TICK bytes from r.steps k (known n).w w r.run run (at_start n) at r.count

  -- the run has a state after each number of steps
  pub never_stuck : (k : ℕ) → (w : World d.State) × (run_at d bytes from k ≡ Some w)
  never_stuck = goes_on d TICK bytes from (λ n. ((known n).w, reached n))

  -- no tick start comes before stamp 0
  pub none_early : (k : ℕ) (w : World d.State) → run_at d bytes from k ≡ Some w → at_tick d TICK w ≡ true
      → 4096 ≤ w.cycle
  none_early k w run at =
      let n = starts_before d TICK bytes from k in
      let l : 4096 + 2048 * n ≤ (known n).w.cycle = (cycle_of n).0 in
      subst (λ (v : World d.State). 4096 ≤ v.cycle) (is_known k w run at) (omega (arith, l))

  abbrev stamp_of : ℕ → ℕ
  stamp_of n = (known n).w.cycle - 4096

  -- each of these states is the tick start of its number, at its stamp
  pub starts : (n : ℕ) → IsStart d TICK bytes from n (stamp_of n)
  starts n =
      let r = reached n in
      let l : 4096 + 2048 * n ≤ (known n).w.cycle = (cycle_of n).0 in
      record {
        steps = r.steps;
        state = (known n).w;
        reached = r.run;
        at = at_start n;
        number = r.count;
        cycle = omega (arith, l);
      }

  -- each start of a number is that one
  pub is_nth : (n stamp : ℕ) (s : IsStart d TICK bytes from n stamp) → (known n).w ≡ s.state
  is_nth n stamp s =
      let r = reached n in
      same_start d TICK bytes from r.steps s.steps (known n).w s.state r.run s.reached (at_start n) s.at
      (r.count ∙ sym s.number)

  -- a number has one tick start, at one stamp
  pub stamp_is : (n stamp : ℕ) → IsStart d TICK bytes from n stamp → stamp ≡ stamp_of n
  stamp_is n stamp s =
      let c : s.state.cycle ≡ 4096 + stamp = s.cycle in
      let e : (known n).w.cycle ≡ s.state.cycle = ap (λ (v : World d.State). v.cycle) (is_nth n stamp s) in
      omega (arith, c, e)

  -- each tick start is near its multiple of 2,048
  pub near : (n stamp : ℕ) → IsStart d TICK bytes from n stamp → IsNear n stamp
  near n stamp s =
      let e : stamp ≡ stamp_of n = stamp_is n stamp s in
      let l : 4096 + 2048 * n ≤ (known n).w.cycle = (cycle_of n).0 in
      let u : (known n).w.cycle ≤ 4096 + 2048 * n + 1 = (cycle_of n).1 in
      record { least = omega (arith, e, l); most = omega (arith, e, l, u) }

  -- at each tick start the service is entered, with register bank 1
  pub serving : (n stamp : ℕ) (s : IsStart d TICK bytes from n stamp)
      → (s.state.cpu.svc ≡ true) × (s.state.cpu.rb ≡ true)
  serving n stamp s =
      let k = known n in
      subst (λ (v : World d.State). (v.cpu.svc ≡ true) × (v.cpu.rb ≡ true)) (is_nth n stamp s)
      (clock.serves k.late k.w k.set)

  -- for each end stamp there is a first tick start that isn't before it, and the run ends there
  pub ends : (stop : ℕ) → (n : ℕ) × IsEnd d TICK bytes from stop n
  ends stop =
      let up : (n : ℕ) → n ≤ stamp_of n =
      λ n. let c : 4096 + 2048 * n ≤ (known n).w.cycle = (cycle_of n).0 in omega (arith, c) in
      let l = least stamp_of stop up in (
        l.n,
        record {
          stamp = stamp_of l.n;
          start = starts l.n;
          reaches = l.reaches;
          before = λ j stamp less s. subst (λ t. t < stop) (sym (stamp_is j stamp s)) (l.before j less);
        },
      )
