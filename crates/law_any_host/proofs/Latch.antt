-- Each run has a latch of port 2 in each cycle: that after the step of which the cycle is one.
use Rattle.std.proofs.Common.{◌≡◌, ◌≤◌, ◌<◌, ℕ, zero, suc, ◌+◌, ◌-◌, Bool, true, false, ◌&&◌, nat_le, nat_lt, Some, None}
use Rattle.std.proofs.Common.{if◌then◌else◌, refl, ap, sym, ◌∙◌, subst, arith}
use Rattle.std.proofs.lemmas.Bool.Decides.{nat_tests}
use Rattle.std.specs.declared.option.Option.{Option}
use Rattle.bits.proofs.Every.{and-left, and-right}
use Rattle.fw_compile.specs.Image.{image_of}
use Rattle.law_fw_logic.specs.Boards.{numbered, power_on}
use Rattle.joint_run.specs.Joint.{latch_of}
use Rattle.joint_run.specs.Run.{Board, World, after_cycles, after_step, joint_step, run_at, seen, step_on}
use Rattle.layout_reader.specs.Layouts.{KeyLayout}
use Rattle.mcs48_core.specs.Step.{Stepped, stepped}
use Rattle.law_any_host.proofs.Run.{works_alone}
use Rattle.law_any_host.specs.AnyHost.{LatchLaw, driven_to}
use Rattle.law_any_host.specs.AnyPins.{WorksAlone}

some_same : {A : Type 0} (a b : A) → Some a ≡ Some b → a ≡ b
some_same a b e = cc

-- a step takes no cycle back
later_by : (d : Board) (one next : World d.State) → (x : Option Stepped) → after_step d one x ≡ Some next → one.cycle ≤ next.cycle
later_by d one next None e = absurd cc
later_by d one next (Some n) e =
    let z : World d.State =
    record {
      cpu = n.cpu;
      board = after_cycles n.cycles one.cycle (d.cycle n.cpu.p2) one.board;
      cycle = one.cycle + n.cycles;
    } in
    let same : one.cycle + n.cycles ≡ next.cycle = ap (λ (w : World d.State). w.cycle) (some_same z next e) in
    omega (arith, same)

module _ (layout : KeyLayout) (d : Board) (from : World d.State) (a : WorksAlone layout d from) where
  abbrev r : ℕ → World d.State
  r k = (a.goes_on k).0

  is : (k : ℕ) → run_at d (image_of layout) from k ≡ Some (r k)
  is k = (a.goes_on k).1

  step : (k : ℕ) → joint_step d (image_of layout) (r k) ≡ Some (r (suc k))
  step k = sym (ap (λ o. step_on d (image_of layout) o) (is k)) ∙ is (suc k)

  up : (j m : ℕ) → (r j).cycle ≤ (r (j + m)).cycle
  up j zero = let z : j ≡ j + 0 = omega arith in subst (λ i. (r j).cycle ≤ (r i).cycle) z (omega arith)
  up j (suc m) =
      let z : suc (j + m) ≡ j + suc m = omega arith in
      let before : (r j).cycle ≤ (r (j + m)).cycle = up j m in
      let next : (r (j + m)).cycle ≤ (r (suc (j + m))).cycle =
      later_by d (r (j + m)) (r (suc (j + m))) (stepped (image_of layout) (seen d (r (j + m))) (r (j + m)).cpu) (step (j + m)) in
      subst (λ i. (r j).cycle ≤ (r i).cycle) z (omega (arith, before, next))

  count : (c : ℕ) → c ≤ a.starts c
  count zero = omega arith
  count (suc c) =
      let l : c ≤ a.starts c = count c in
      let m : a.starts c + 2016 ≤ a.starts (suc c) = a.apart c in
      omega (arith, l, m)

  -- whether a cycle is one of a step
  abbrev in_step : ℕ → ℕ → Bool
  in_step c k = nat_le (r k).cycle c && nat_lt c (r (suc k)).cycle

  pick : ℕ → ℕ → ℕ
  pick c zero = 0
  pick c (suc k) = if in_step c k then (r (suc k)).cpu.p2 else pick c k

  first_of : (c : ℕ) (k : ℕ) → in_step c k ≡ true → (r k).cycle ≤ c
  first_of c k h =
      let l : nat_le (r k).cycle c ≡ true = and-left (nat_le (r k).cycle c) (nat_lt c (r (suc k)).cycle) h in grind (arith, nat_tests, l)

  last_of : (c : ℕ) (k : ℕ) → in_step c k ≡ true → c < (r (suc k)).cycle
  last_of c k h =
      let l : nat_lt c (r (suc k)).cycle ≡ true = and-right (nat_le (r k).cycle c) (nat_lt c (r (suc k)).cycle) h in grind (arith, nat_tests, l)

  -- it is one of one step
  not_before : (c j k : ℕ) → in_step c j ≡ true → in_step c k ≡ true → j < k → true ≡ false
  not_before c j k p q l =
      let z : suc j + (k - suc j) ≡ k = omega (arith, l) in
      let far : (r (suc j)).cycle ≤ (r k).cycle = subst (λ i. (r (suc j)).cycle ≤ (r i).cycle) z (up (suc j) (k - suc j)) in
      let u : c < (r (suc j)).cycle = last_of c j p in
      let m : (r k).cycle ≤ c = first_of c k q in
      absurd (omega (arith, far, u, m))

  found : (c k : ℕ) → in_step c k ≡ true → (m : ℕ) → k < m → pick c m ≡ (r (suc k)).cpu.p2
  unfolding pick
  found c k h zero l = absurd (omega (arith, l))
  found c k h (suc m) l = by (in_step c m) refl (nat_lt k m) refl (λ u. found c k h m u)
    where
      by : (b : Bool) → in_step c m ≡ b → (t : Bool) → nat_lt k m ≡ t → (k < m → pick c m ≡ (r (suc k)).cpu.p2)
          → (if in_step c m then (r (suc m)).cpu.p2 else pick c m) ≡ (r (suc k)).cpu.p2
      by true e true t ih =
          let u : k < m = grind (arith, nat_tests, t) in
          let no : true ≡ false = not_before c k m h e u in absurd cc
      by true e false t ih =
          let same : m ≡ k = (let u : m ≤ k = grind (arith, nat_tests, t) in omega (arith, u, l)) in
          ap (λ b. if b then (r (suc m)).cpu.p2 else pick c m) e ∙ ap (λ i. (r (suc i)).cpu.p2) same
      by false e true t ih =
          ap (λ b. if b then (r (suc m)).cpu.p2 else pick c m) e ∙ ih (grind (arith, nat_tests, t))
      by false e false t ih =
          let same : m ≡ k = (let u : m ≤ k = grind (arith, nat_tests, t) in omega (arith, u, l)) in
          let no : true ≡ false = sym h ∙ ap (in_step c) (sym same) ∙ e in absurd cc

  -- the latch of port 2 in each cycle of a run
  pub latch : ℕ → ℕ
  latch c = pick c (a.each c).steps

  -- the latch of a cycle is that after the step of which the cycle is one
  pub of_run : (k c : ℕ) (one next : World d.State) → run_at d (image_of layout) from k ≡ Some one
      → joint_step d (image_of layout) one ≡ Some next → one.cycle ≤ c → c < next.cycle → next.cpu.p2 ≡ latch c
  unfolding latch
  of_run k c one next run made l u =
      let here : one ≡ r k = some_same one (r k) (sym run ∙ is k) in
      let there : next ≡ r (suc k) =
      some_same next (r (suc k)) (sym made ∙ ap (λ w. joint_step d (image_of layout) w) here ∙ step k) in
      let from_it : (r k).cycle ≤ c = subst (λ (w : World d.State). w.cycle ≤ c) here l in
      let to_it : c < (r (suc k)).cycle = subst (λ (w : World d.State). c < w.cycle) there u in
      let one_true : nat_le (r k).cycle c ≡ true = grind (arith, nat_tests, from_it) in
      let two_true : nat_lt c (r (suc k)).cycle ≡ true = grind (arith, nat_tests, to_it) in
      let inside : in_step c k ≡ true = rw (one_true, two_true) refl in
      ap (λ (w : World d.State). w.cpu.p2) there ∙ sym (found c k inside (a.each c).steps (by (nat_lt k (a.each c).steps) refl from_it))
    where
      by : (b : Bool) → nat_lt k (a.each c).steps ≡ b → (r k).cycle ≤ c → k < (a.each c).steps
      by true e low = grind (arith, nat_tests, e)
      by false e low =
          let s = a.each c in
          let past : s.steps ≤ k = grind (arith, nat_tests, e) in
          let z : s.steps + (k - s.steps) ≡ k = omega (arith, past) in
          let before : (r s.steps).cycle ≤ (r k).cycle =
          subst (λ i. (r s.steps).cycle ≤ (r i).cycle) z (up s.steps (k - s.steps)) in
          let state : s.state ≡ r s.steps = some_same s.state (r s.steps) (sym s.reached ∙ is s.steps) in
          let cycle : (r s.steps).cycle ≡ 4096 + a.starts c = sym (ap (λ (w : World d.State). w.cycle) state) ∙ s.cycle in
          let least : c ≤ a.starts c = count c in
          absurd (omega (arith, before, cycle, least, low))

-- each run has a latch of port 2 in each cycle, and so its wires, whatever the host is
pub wirings : LatchLaw
wirings layout fine pins tick low m small board few host seen reads wants =
    let d : Board = numbered pins tick in
    let from : World ℕ = power_on (numbered pins tick) m board in
    let a = works_alone layout fine (numbered pins tick) low m small board few in
    let l : ℕ → ℕ = latch layout (numbered pins tick) (power_on (numbered pins tick) m board) a in (
      record {
        keyboard = λ c. latch_of (l c);
        host = host;
        pins = λ c. record {
          clk = ((numbered pins tick).pins 44 (l c) c (driven_to (numbered pins tick) l board c)).t0;
          dat = ((numbered pins tick).pins 44 (l c) c (driven_to (numbered pins tick) l board c)).t1;
        };
        seen = seen;
        reads = reads;
        wants = wants;
      },
      record {
        latch = l;
        of_run = of_run layout (numbered pins tick) (power_on (numbered pins tick) m board) a;
        keyboard = λ c. refl;
        clock = λ c. refl;
        data_wire = λ c. refl;
      },
      refl,
      refl,
      refl,
      refl,
    )
