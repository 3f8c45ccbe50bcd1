-- A board that watches the latch of port 2: where it has seen no other than it was reported to wait for, the run beneath it
-- has driven just that.
use Rattle.std.proofs.Common.{◌≡◌, ◌≤◌, ◌<◌, ℕ, suc, zero, ◌+◌, List, Bool, true, false, ◌&&◌, ◌==◌, Some, None}
use Rattle.std.proofs.Common.{refl, ap, sym, ◌∙◌, subst, arith}
use Rattle.std.specs.declared.option.Option.{Option}
use Rattle.std.proofs.lemmas.Bool.Decides.{nat_tests}
use Rattle.mcs48_core.specs.Step.{Stepped, stepped}
use Rattle.bits.proofs.Every.{same_of, and-left, and-right}
use Rattle.law_fw_link.specs.Drives.{Drives, DrivesTick}
use Rattle.law_fw_link.proofs.Latches.{driven}
use Rattle.joint_run.specs.Run.{Board, World, after_cycles, seen, after_step, joint_step}
use Rattle.joint_run.specs.Starts.{at_tick, calm_step, calm, Comes, Tick}

-- whether the latch was this in each cycle so far
pub record Watched (S : Type 0) : Type 0 where
  pub under : S
  pub good : Bool

abbrev pub watching : Board → (ℕ → ℕ) → Board
watching d latch = record {
  State = Watched d.State;
  pins = λ p1 p2 c s. d.pins p1 p2 c s.under;
  cycle = λ p2 c s. record { under = d.cycle p2 c s.under; good = s.good && (p2 == latch c) };
}

-- a state of the run that is watched from now on, and one beneath it
abbrev pub watched : {S : Type 0} → World S → World (Watched S)
watched w = record { cpu = w.cpu; board = record { under = w.board; good = true }; cycle = w.cycle }

abbrev pub bare : {S : Type 0} → World (Watched S) → World S
bare w = record { cpu = w.cpu; board = w.board.under; cycle = w.cycle }

-- the test finds equal numbers equal
pub same_number : (a b : ℕ) → a ≡ b → (a == b) ≡ true
same_number a b e = grind (arith, nat_tests, e)

some_same : {A : Type 0} (a b : A) → Some a ≡ Some b → a ≡ b
some_same a b e = cc

module _ (d : Board) (latch : ℕ → ℕ) where
  abbrev W : Board
  W = watching d latch

  -- a latch that is as was reported is found good
  pub driven_good : (x : ℕ) (l : ℕ → ℕ) (n from : ℕ) (s : W.State)
      → ((o : ℕ) → from ≤ o → o < from + n → l o ≡ latch (x + o)) → s.good ≡ true → (driven W x l n from s).good ≡ true
  driven_good x l zero from s is good = good
  driven_good x l (suc n) from s is good =
      driven_good x l n (from + 1) (W.cycle (l from) (x + from) s)
      (λ o a u. is o (omega (arith, a)) (omega (arith, u)))
      (ap (λ b. b && (l from == latch (x + from))) good
      ∙ same_number (l from) (latch (x + from)) (is from (omega arith) (omega arith)))

  -- so is one that stays
  pub ticks_stay_good : (n y v : ℕ) (s : W.State) → ((c : ℕ) → y ≤ c → c < y + n → v ≡ latch c) → s.good ≡ true
      → (after_cycles n y (W.cycle v) s).good ≡ true
  ticks_stay_good zero y v s is good = good
  ticks_stay_good (suc n) y v s is good =
      ticks_stay_good n (y + 1) v (W.cycle v y s) (λ c a u. is c (omega (arith, a)) (omega (arith, u)))
      (ap (λ b. b && (v == latch y)) good ∙ same_number v (latch y) (is y (omega arith) (omega arith)))

  ticks_under : (n y v : ℕ) (s : W.State) → (after_cycles n y (W.cycle v) s).under ≡ after_cycles n y (d.cycle v) s.under
  ticks_under zero y v s = refl
  ticks_under (suc n) y v s = ticks_under n (y + 1) v (W.cycle v y s)

  -- in a step, too
  ticks_good : (n y v : ℕ) (s : W.State) → (after_cycles n y (W.cycle v) s).good ≡ true
      → (s.good ≡ true) × ((c : ℕ) → y ≤ c → c < y + n → v ≡ latch c)
  ticks_good zero y v s good = (good, λ c a u. absurd (omega (arith, a, u)))
  ticks_good (suc n) y v s good =
      let later = ticks_good n (y + 1) v (W.cycle v y s) good in
      let found : (s.good && (v == latch y)) ≡ true = later.0 in (
        and-left s.good (v == latch y) found,
        λ c a u. by_case c a (c == y) refl (same_of v (latch y) (and-right s.good (v == latch y) found))
            (λ more. later.1 c more (omega (arith, u))),
      )
    where
      by_case : (c : ℕ) → y ≤ c → (b : Bool) → (c == y) ≡ b → v ≡ latch y → (y + 1 ≤ c → v ≡ latch c) → v ≡ latch c
      by_case c a true e here more = here ∙ ap latch (sym (same_of c y e))
      by_case c a false e here more = more (grind (arith, nat_tests, e, a))

  module _ (tick : ℕ) (bytes : List ℕ) where
    -- one step: the same beneath, and where the latch is found good in it, it was so
    record Steps (v e : World W.State) : Type 0 where
      pub step : joint_step d bytes (bare v) ≡ Some (bare e)
      pub good : e.board.good ≡ true → v.board.good ≡ true
      pub latches : e.board.good ≡ true → (c : ℕ) → v.cycle ≤ c → c < e.cycle → e.cpu.p2 ≡ latch c

    steps_by : (v e : World W.State) (x : Option Stepped) → stepped bytes (seen d (bare v)) v.cpu ≡ x
        → after_step W v x ≡ Some e → Steps v e
    steps_by v e None is h = absurd cc
    steps_by v e (Some n) is h =
        let s : W.State = after_cycles n.cycles v.cycle (W.cycle n.cpu.p2) v.board in
        let z : World W.State = record { cpu = n.cpu; board = s; cycle = v.cycle + n.cycles } in
        subst (λ u. Steps v u) (some_same z e h) (record {
          step = ap (λ o. after_step d (bare v) o) is
              ∙ ap (λ b. Some (record { cpu = n.cpu; board = b; cycle = v.cycle + n.cycles }))
              (sym (ticks_under n.cycles v.cycle n.cpu.p2 v.board));
          good = λ g. (ticks_good n.cycles v.cycle n.cpu.p2 v.board g).0;
          latches = λ g c a u. (ticks_good n.cycles v.cycle n.cpu.p2 v.board g).1 c a u;
        })

    -- where it is no tick start
    no_start : {A : Type 0} (b : Bool) (x : Option A) (u : A)
        → elim b as (λ y. Option A) [ true ↦ None | false ↦ x ] ≡ Some u → (b ≡ false) × (x ≡ Some u)
    no_start true x u h = absurd cc
    no_start false x u h = (refl, h)

    -- what a run of the board that watches says of the run beneath it
    record Says (n : ℕ) (v e : World W.State) : Type 0 where
      pub run : calm d tick bytes n (bare v) ≡ Some (bare e)
      pub good : e.board.good ≡ true → v.board.good ≡ true
      pub latches : e.board.good ≡ true → (k c : ℕ) (one next : World d.State) → k < n
          → calm d tick bytes k (bare v) ≡ Some one
          → joint_step d bytes one ≡ Some next → one.cycle ≤ c → c < next.cycle → next.cpu.p2 ≡ latch c

    abbrev then_on : ℕ → Option (World d.State) → Option (World d.State)
    then_on k o = elim o as (λ y. Option (World d.State)) [ None ↦ None | Some next ↦ calm d tick bytes k next ]

    abbrev unless_start : World d.State → Bool → Option (World d.State)
    unless_start v b = elim b as (λ y. Option (World d.State)) [ true ↦ None | false ↦ joint_step d bytes v ]

    -- a step, and what its run says from there
    says_more : (n : ℕ) (v u e : World W.State) → calm_step W tick bytes v ≡ Some u → Says n u e → Says (suc n) v e
    says_more n v u e first rest =
        let is = no_start (at_tick W tick v) (joint_step W bytes v) u first in
        let one : Steps v u = steps_by v u (stepped bytes (seen d (bare v)) v.cpu) refl is.1 in
        let on : (k : ℕ) → calm d tick bytes (suc k) (bare v) ≡ calm d tick bytes k (bare u) = λ k.
        ap (λ b. then_on k (unless_start (bare v) b)) is.0 ∙ ap (then_on k) one.step in
        record {
          run = on n ∙ rest.run;
          good = λ g. one.good (rest.good g);
          latches = λ g k c one' next l at step a h. each one on rest g k c one' next l at step a h;
        }
      where
        each : Steps v u → ((k : ℕ) → calm d tick bytes (suc k) (bare v) ≡ calm d tick bytes k (bare u)) → Says n u e
            → e.board.good ≡ true → (k c : ℕ) (one next : World d.State) → k < suc n
            → calm d tick bytes k (bare v) ≡ Some one
            → joint_step d bytes one ≡ Some next → one.cycle ≤ c → c < next.cycle → next.cpu.p2 ≡ latch c
        each first on rest g zero c one next l at step a h =
            let here : bare v ≡ one = some_same (bare v) one at in
            let to : bare u ≡ next =
            some_same (bare u) next (sym first.step ∙ ap (λ w. joint_step d bytes w) here ∙ step) in
            let low : v.cycle ≤ c = subst (λ (w : World d.State). w.cycle ≤ c) (sym here) a in
            let high : c < u.cycle = subst (λ (w : World d.State). c < w.cycle) (sym to) h in
            ap (λ (w : World d.State). w.cpu.p2) (sym to) ∙ first.latches (rest.good g) c low high
        each first on rest g (suc k) c one next l at step a h =
            rest.latches g k c one next (omega (arith, l)) (sym (on k) ∙ at) step a h

    says : (n : ℕ) (v e : World W.State) → calm W tick bytes n v ≡ Some e → Says n v e
    says zero v e h = subst (λ u. Says 0 v u) (some_same v e h) (record {
      run = refl;
      good = λ g. g;
      latches = λ g k c one next l. absurd (omega (arith, l));
    })
    says (suc n) v e h = by_first (calm_step W tick bytes v) refl h (λ u on. says n u e on)
      where
        by_first : (x : Option (World W.State)) → calm_step W tick bytes v ≡ x
            → elim x as (λ y. Option (World W.State)) [ None ↦ None | Some next ↦ calm W tick bytes n next ] ≡ Some e
            → ((u : World W.State) → calm W tick bytes n u ≡ Some e → Says n u e) → Says (suc n) v e
        by_first None is h rest = absurd cc
        by_first (Some u) is h rest = says_more n v u e is (rest u h)

    -- where the board that watches comes to its end and has found the latch good, the run beneath drives just that
    pub drives_by : (w : World d.State) (P : World W.State → Type 0) (Q : World d.State → Type 0)
        → ((e : World W.State) → P e → Q (bare e) × (e.board.good ≡ true)) → Comes W tick bytes (watched w) P
        → Drives d tick bytes w latch Q
    drives_by w P Q gives c =
        let s = says c.steps (watched w) c.end c.run in
        let q = gives c.end c.goal in
        record { steps = c.steps; end = bare c.end; run = s.run; latches = s.latches q.1; goal = q.0 }

    -- the same from a tick start
    pub drives_tick : (w : World d.State) (P : World W.State → Type 0) (Q : World d.State → Type 0)
        → ((e : World W.State) → P e → Q (bare e) × (e.board.good ≡ true)) → Tick W tick bytes (watched w) P
        → DrivesTick d tick bytes w latch Q
    drives_tick w P Q gives t =
        let one = steps_by (watched w) t.first (stepped bytes (seen d w) w.cpu) refl t.step in
        let s = says t.rest.steps t.first t.rest.end t.rest.run in
        let q = gives t.rest.end t.rest.goal in
        record {
          at = t.at;
          first = bare t.first;
          step = one.step;
          put = one.latches (s.good q.1);
          rest = record {
            steps = t.rest.steps;
            end = bare t.rest.end;
            run = s.run;
            latches = s.latches q.1;
            goal = q.0;
          };
        }
