-- A pull of the clock by the controller lasts 64 cycles at least, in the steps of the joint run too.
use Rattle.std.proofs.Common.{◌≡◌, ◌≤◌, ◌<◌, ◌⊎◌, inl, inr, ℕ, suc, zero, ◌+◌, ◌-◌, List, Bool, true, false, not, ◌&&◌, Some, None, nat_lt}
use Rattle.std.proofs.Common.{refl, ap, sym, ◌∙◌, subst, arith}
use Rattle.std.proofs.lemmas.Bool.Decides.{nat_tests}
use Rattle.std.specs.declared.option.Option.{Option}
use Rattle.board_terms.specs.declared.event.HostEvent.{HostEvent}
use Rattle.board_terms.specs.declared.lines.Lines.{Lines}
use Rattle.ctl_link.specs.Pulls.{pulled}
use Rattle.ctl_link.specs.declared.link.Link.{Link}
use Rattle.ctl_wire.proofs.Pulls.{OrNow, look_begins, breaks_once, high_is_none, since_now, pulled_is_low}
use Rattle.ctl_wire.specs.Wire.{drive, is_breakable}
use Rattle.ctl_wire.specs.declared.wire.Wire.{Wire}
use Rattle.host_turn.proofs.Turns.{turn_of}
use Rattle.host_turn.specs.Cycle.{port_by}
use Rattle.host_turn.specs.Run.{Side, goes_on, says_lights}
use Rattle.joint_feed.specs.Stories.{Story, state_at}
use Rattle.joint_run.specs.Joint.{Beside, joint_board, joint_cycle, latch_of, lights_of}
use Rattle.joint_run.specs.Run.{World, after_cycles, step_on}
use Rattle.ctl_wire.specs.Wires.{Pc, board_cycle, looked, wires}
use Rattle.law_wires_agree.proofs.Pulls.{pulled_span}
use Rattle.law_wires_heard.proofs.Steps.{StepOf, step_of}

-- the controller's link, and whether it leaves the clock alone
abbrev pub link_of : Beside → Link Wire
link_of s = s.pc.side.port.link

abbrev pub lets : Beside → Bool
lets s = (drive (link_of s)).clk

goes_once : (events : List HostEvent) (now : ℕ) (s : Side Wire)
    → OrNow now s.port.link → OrNow now (goes_on is_breakable events now s).port.link
unfolding goes_on
goes_once events now s h = breaks_once now (port_by (turn_of events now s) s.port) s.port.link refl h

board_once : (events : List HostEvent) (now : ℕ) (latch : Lines) (b : Pc)
    → pulled b.side.port.link ≡ None → OrNow now (board_cycle events now latch b).side.port.link
unfolding board_cycle
board_once events now latch b h =
    let line : Lines = wires latch b in
    goes_once events now (looked now line b).side (look_begins (b.clock && not line.clk) now line.dat b.side.port h)

-- a cycle keeps a pull of less than 64 cycles
cycle_keeps : (events : List HostEvent) (p2 now : ℕ) (s : Beside) (h : ℕ) → pulled (link_of s) ≡ Some h → now < h + 64
    → pulled (link_of (joint_cycle events p2 now s)) ≡ Some h
unfolding joint_cycle
cycle_keeps events p2 now s h e l =
    (pulled_span events (λ o. latch_of p2) 1 now (record s.pc { side = says_lights now s.shown (lights_of p2) s.pc.side }) h e
    (omega (arith, l))).1

-- and begins none but now
cycle_once : (events : List HostEvent) (p2 now : ℕ) (s : Beside) → pulled (link_of s) ≡ None
    → OrNow now (link_of (joint_cycle events p2 now s))
unfolding joint_cycle
cycle_once events p2 now s h =
    board_once events now (latch_of p2) (record s.pc { side = says_lights now s.shown (lights_of p2) s.pc.side }) h

cycle_begins : (events : List HostEvent) (p2 now : ℕ) (s : Beside) → lets s ≡ true
    → (lets (joint_cycle events p2 now s) ≡ true) ⊎ (pulled (link_of (joint_cycle events p2 now s)) ≡ Some now)
cycle_begins events p2 now s h = by (lets (joint_cycle events p2 now s)) refl
  where
    by : (c : Bool) → lets (joint_cycle events p2 now s) ≡ c
        → (lets (joint_cycle events p2 now s) ≡ true) ⊎ (pulled (link_of (joint_cycle events p2 now s)) ≡ Some now)
    by true e = inl e
    by false e =
        inr (since_now now (link_of (joint_cycle events p2 now s)) (cycle_once events p2 now s (high_is_none (link_of s) h)) e)

-- a pull that began in some cycles, or none
abbrev pub Pulled : ℕ → Beside → Type 0
Pulled from s = (since : ℕ) × (from ≤ since) × (pulled (link_of s) ≡ Some since)

-- over cycles by a latch that is a function of the cycle
module _ (events : List HostEvent) (latch : ℕ → ℕ) where
  abbrev pub run_on : ℕ → ℕ → Beside → Beside
  run_on n y s = after_cycles n y (λ c. joint_cycle events (latch c) c) s

  -- a pull of the clock goes on through cycles up to the 64th
  pub keeps : (n y : ℕ) (s : Beside) (h : ℕ) → pulled (link_of s) ≡ Some h → y + n ≤ h + 64 → pulled (link_of (run_on n y s)) ≡ Some h
  keeps zero y s h e l = e
  keeps (suc n) y s h e l =
      keeps n (y + 1) (joint_cycle events (latch y) y s) h (cycle_keeps events (latch y) y s h e (omega (arith, l))) (omega (arith, l))

  -- if the controller lets the clock go, after at most 64 cycles it does so still, or a pull began in them
  pub lets_or_pulls : (n y : ℕ) (s : Beside) → n ≤ 64 → lets s ≡ true → (lets (run_on n y s) ≡ true) ⊎ (Pulled y (run_on n y s))
  lets_or_pulls zero y s l h = inl h
  lets_or_pulls (suc n) y s l h =
      let next : Beside = joint_cycle events (latch y) y s in
      elim (cycle_begins events (latch y) y s h) [
        | inl high ↦ elim (lets_or_pulls n (y + 1) next (omega (arith, l)) high) [
          | inl still ↦ inl still
          | inr p ↦ let from : y + 1 ≤ p.0 = p.1 in inr (p.0, omega (arith, from), p.2)
        ]
        | inr now ↦ inr (y, omega arith, keeps n (y + 1) next y now (omega (arith, l)))
      ]

-- over a step
module _ (events : List HostEvent) (one next : World Beside) (s : StepOf events one next) where
  same_board : run_on events (λ c. next.cpu.p2) s.count one.cycle one.board ≡ next.board
  same_board = sym s.board

  -- a pull of the clock goes on through a step that ends by its 64th cycle
  pub step_keeps : (h : ℕ) → pulled (link_of one.board) ≡ Some h → next.cycle ≤ h + 64 → pulled (link_of next.board) ≡ Some h
  step_keeps h e l =
      let c : next.cycle ≡ one.cycle + s.count = s.cycle in
      ap (λ b. pulled (link_of b)) s.board
      ∙ keeps events (λ c. next.cpu.p2) s.count one.cycle one.board h e (omega (arith, c, l))

  -- if the controller pulls the clock after a step and not before it, the pull began in the step
  pub step_begins : lets one.board ≡ true → lets next.board ≡ false → Pulled one.cycle next.board
  step_begins high low =
      let few : s.count ≤ 2 = s.most in
      elim (lets_or_pulls events (λ c. next.cpu.p2) s.count one.cycle one.board (omega (arith, few)) high) [
        | inl still ↦ absurd (let z : true ≡ false = sym still ∙ ap lets same_board ∙ low in cc)
        | inr p ↦ subst (λ b. Pulled one.cycle b) same_board p
      ]

-- where the wires' clock is high neither side pulls it
pub both_high : (a b : Bool) → (a && b) ≡ true → (a ≡ true) × (b ≡ true)
both_high true b h = (refl, h)
both_high false b h = absurd cc

-- over the run
module _ (s : Story) where
  -- a state after the first comes from the one before it, by a step
  pub record Comes (k : ℕ) (u : World Beside) : Type 0 where
    pub before : World Beside
    pub at : state_at s k ≡ Some before
    pub step : StepOf s.events before u

  comes_by : (k : ℕ) (u : World Beside) (o : Option (World Beside)) → state_at s k ≡ o
      → step_on (joint_board s.edges s.events) s.bytes o ≡ Some u → Comes k u
  comes_by k u None at h = absurd cc
  comes_by k u (Some v) at h = record { before = v; at = at; step = step_of s.edges s.events s.bytes v u h }

  -- each state after the first comes from the one before it by a step
  pub comes_from : (k : ℕ) (u : World Beside) → state_at s (suc k) ≡ Some u → Comes k u
  comes_from k u h = comes_by k u (state_at s k) refl h

  same_some : (a b : World Beside) → Some a ≡ Some b → a ≡ b
  same_some a b e = cc

  -- a state is known by its number
  pub same_state : (k : ℕ) (u v : World Beside) → state_at s k ≡ Some u → state_at s k ≡ Some v → u ≡ v
  same_state k u v a b = same_some u v (sym a ∙ b)

  -- each step takes a cycle at least
  pub later : (n j : ℕ) (v u : World Beside) → state_at s j ≡ Some v → state_at s (n + j) ≡ Some u → v.cycle + n ≤ u.cycle
  later zero j v u a b =
      let z : 0 + j ≡ j = omega arith in
      let e : v ≡ u = same_state j v u a (ap (λ k. state_at s k) (sym z) ∙ b) in
      let c : v.cycle ≡ u.cycle = ap (λ (w : World Beside). w.cycle) e in
      omega (arith, c)
  later (suc n) j v u a b =
      let z : suc n + j ≡ suc (n + j) = omega arith in
      let c = comes_from (n + j) u (ap (λ k. state_at s k) (sym z) ∙ b) in
      let l : v.cycle + n ≤ c.before.cycle = later n j v c.before a c.at in
      let m : 1 ≤ c.step.count = c.step.least in
      let e : u.cycle ≡ c.before.cycle + c.step.count = c.step.cycle in
      omega (arith, l, m, e)

  -- so the order of states is that of their cycles
  pub ordered : (i j : ℕ) (u v : World Beside) → state_at s i ≡ Some u → state_at s j ≡ Some v → u.cycle < v.cycle → i < j
  ordered i j u v a b l = by (nat_lt i j) refl
    where
      by : (c : Bool) → nat_lt i j ≡ c → i < j
      by true e = grind (arith, nat_tests, e)
      by false e =
          let m : j ≤ i = grind (arith, nat_tests, e) in
          let z : (i - j) + j ≡ i = omega (arith, m) in
          let k : v.cycle + (i - j) ≤ u.cycle = later (i - j) j v u b (ap (λ n. state_at s n) z ∙ a) in
          absurd (omega (arith, k, l))

  -- and a pull stays
  pub stays : (n j : ℕ) (v u : World Beside) (h : ℕ) → state_at s j ≡ Some v → state_at s (n + j) ≡ Some u
      → pulled (link_of v.board) ≡ Some h → u.cycle ≤ h + 64 → pulled (link_of u.board) ≡ Some h
  stays zero j v u h a b e l =
      let z : 0 + j ≡ j = omega arith in
      subst (λ (w : World Beside). pulled (link_of w.board) ≡ Some h) (same_state j v u a (ap (λ k. state_at s k) (sym z) ∙ b)) e
  stays (suc n) j v u h a b e l =
      let z : suc n + j ≡ suc (n + j) = omega arith in
      let c = comes_from (n + j) u (ap (λ k. state_at s k) (sym z) ∙ b) in
      let is : u.cycle ≡ c.before.cycle + c.step.count = c.step.cycle in
      step_keeps s.events c.before u c.step h (stays n j v c.before h a c.at e (omega (arith, is, l))) l

  -- what the wires show at a state
  abbrev pub shown_at : World Beside → Lines
  shown_at w = wires (latch_of w.cpu.p2) w.board.pc

  -- a step at whose end the clock is low, where it was high
  pub record Falls (k : ℕ) (one next : World Beside) : Type 0 where
    pub from : state_at s k ≡ Some one
    pub to : state_at s (suc k) ≡ Some next
    pub high : (shown_at one).clk ≡ true
    pub low : (shown_at next).clk ≡ false

  -- between a fall by the controller alone and the next fall there are 62 cycles at least
  pub no_fall : (i j : ℕ) (one next later_one later_next : World Beside) → Falls i one next → (latch_of next.cpu.p2).clk ≡ true
      → Falls j later_one later_next → next.cycle < later_next.cycle → later_next.cycle ≤ next.cycle + 62 → ⊥
  no_fall i j one next x y first alone second afterwards soon =
      let a = comes_from i next first.to in
      let same : a.before ≡ one = same_state i a.before one a.at first.from in
      let step : StepOf s.events one next = subst (λ w. StepOf s.events w next) same a.step in
      let high = both_high (latch_of one.cpu.p2).clk (lets one.board) first.high in
      let low : lets next.board ≡ false = ap (λ c. c && lets next.board) (sym alone) ∙ first.low in
      let p = step_begins s.events one next step high.1 low in
      let from : one.cycle ≤ p.0 = p.1 in
      let most : step.count ≤ 2 = step.most in
      let is : next.cycle ≡ one.cycle + step.count = step.cycle in
      let b = comes_from j y second.to in
      let same_y : b.before ≡ x = same_state j b.before x b.at second.from in
      let step_y : StepOf s.events x y = subst (λ w. StepOf s.events w y) same_y b.step in
      let least_y : 1 ≤ step_y.count = step_y.least in
      let is_y : y.cycle ≡ x.cycle + step_y.count = step_y.cycle in
      let order : suc i < suc j = ordered (suc i) (suc j) next y first.to second.to afterwards in
      let z : (j - suc i) + suc i ≡ j = omega (arith, order) in
      let there : pulled (link_of x.board) ≡ Some p.0 =
      stays (j - suc i) (suc i) next x p.0 first.to (ap (λ n. state_at s n) z ∙ second.from) p.2
      (omega (arith, from, most, is, least_y, is_y, soon)) in
      let down : lets x.board ≡ false = pulled_is_low (link_of x.board) p.0 there in
      let up = both_high (latch_of x.cpu.p2).clk (lets x.board) second.high in
      let e : true ≡ false = sym up.1 ∙ down in
      absurd cc
