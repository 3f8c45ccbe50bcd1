-- Over a tick, from rest to rest: each fall of the clock ends just the byte that passes then.
use Rattle.std.proofs.Common.{◌≡◌, ◌≤◌, ◌<◌, ◌⊎◌, inl, inr, ℕ, zero, suc, ◌+◌, ◌-◌, ◌*◌, Bool, true, false, ◌==◌}
use Rattle.std.proofs.Common.{Some, refl, ap, sym, subst, ◌∙◌, arith}
use Rattle.std.proofs.lemmas.Bool.Decides.{nat_tests}
use Rattle.capture_lines.specs.Captures.{listed}
use Rattle.joint_feed.specs.Stories.{Story, state_at}
use Rattle.joint_run.specs.Joint.{Beside, joint_start_of, latch_of}
use Rattle.joint_run.specs.Run.{World}
use Rattle.capture_frames.specs.Frames.{ended_low}
use Rattle.law_wires_heard.proofs.Pulls.{lets, same_state, shown_at}
use Rattle.law_wires_heard.proofs.Silent.{same_start}
use Rattle.law_wires_heard.proofs.Ticks.{eleven_at_most}
use Rattle.law_wires_heard.specs.Hearing.{HearsAll}
use Rattle.law_capture_heard.specs.Captured.{hearing_to}
use Rattle.law_capture_heard.specs.Found.{bytes_at, bytes_in}
use Rattle.law_capture_heard.proofs.AfterCells.{goes_down_again, latch_falls, pulled_fall, stays_up}
use Rattle.law_capture_heard.proofs.Falls.{IsRightFall}
use Rattle.law_capture_heard.proofs.FromRest.{goes_down, low_by_pull, next_in, rest_falls, stays_high}
use Rattle.law_capture_heard.proofs.InCells.{goes_up, is_over, not_tenth, stays_down}
use Rattle.law_wires_heard.proofs.ATick.{IsATick, IsInTick}
use Rattle.law_capture_heard.proofs.LettingGo.{lets_go}
use Rattle.law_capture_heard.proofs.LowSince.{level_is}
use Rattle.law_capture_heard.proofs.Phases.{Down, High, In, On, Phase, RestsHigh, RestsLow, Up, n}

same_ten : (a : ℕ) → (a == 10) ≡ true → a ≡ 10
same_ten a h = grind (arith, nat_tests, h)

not_ten : (a : ℕ) → (a == 10) ≡ false → 10 ≤ a → a ≤ 11 → a ≡ 11
not_ten a h l u = grind (arith, nat_tests, h, l, u)

at_most : (a : ℕ) → (a == 10) ≡ false → (a == 9) ≡ false → a ≤ 10 → a ≤ 8
at_most a e f l = grind (arith, nat_tests, e, f, l)

module _ (s : Story) (there : (j : ℕ) → (w : World Beside) × (state_at s j ≡ Some w)) (ticks : (j : ℕ) → IsInTick s j) where
  -- one step
  module _ (t : IsATick s) (k : ℕ) (one next : World Beside) (from : state_at s k ≡ Some one)
      (to : state_at s (suc k) ≡ Some next) (o : ℕ) (i : In s t one o) (g : On s t one next) where
    abbrev IsRight : Type 0
    IsRight =
        (shown_at s one).clk ≡ true → (shown_at s next).clk ≡ false
        → bytes_in (listed (ended_low (2500 * next.cycle) (shown_at s next).dat (hearing_to s k).frame)) ≡ bytes_at s k

    abbrev Leads : Type 0
    Leads = Phase s t (suc k) next (o + g.step.count) × IsRight

    -- the clock doesn't fall
    was_low : (shown_at s one).clk ≡ false → IsRight
    was_low e a b = absurd (let z : true ≡ false = sym a ∙ e in cc)

    is_high : (shown_at s next).clk ≡ true → IsRight
    is_high e a b = absurd (let z : true ≡ false = sym e ∙ b in cc)

    rests_low : lets next.board ≡ false → RestsLow s (suc k) next
    rests_low low = low_by_pull s t k one next from to o i g low

    from_high : High s t k one o
        → (up still : Bool) → (latch_of next.cpu.p2).clk ≡ up → lets next.board ≡ still → Leads
    from_high h true true u l =
        let stays = stays_high s t k one next from to o i g h u l in
        (inl (inl stays), is_high stays.rests.clock)
    from_high h true false u l = (inl (inr (rests_low l)), λ a b. rest_falls s t k one next from to o i g h)
    from_high h false true u l =
        (inr (inl (goes_down s t k one next from to o i g h u l)), λ a b. rest_falls s t k one next from to o i g h)
    from_high h false false u l = (inl (inr (rests_low l)), λ a b. rest_falls s t k one next from to o i g h)

    from_low : RestsLow s k one → (still : Bool) → lets next.board ≡ still → Leads
    from_low h true l = (inl (inl (lets_go s t k one next from to o i g there ticks h l)), was_low h.clock)
    from_low h false l = (inl (inr (rests_low l)), was_low h.clock)

    rises : (d : Down s t k one o) → (latch_of next.cpu.p2).clk ≡ true → lets next.board ≡ true → (ten nine : Bool)
        → (d.cell == 10) ≡ ten → (d.cell == 9) ≡ nine → Phase s t (suc k) next (o + g.step.count)
    rises d u l ten nine e f =
        by (d.in_frame) (eleven_at_most s.events t.cycle t.start t.old t.lit t.was t.is t.frame t.fits t.idle) ten nine e f
      where
        by : d.cell < n s t → n s t ≤ 11 → (ten nine : Bool) → (d.cell == 10) ≡ ten → (d.cell == 9) ≡ nine
            → Phase s t (suc k) next (o + g.step.count)
        by few most true nine e f =
            let at : d.cell ≡ 10 = grind (arith, nat_tests, e) in
            inl (inl (is_over s t k one next from to o i g d u l (omega (arith, at, few, most)) at))
        by few most false true e f =
            let at : d.cell ≡ 9 = grind (arith, nat_tests, f) in
            inr (inr (goes_up s t k one next from to o i g d u l (omega (arith, at)) (inr (all at few most (n s t == 10) refl))))
          where
            all : d.cell ≡ 9 → d.cell < n s t → n s t ≤ 11 → (b : Bool) → (n s t == 10) ≡ b → n s t ≡ 11
            all at few most true h =
                absurd (not_tenth s t k one next from to o i g d u l (same_ten (n s t) h) at)
            all at few most false h = not_ten (n s t) h (omega (arith, at, few)) most
        by few most false false e f =
            let small : d.cell ≤ 8 = at_most (d.cell) e f (omega (arith, few, most)) in
            inr (inr (goes_up s t k one next from to o i g d u l (omega (arith, small)) (inl small)))

    from_down : (d : Down s t k one o)
        → (up still : Bool) → (latch_of next.cpu.p2).clk ≡ up → lets next.board ≡ still → Leads
    from_down d true true u l = (rises d u l (d.cell == 10) (d.cell == 9) refl refl, was_low d.clock)
    from_down d false true u l = (inr (inl (stays_down s t k one next from to o i g d u l)), was_low d.clock)
    from_down d up false u l = (inl (inr (rests_low l)), was_low d.clock)

    from_up : (p : Up s t k one o)
        → (up still : Bool) → (latch_of next.cpu.p2).clk ≡ up → lets next.board ≡ still → Leads
    from_up p true true u l =
        let stays = stays_up s t k one next from to o i g p u l in
        (inr (inr stays), is_high stays.clock)
    from_up p true false u l = (inl (inr (rests_low l)), λ a b. pulled_fall s t k one next from to o i g p u l)
    from_up p false true u l =
        (inr (inl (goes_down_again s t k one next from to o i g p u l)), λ a b. latch_falls s t k one next from to o i g p u)
    from_up p false false u l = (inl (inr (rests_low l)), λ a b. latch_falls s t k one next from to o i g p u)

    -- a step leads from phase to phase, and a fall in it ends the byte that passes
    pub leads : Phase s t k one o → Leads
    leads (inl (inl h)) = from_high h (latch_of next.cpu.p2).clk (lets next.board) refl refl
    leads (inl (inr h)) = from_low h (lets next.board) refl
    leads (inr (inl d)) = from_down d (latch_of next.cpu.p2).clk (lets next.board) refl refl
    leads (inr (inr p)) = from_up p (latch_of next.cpu.p2).clk (lets next.board) refl refl

  -- at rest in a state
  pub record Rests (k : ℕ) : Type 0 where
    pub w : World Beside
    pub at : state_at s k ≡ Some w
    pub rests : RestsHigh s k w ⊎ RestsLow s k w

  -- a state of a tick
  record Now (t : IsATick s) (k : ℕ) : Type 0 where
    pub w : World Beside
    pub at : state_at s k ≡ Some w
    pub offset : ℕ
    pub placed_at : In s t w offset
    pub phase : Phase s t k w offset

  module _ (hears : HearsAll s) where
    next_now : (t : IsATick s) (k : ℕ) → t.from ≤ k → k < t.to → Now t k → Now t (suc k) × IsRightFall s hears k
    next_now t k a b now =
        let next = there (suc k) in
        let g = t.tick.goes k now.w next.0 a b now.at next.1 in
        let led = leads t k now.w next.0 now.at next.1 now.offset now.placed_at g now.phase in (
          record {
            w = next.0;
            at = next.1;
            offset = now.offset + g.step.count;
            placed_at = next_in s t k now.w next.0 now.at next.1 now.offset now.placed_at g;
            phase = led.0;
          },
          λ w at high low.
              let same : next.0 ≡ w = same_state s (suc k) next.0 w next.1 at in
              subst
              (λ (v : World Beside).
              bytes_in (listed (ended_low (2500 * v.cycle) (shown_at s v).dat (hearing_to s k).frame)) ≡ bytes_at s k) same
              (led.1 (sym (level_is s k now.w now.at) ∙ high) (ap (λ (v : World Beside). (shown_at s v).clk) same ∙ low)),
        )

    first_now : (t : IsATick s) → Rests t.from → Now t t.from
    first_now t r = record {
      w = r.w;
      at = r.at;
      offset = 0;
      placed_at = same_start s t.from t.to t.cycle t.start t.old t.lit t.was t.is t.frame t.fits t.idle t.tick r.w r.at;
      phase = elim r.rests as (λ h. Phase s t t.from r.w 0) [
        | inl h ↦ inl (inl (record { rests = h; place = λ e. inl (omega arith) }))
        | inr h ↦ inl (inr h)
      ];
    }

    now_at : (t : IsATick s) → Rests t.from → (m : ℕ) → m + t.from ≤ t.to → Now t (m + t.from)
    now_at t r zero in_tick = let z : t.from ≡ 0 + t.from = omega arith in subst (Now t) z (first_now t r)
    now_at t r (suc m) in_tick =
        let z : suc (m + t.from) ≡ suc m + t.from = omega arith in
        let before = now_at t r m (omega (arith, in_tick)) in
        subst (Now t) z (next_now t (m + t.from) (omega arith) (omega (arith, in_tick)) before).0

    now_in : (t : IsATick s) → Rests t.from → (k : ℕ) → t.from ≤ k → k ≤ t.to → Now t k
    now_in t r k a b =
        let z : (k - t.from) + t.from ≡ k = omega (arith, a) in
        subst (Now t) z (now_at t r (k - t.from) (omega (arith, z, b)))

    -- at its end it is at rest again
    at_end : (t : IsATick s) → Now t t.to → Rests t.to
    at_end t now = record { w = now.w; at = now.at; rests = by now.phase }
      where
        far : 700 ≤ now.offset
        far =
            let same : now.w ≡ t.end = same_state s t.to now.w t.end now.at t.ends in
            let cycle : now.w.cycle ≡ t.end.cycle = ap (λ (v : World Beside). v.cycle) same in
            let here : now.w.cycle ≡ t.cycle + now.offset = now.placed_at.cycle in
            let long : t.cycle + 700 ≤ t.end.cycle = t.long in
            omega (arith, cycle, here, long)

        few : n s t ≤ 11
        few = eleven_at_most s.events t.cycle t.start t.old t.lit t.was t.is t.frame t.fits t.idle

        by : Phase s t t.to now.w now.offset → RestsHigh s t.to now.w ⊎ RestsLow s t.to now.w
        by (inl (inl h)) = inl h.rests
        by (inl (inr h)) = inr h
        by (inr (inl d)) =
            let l : d.cell < n s t = d.in_frame in
            let u : now.offset ≤ 304 + 32 * d.cell = d.to in
            absurd (omega (arith, l, u, few, far))
        by (inr (inr p)) =
            let l : p.cell < n s t = p.in_frame in
            let u : now.offset ≤ 320 + 32 * p.cell = p.to in
            absurd (omega (arith, l, u, few, far))

    -- over a tick
    pub over_tick : (t : IsATick s) → Rests t.from → Rests t.to × ((k : ℕ) → t.from ≤ k → k < t.to → IsRightFall s hears k)
    over_tick t start = (
      at_end t (now_in t start t.to t.some (omega arith)),
      λ k a b. (next_now t k a b (now_in t start k a (omega (arith, b)))).1,
    )

    -- the state at power-on is at rest
    pub at_power_on : Rests 0
    at_power_on = record {
      w = joint_start_of s.held;
      at = refl;
      rests = inl (record { clock = refl; idle = refl; frame = refl });
    }
