-- Each pulse of the clock in the run of a layout is 16 cycles long, or 62 at least.
use Rattle.std.proofs.Common.{◌≡◌, ◌≤◌, ◌<◌, ◌⊎◌, inl, inr, ℕ, suc, ◌+◌, ◌-◌, ◌*◌, Bool, true, false, not, ◌&&◌, None, Some, nat_lt}
use Rattle.std.proofs.Common.{refl, ap, sym, subst, ◌∙◌, arith}
use Rattle.std.proofs.lemmas.Bool.Decides.{nat_tests}
use Rattle.std.specs.Prelude.{if◌then◌else◌}
use Rattle.std.specs.Option.{option_map}
use Rattle.std.specs.declared.option.Option.{Option}
use Rattle.ctl_wire.proofs.Pulls.{pulled_is_low}
use Rattle.fw_compile.specs.Image.{image_of}
use Rattle.joint_feed.specs.Stories.{Story, story, state_at}
use Rattle.joint_run.specs.Joint.{Beside, latch_of}
use Rattle.joint_run.specs.Run.{World}
use Rattle.capture_frames.specs.Frames.{width}
use Rattle.law_wires_heard.proofs.Clock.{cells}
use Rattle.law_wires_heard.proofs.Pulls.{Pulled, both_high, comes_from, later, lets, link_of, ordered, same_state, shown_at, stays}
use Rattle.law_wires_heard.proofs.Steps.{StepOf}
use Rattle.law_wires_heard.proofs.Ticks.{eleven_at_most}
use Rattle.law_wires_heard.specs.Hearing.{sample_in}
use Rattle.law_capture_heard.specs.Captured.{hearing_to}
use Rattle.law_capture_heard.specs.Pulses.{IsWide, PulsesLaw, width_at, width_in}
use Rattle.law_wires_heard.proofs.ATick.{IsInTick}
use Rattle.law_capture_heard.proofs.InTicks.{in_tick, some_state}
use Rattle.law_capture_heard.proofs.LowSince.{IsLowSince, low_since}
use Rattle.law_capture_heard.proofs.Rises.{cell_is, pulls_since, rises_after}

-- a low clock that rises in a step
module _ (s : Story) (ticks : (k : ℕ) → IsInTick s k) (k : ℕ) (w : World Beside) (to : state_at s (suc k) ≡ Some w)
    (high : (shown_at s w).clk ≡ true) (h : IsLowSince s k) where
  -- it fell in a step that began with a high clock
  fall_step : StepOf s.events h.one h.next
  fall_step =
      let c = comes_from s h.step h.next h.falls.to in
      subst (λ v. StepOf s.events v h.next) (same_state s h.step c.before h.one c.at h.falls.from) c.step

  alone : lets w.board ≡ true
  alone = (both_high (latch_of w.cpu.p2).clk (lets w.board) high).1

  was_alone : lets h.one.board ≡ true
  was_alone = (both_high (latch_of h.one.cpu.p2).clk (lets h.one.board) h.falls.high).1

  -- if the controller pulls the clock in between, it does so for 64 cycles
  long_by_pull : (j : ℕ) (u : World Beside) → j ≤ suc k → state_at s j ≡ Some u → Pulled h.one.cycle u.board → h.next.cycle + 62 ≤ w.cycle
  long_by_pull j u most at p =
      let since : h.one.cycle ≤ p.0 = p.1 in
      let cycle : h.next.cycle ≡ h.one.cycle + fall_step.count = fall_step.cycle in
      let few : fall_step.count ≤ 2 = fall_step.most in
      let z : (suc k - j) + j ≡ suc k = omega (arith, most) in
      by since cycle few z (nat_lt w.cycle (h.next.cycle + 62)) refl
    where
      by : h.one.cycle ≤ p.0 → h.next.cycle ≡ h.one.cycle + fall_step.count → fall_step.count ≤ 2 → (suc k - j) + j ≡ suc k
          → (b : Bool) → nat_lt w.cycle (h.next.cycle + 62) ≡ b → h.next.cycle + 62 ≤ w.cycle
      by since cycle few z false e = grind (arith, nat_tests, e)
      by since cycle few z true e =
          let soon : w.cycle < h.next.cycle + 62 = grind (arith, nat_tests, e) in
          let there = stays s (suc k - j) j u w p.0 at (ap (λ i. state_at s i) z ∙ to) p.2 (omega (arith, since, cycle, few, soon)) in
          let down = pulled_is_low (link_of w.board) p.0 there in
          absurd (let y : true ≡ false = sym alone ∙ down in cc)

  -- else it leaves the clock alone all the while
  module _ (soon : w.cycle < h.next.cycle + 62) where
    alone_at : (j : ℕ) (u : World Beside) → suc h.step ≤ j → j ≤ k → state_at s j ≡ Some u → lets u.board ≡ true
    alone_at j u first last at =
        let cycle : h.next.cycle ≡ h.one.cycle + fall_step.count = fall_step.cycle in
        let few : fall_step.count ≤ 2 = fall_step.most in
        let y : (suc k - j) + j ≡ suc k = omega (arith, last) in
        let order : u.cycle + (suc k - j) ≤ w.cycle = later s (suc k - j) j u w at (ap (λ i. state_at s i) y ∙ to) in
        let z : (j - h.step) + h.step ≡ j = omega (arith, first) in
        elim (pulls_since s (j - h.step) h.step h.one u h.falls.from (ap (λ i. state_at s i) z ∙ at) was_alone
        (omega (arith, cycle, few, order, soon))) [
          | inl still ↦ still
          | inr p ↦
              let long : h.next.cycle + 62 ≤ w.cycle = long_by_pull j u (omega (arith, last)) at p in
              absurd (omega (arith, long, soon))
        ]

    -- so it falls and rises by the latch
    latch_low : (latch_of h.next.cpu.p2).clk ≡ false
    latch_low = by (latch_of h.next.cpu.p2).clk refl
      where
        by : (b : Bool) → (latch_of h.next.cpu.p2).clk ≡ b → (latch_of h.next.cpu.p2).clk ≡ false
        by false e = e
        by true e =
            let early : h.step < k = h.early in
            let still = alone_at (suc h.step) h.next (omega arith) (omega (arith, early)) h.falls.to in
            let up : (shown_at s h.next).clk ≡ true =
            ap (λ b. b && lets h.next.board) e ∙ still in
            absurd (let y : true ≡ false = sym up ∙ h.falls.low in cc)

    by_latch : w.cycle ≡ h.next.cycle + 16
    by_latch =
        let at_step = ticks h.step in
        let t = at_step.whole in
        let early : h.step < k = h.early in
        let c = comes_from s k w to in
        let cell = cell_is s t.from t.to t.cycle t.start t.old t.lit t.was t.is t.frame t.fits t.idle t.tick
        h.step h.one h.next h.falls at_step.begun at_step.within latch_low in
        let here : h.next.cycle ≡ t.cycle + (290 + 32 * cell.cell) = cell.there.cycle in
        let few : cell.cell < cells t.frame = cell.few in
        let most : cells t.frame ≤ 11 = eleven_at_most s.events t.cycle t.start t.old t.lit t.was t.is t.frame t.fits t.idle in
        let long : t.cycle + 700 ≤ t.end.cycle = t.long in
        let order : suc k < t.to = ordered s (suc k) t.to w t.end to t.ends (omega (arith, here, few, most, long, soon)) in
        rises_after s t.from t.to t.cycle t.start t.old t.lit t.was t.is t.frame t.fits t.idle t.tick
        h.step h.one h.next h.falls at_step.begun at_step.within latch_low cell k c.before w (omega (arith, early)) (omega (arith, order)) c.at to
        (λ j u first last at. (h.low j u (omega (arith, first)) last at, alone_at j u first last at)) high

  -- one as which ends the controller lets the clock go
  pub long_if_pulled : (u : World Beside) → state_at s k ≡ Some u → lets u.board ≡ false → h.next.cycle + 62 ≤ w.cycle
  long_if_pulled u at low = by (nat_lt w.cycle (h.next.cycle + 62)) refl
    where
      by : (b : Bool) → nat_lt w.cycle (h.next.cycle + 62) ≡ b → h.next.cycle + 62 ≤ w.cycle
      by true e =
          let early : h.step < k = h.early in
          let high = alone_at (grind (arith, nat_tests, e)) k u (omega (arith, early)) (omega arith) at in
          absurd (let z : true ≡ false = sym high ∙ low in cc)
      by false e = grind (arith, nat_tests, e)

  -- its width in cycles
  pub wide : (w.cycle ≡ h.next.cycle + 16) ⊎ (h.next.cycle + 62 ≤ w.cycle)
  wide = by (nat_lt w.cycle (h.next.cycle + 62)) refl
    where
      by : (b : Bool) → nat_lt w.cycle (h.next.cycle + 62) ≡ b → (w.cycle ≡ h.next.cycle + 16) ⊎ (h.next.cycle + 62 ≤ w.cycle)
      by true e = inl (by_latch (grind (arith, nat_tests, e)))
      by false e = inr (grind (arith, nat_tests, e))

in_time : (fall rise time : ℕ) → time ≡ 2500 * fall → (rise ≡ fall + 16) ⊎ (fall + 62 ≤ rise)
    → (2500 * rise - time ≡ 40000) ⊎ (155000 ≤ 2500 * rise - time)
in_time fall rise time at (inl short) = inl (omega (arith, at, short))
in_time fall rise time at (inr long) = inr (omega (arith, at, long))

module _ (s : Story) (there : (k : ℕ) → (w : World Beside) × (state_at s k ≡ Some w)) (ticks : (k : ℕ) → IsInTick s k) (k : ℕ) where
  -- the width of a pulse that ends in a step, by the levels of the clock before it and after it
  abbrev width_if : World Beside → Bool → Bool → Option ℕ
  width_if w before now =
      option_map width
      (if not before && now
      then Some (record {
        fall = (hearing_to s k).clock.fall;
        at_fall = (hearing_to s k).clock.at_fall;
        rise = 2500 * w.cycle;
        at_rise = (sample_in w).lines.dat;
      })
      else None)

  by_levels : (w : World Beside) → state_at s (suc k) ≡ Some w → (before now : Bool) → (hearing_to s k).clock.lines.clk ≡ before
      → (shown_at s w).clk ≡ now → IsWide (width_if w before now)
  by_levels w to true now e d = tt
  by_levels w to false false e d = tt
  by_levels w to false true e d =
      let h = low_since s there k e in
      in_time h.next.cycle w.cycle (hearing_to s k).clock.fall h.time (wide s ticks k w to d h)

  -- each pulse that ends in a step is of 16 cycles, or of 62 at least
  pub wide_at : IsWide (width_at s k)
  wide_at =
      let w = there (suc k) in
      subst (λ o. IsWide (width_in o (hearing_to s k))) (sym w.1)
      (by_levels w.0 w.1 (hearing_to s k).clock.lines.clk (shown_at s w.0).clk refl refl)

-- the law holds of each layout and each lawful history
pub every_pulse : PulsesLaw
every_pulse layout history fine ok k =
    wide_at (story (image_of layout) history) (some_state layout history fine ok) (in_tick layout history fine ok) k
