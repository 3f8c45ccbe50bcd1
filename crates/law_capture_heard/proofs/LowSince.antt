-- What a listener keeps of a low clock: the step in which it fell.
use Rattle.std.proofs.Common.{◌≡◌, ◌≤◌, ◌<◌, ℕ, zero, suc, ◌*◌, Bool, true, false, not, ◌&&◌, Some, nat_le, refl, ap, sym, ◌∙◌, arith}
use Rattle.std.proofs.lemmas.Bool.Decides.{nat_tests}
use Rattle.std.specs.Prelude.{if◌then◌else◌}
use Rattle.board_terms.specs.declared.lines.Lines.{Lines}
use Rattle.joint_feed.specs.Stories.{Story, state_at}
use Rattle.joint_run.specs.Joint.{Beside}
use Rattle.joint_run.specs.Run.{World}
use Rattle.law_wires_heard.proofs.Ears.{last_is}
use Rattle.law_wires_heard.proofs.Pulls.{Falls, comes_from, same_state, shown_at}
use Rattle.law_capture_heard.specs.Captured.{hearing_in, hearing_to}
use Rattle.law_capture_heard.proofs.EachStep.{levels_to}

module _ (s : Story) where
  -- the listener's clock is the state's
  pub level_is : (k : ℕ) (w : World Beside) → state_at s k ≡ Some w → (hearing_to s k).clock.lines.clk ≡ (shown_at s w).clk
  level_is k w at = ap (λ (l : Lines). l.clk) (levels_to s k ∙ last_is s k w at)

  -- the clock fell in a step before k, and has been low since
  pub record IsLowSince (k : ℕ) : Type 0 where
    pub step : ℕ
    pub early : step < k
    pub one : World Beside
    pub next : World Beside
    pub falls : Falls s step one next
    pub time : (hearing_to s k).clock.fall ≡ 2500 * next.cycle
    pub low : (j : ℕ) (u : World Beside) → step < j → j ≤ k → state_at s j ≡ Some u → (shown_at s u).clk ≡ false

  fall_time : (k : ℕ) (w : World Beside) (before : Bool) → state_at s (suc k) ≡ Some w → (shown_at s w).clk ≡ false
      → (hearing_to s k).clock.lines.clk ≡ before
      → (hearing_to s (suc k)).clock.fall ≡ (if before then 2500 * w.cycle else (hearing_to s k).clock.fall)
  fall_time k w before at low is =
      ap (λ o. (hearing_in o (hearing_to s k)).clock.fall) at
      ∙ ap (λ b. if b && not (shown_at s w).clk then 2500 * w.cycle else (hearing_to s k).clock.fall) is
      ∙ ap (λ b. if before && not b then 2500 * w.cycle else (hearing_to s k).clock.fall) low
      ∙ by before
    where
      by : (b : Bool) → (if b && true then 2500 * w.cycle else (hearing_to s k).clock.fall)
          ≡ (if b then 2500 * w.cycle else (hearing_to s k).clock.fall)
      by true = refl
      by false = refl

  -- it falls now
  begins : (k : ℕ) (w : World Beside) → state_at s (suc k) ≡ Some w → (shown_at s w).clk ≡ false
      → (hearing_to s k).clock.lines.clk ≡ true → IsLowSince (suc k)
  begins k w at low high =
      let c = comes_from s k w at in
      record {
        step = k;
        early = omega arith;
        one = c.before;
        next = w;
        falls = record { from = c.at; to = at; high = sym (level_is k c.before c.at) ∙ high; low = low };
        time = fall_time k w true at low high;
        low = λ j u later most there.
            let same : j ≡ suc k = omega (arith, later, most) in
            ap (λ (v : World Beside). (shown_at s v).clk)
            (same_state s (suc k) u w (ap (λ i. state_at s i) (sym same) ∙ there) at)
            ∙ low;
      }

  -- it fell before
  stays : (k : ℕ) (w : World Beside) → state_at s (suc k) ≡ Some w → (shown_at s w).clk ≡ false
      → (hearing_to s k).clock.lines.clk ≡ false → IsLowSince k → IsLowSince (suc k)
  stays k w at low was h =
      let early : h.step < k = h.early in
      record {
        step = h.step;
        early = omega (arith, early);
        one = h.one;
        next = h.next;
        falls = h.falls;
        time = fall_time k w false at low was ∙ h.time;
        low = λ j u later most there. by j u later most there (nat_le j k) refl;
      }
    where
      by : (j : ℕ) (u : World Beside) → h.step < j → j ≤ suc k → state_at s j ≡ Some u → (b : Bool) → nat_le j k ≡ b
          → (shown_at s u).clk ≡ false
      by j u later most there true e = h.low j u later (grind (arith, nat_tests, e)) there
      by j u later most there false e =
          let same : j ≡ suc k = grind (arith, nat_tests, e, most) in
          ap (λ (v : World Beside). (shown_at s v).clk) (same_state s (suc k) u w (ap (λ i. state_at s i) (sym same) ∙ there) at)
          ∙ low

  -- so it is where the listener has a low clock
  pub low_since : ((k : ℕ) → (w : World Beside) × (state_at s k ≡ Some w))
      → (k : ℕ) → (hearing_to s k).clock.lines.clk ≡ false → IsLowSince k
  low_since there zero low = absurd (let z : true ≡ false = low in cc)
  low_since there (suc k) low =
      let w = there (suc k) in
      by w.0 w.1 (sym (level_is (suc k) w.0 w.1) ∙ low) (λ e. low_since there k e) (hearing_to s k).clock.lines.clk refl
    where
      by : (w : World Beside) → state_at s (suc k) ≡ Some w → (shown_at s w).clk ≡ false
          → ((hearing_to s k).clock.lines.clk ≡ false → IsLowSince k) → (b : Bool)
          → (hearing_to s k).clock.lines.clk ≡ b → IsLowSince (suc k)
      by w at down before true e = begins k w at down e
      by w at down before false e = stays k w at down e (before e)
