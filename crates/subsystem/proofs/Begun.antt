-- The tick starts among the first states of a run.
use Rattle.std.proofs.Common.{◌≡◌, ◌≤◌, ◌<◌, ℕ, zero, suc, ◌+◌, ◌-◌, Bool, true, false, ◌&&◌, List, []}
use Rattle.std.proofs.Common.{◌∷◌, ◌++◌, length, Some, None, refl, ap, sym, subst, ◌∙◌, arith}
use Rattle.std.specs.Prelude.{if◌then◌else◌, nat_le}
use Rattle.std.proofs.lemmas.Bool.Decides.{nat_tests}
use Rattle.std.proofs.lemmas.List.{length-append}
use Rattle.std.specs.declared.option.Option.{Option}
use Rattle.board_terms.specs.Cadence.{listed}
use Rattle.fw_ticks.specs.JointRun.{KeepsTimeFrom}
use Rattle.joint_feed.specs.Stories.{Story, state_at, starts_tick}
use Rattle.joint_run.specs.Joint.{Beside, joint_start_of}
use Rattle.joint_run.specs.Run.{World}
use Rattle.run_loop.specs.declared.ending.Ending.TheVariants.{TickStart}
use Rattle.run_loop.specs.Running.{GoesOnTo}
use Rattle.run_loop.specs.Starts.{start_stamp, starts_among}
use Rattle.run_loop.proofs.Steps.{before, step_later}
use Rattle.subsystem.specs.declared.starts.Starts.{Starts}
use Rattle.subsystem.specs.LogReports.{HasNoted}
use Rattle.subsystem.specs.Progress.{most_starts}
use Rattle.subsystem.proofs.Ticks.{AreEach, each_with_if}
use Rattle.subsystem.proofs.Timekeeping.{numbered}

-- each start of a list is at most at a cycle
abbrev pub AreUpTo : List ℕ → ℕ → Type 0
AreUpTo xs most = AreEach (λ j stamp. 4096 + stamp ≤ most) xs

module _ (s : Story) where
  among : (k : ℕ) (w : World Beside) → state_at s k ≡ Some w
      → starts_among s (suc k) ≡ starts_among s k ++ (if starts_tick s w then (w.cycle - 4096) ∷ [] else [])
  among k w there = ap (λ (o : Option (World Beside)). starts_among s k ++ start_stamp s o) there

  few_stamps : (o : Option (World Beside)) → length (start_stamp s o) ≤ 1
  few_stamps None = omega arith
  few_stamps (Some w) =
      elim (starts_tick s w) as (λ b. length (if b then (w.cycle - 4096) ∷ [] else []) ≤ 1) [ true ↦ omega arith | false ↦ omega arith ]

  -- no more of them than states
  pub few_among : (k : ℕ) → length (starts_among s k) ≤ k
  few_among zero = omega arith
  few_among (suc k) =
      let so_far = few_among k in
      let one = few_stamps (state_at s k) in
      let e = length-append (starts_among s k) (start_stamp s (state_at s k)) in
      omega (arith, so_far, one, e)

module _ (s : Story) (t : KeepsTimeFrom (joint_start_of s.held) s.bytes s.edges s.events) where
  begun_more : (k : ℕ) (w : World Beside) → state_at s k ≡ Some w → AreUpTo (starts_among s k) w.cycle → AreUpTo (starts_among s (suc k)) w.cycle
  begun_more k w there so_far =
      subst (λ (v : List ℕ). AreUpTo v w.cycle) (sym (among s k w there))
      (each_with_if (λ j stamp. 4096 + stamp ≤ w.cycle) (starts_tick s w) (starts_among s k) (w.cycle - 4096) so_far
      (λ yes. let early = t.none_early k w there yes in omega (arith, early)))

  -- all up to the cycle of the last of these states
  pub begun_among : (k : ℕ) (w : World Beside) → state_at s k ≡ Some w → AreUpTo (starts_among s (suc k)) w.cycle
  begun_among zero w there = begun_more 0 w there (λ j below. absurd (omega (arith, below)))
  begun_among (suc k) w there =
      let on = before s k w there in
      let later = (step_later s k on.0 w on.1 there).0 in
      begun_more (suc k) w there (λ j below. let so_far = begun_among k on.0 on.1 j below in omega (arith, so_far, later))

  -- those at the states before the present one are before the end stamp
  pub before_end : (k : ℕ) → GoesOnTo TickStart s k → AreEach (λ j stamp. stamp < s.stop) (starts_among s k)
  before_end zero on = λ j below. absurd (omega (arith, below))
  before_end (suc k) on =
      let w = on.1 in
      subst (AreEach (λ j stamp. stamp < s.stop)) (sym (among s k w on.2))
      (each_with_if (λ j stamp. stamp < s.stop) (starts_tick s w) (starts_among s k) (w.cycle - 4096) (before_end k on.0)
      (λ yes.
      let early = t.none_early k w on.2 yes in
      let off : nat_le (4096 + s.stop) w.cycle ≡ false = sym (ap (λ b. b && nat_le (4096 + s.stop) w.cycle) yes) ∙ on.3 in
      let open_still : w.cycle < 4096 + s.stop = grind (arith, nat_tests, off) in
      omega (arith, open_still, early)))

  few_by : (k : ℕ) → GoesOnTo TickStart s k → (n : ℕ) → length (starts_among s k) ≡ n → n < most_starts s.stop
  few_by k on zero e = omega arith
  few_by k on (suc m) e =
      let below : m < length (starts_among s k) = omega (arith, e) in
      let near = (t.near m (listed (starts_among s k) m) ((numbered s t k).1 m below)).least in
      let so_far = before_end k on m below in
      omega (arith, near, so_far)

  -- a tick start is at its multiple of 2,048 at least, so there is room for one more
  pub few_before : (k : ℕ) → GoesOnTo TickStart s k → length (starts_among s k) < most_starts s.stop
  few_before k on = few_by k on (length (starts_among s k)) refl

not_early : (b : Bool) → (b ≡ true → 4096 ≤ 0) → (if b then (0 - 4096) ∷ [] else []) ≡ []
not_early true early = let e = early refl in absurd (omega (arith, e))
not_early false early = refl

-- no tick starts at power-on
none_first : (s : Story) → KeepsTimeFrom (joint_start_of s.held) s.bytes s.edges s.events → starts_among s 1 ≡ []
none_first s t = not_early (starts_tick s (joint_start_of s.held)) (λ on. t.none_early 0 (joint_start_of s.held) refl on)

-- before the first step of a run that keeps its time no tick start is noted, and there was none
pub begins : (s : Story) → KeepsTimeFrom (joint_start_of s.held) s.bytes s.edges s.events → (it : Starts) → it.stamps.items ≡ []
    → HasNoted TickStart s 0 it
begins s t it none = record { ending = refl; starts = none ∙ sym (none_first s t) }
