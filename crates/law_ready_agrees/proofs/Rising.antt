-- The interrupt line rises in a step between a state in which it is down and one in which it is up.
use Rattle.std.proofs.Common.{◌≡◌, ◌≤◌, ◌<◌, ℕ, suc, zero, ◌+◌, ◌-◌, ◌==◌, not, ◌&&◌, ◌||◌, Bool, true, false}
use Rattle.std.proofs.Common.{refl, ap, sym, ◌∙◌, subst, arith}
use Rattle.joint_feed.specs.Stories.{state_at}
use Rattle.live_board.specs.Pasts.{Past, story_of}
use Rattle.live_board.specs.Rising.{irq_in, rose}
use Rattle.live_board.specs.Rising.{rises}
use Rattle.live_board.specs.declared.irq.Irq.{Irq}

rose_up : (was is : Irq) → was.up ≡ false → is.up ≡ true → rose was is ≡ true
rose_up was is down up =
    ap (λ b. b && (not was.up || not (was.filled == is.filled))) up ∙ ap (λ b. not b || not (was.filled == is.filled)) down

first_true : (a b : Bool) → (a && b) ≡ true → a ≡ true
first_true true b h = refl
first_true false b h = absurd cc

-- it is up after it
pub up_after : (was is : Irq) → rose was is ≡ true → is.up ≡ true
up_after was is h = first_true is.up (not was.up || not (was.filled == is.filled)) h

module _ (p : Past) where
  abbrev pub is_up : ℕ → Bool
  is_up j = (irq_in (state_at (story_of p) j)).up

  pub record Rises (from to : ℕ) : Type 0 where
    pub step : ℕ
    pub late : from ≤ step
    pub soon : step < to
    pub rises : rises p step ≡ true

  rises_from : (a d : ℕ) → is_up a ≡ false → is_up (d + a) ≡ true → Rises a (d + a)
  rises_from a zero down up =
      let none : zero + a ≡ a = omega arith in
      let both : true ≡ false = sym up ∙ ap is_up none ∙ down in
      absurd cc
  rises_from a (suc d) down up = by (is_up (d + a)) refl (λ h. rises_from a d down h)
    where
      next : suc d + a ≡ suc (d + a)
      next = omega arith

      by : (b : Bool) → is_up (d + a) ≡ b → (is_up (d + a) ≡ true → Rises a (d + a)) → Rises a (suc d + a)
      by true h rest =
          let r = rest h in
          let soon = r.soon in
          record { step = r.step; late = r.late; soon = omega (arith, soon); rises = r.rises }
      by false h rest = record {
        step = d + a;
        late = omega arith;
        soon = omega arith;
        rises = rose_up (irq_in (state_at (story_of p) (d + a))) (irq_in (state_at (story_of p) (suc (d + a)))) h
            (ap is_up (sym next) ∙ up);
      }

  -- if the line is down in one state and up in a later one, it rises in a step between them
  pub rises_between : (i j : ℕ) → i ≤ j → is_up i ≡ false → is_up j ≡ true → Rises i j
  rises_between i j l down up =
      let sum : j - i + i ≡ j = omega (arith, l) in
      subst (Rises i) sum (rises_from i (j - i) down (ap is_up sum ∙ up))
