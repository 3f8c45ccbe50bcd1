-- Texts of lines, and texts to which each step of a run adds: what is put of the first steps is the beginning of what is
-- put of all.
use Rattle.std.proofs.Common.{◌≡◌, ◌≤◌, ◌<◌, ℕ, zero, suc, ◌+◌, ◌-◌, List, [], ◌∷◌, ◌++◌, length, drop, get_or, drop-cons}
use Rattle.std.proofs.Common.{inl, inr, refl, ap, sym, subst, ◌∙◌, arith}
use Rattle.std.specs.Prelude.{flat_map}
use Rattle.std.proofs.lemmas.List.{append-nil, append_assoc}
use Rattle.io_edge.proofs.Pieces.{AreLines, EndsLine, broken_before, lines_after, none_said, said_then_broken, said_then_said}
use Rattle.io_edge.specs.Said.{IsBrokenOff, IsSaid, Shown}
use Rattle.joint_feed.specs.Stories.{Story}
use Rattle.run_loop.specs.declared.ending.End.{End}
use Rattle.run_loop.specs.declared.ending.Ending.{Ending}
use Rattle.run_loop.specs.Looking.{BrokeOff}
use Rattle.run_loop.specs.Reports.{IsBrokenAfter}
use Rattle.run_loop.specs.Running.{IsEndAfter}
use Rattle.run_loop.proofs.Ended.{none_after}
use Rattle.run_probes.specs.Probes.{Watch}

-- a line for each of some things
module _ {A : Type 0} (line : A → List ℕ) where
  -- is a text of whole lines
  pub text_is_lines : ((x : A) → EndsLine (line x)) → (xs : List A) → AreLines (flat_map line xs)
  text_is_lines ends [] = inl refl
  text_is_lines ends (x ∷ xs) = lines_after (line x) (flat_map line xs) (inr (ends x)) (text_is_lines ends xs)

  -- the lines from one on
  pub lines_left : (xs : List A) (i : ℕ) (d : A) → i < length xs
      → flat_map line (drop i xs) ≡ line (get_or xs i d) ++ flat_map line (drop (i + 1) xs)
  lines_left xs i d within =
      let e : suc i ≡ i + 1 = omega arith in
      ap (flat_map line) (drop-cons xs i d within ∙ ap (λ k. get_or xs i d ∷ drop k xs) e)

-- lines of a text were said, and the rest of it is left
pub record IsSaidTo (x y : Shown) (text rest : List ℕ) : Type 0 where
  pub front : List ℕ
  pub lines : AreLines front
  pub said : IsSaid x y front
  pub whole : front ++ rest ≡ text

-- before the first line of a text nothing is said and all of it is left
pub none_yet : (x : Shown) (text : List ℕ) → IsSaidTo x x text text
none_yet x text = record { front = []; lines = inl refl; said = none_said x; whole = refl }

-- if nothing of a text is left, all of it is said
pub all_said : (x y : Shown) (text rest : List ℕ) → IsSaidTo x y text rest → rest ≡ [] → IsSaid x y text
all_said x y text rest h none =
    subst (λ t. IsSaid x y t) (sym (append-nil h.front) ∙ ap (λ t. h.front ++ t) (sym none) ∙ h.whole) h.said

-- the next line is said, or a put of it fails
module _ (x y z : Shown) (text rest line after : List ℕ) (h : IsSaidTo x y text rest) (next : rest ≡ line ++ after) (ends : EndsLine line)
  where
    afterwards : (h.front ++ line) ++ after ≡ text
    afterwards = append_assoc h.front line after ∙ ap (λ t. h.front ++ t) (sym next) ∙ h.whole

    front_lines : AreLines (h.front ++ line)
    front_lines = lines_after h.front line h.lines (inr ends)

    -- once the next line is said, so much more of the text is said
    pub line_said : IsSaid y z line → IsSaidTo x z text after
    line_said k = record {
      front = h.front ++ line;
      lines = front_lines;
      said = said_then_said x y z h.front line h.lines h.said k;
      whole = afterwards;
    }

    -- if a put of the next line fails, the text is broken off
    pub line_cut : IsBrokenOff y z line → IsBrokenOff x z text
    line_cut k =
        subst (λ t. IsBrokenOff x z t) afterwards
        (broken_before x z (h.front ++ line) after front_lines (said_then_broken x y z h.front line h.lines h.said k))

-- the text of the first k steps is that of the first `last`, and the step after these makes it that of the first n: it
-- adds `put`
pub record IsOneFurther (text added : ℕ → List ℕ) (k last n : ℕ) (put : List ℕ) : Type 0 where
  pub still : text last ≡ text k
  pub more : text (suc last) ≡ text last ++ added last
  pub steps : n ≡ suc last
  pub lines : AreLines (text last)
  pub is : put ≡ added last

-- what it adds is said after it, or a put of it broke off
module _ (text added : ℕ → List ℕ) (k last n : ℕ) (put : List ℕ) (m : IsOneFurther text added k last n put)
    (first now next : Shown) (so_far : IsSaid first now (text k)) where
  said_still : IsSaid first now (text last)
  said_still = subst (λ v. IsSaid first now v) (sym m.still) so_far

  -- once what a step adds is said, the text up to after that step is said
  pub said_further : IsSaid now next put → IsSaid first next (text n)
  said_further said =
      subst (λ v. IsSaid first next v) (ap (λ v. text last ++ v) m.is ∙ sym m.more ∙ ap text (sym m.steps))
      (said_then_said first now next (text last) put m.lines said_still said)

  -- if a put of what a step adds fails, the text is broken off after what was said before
  pub broken_further : IsBrokenOff now next put → IsBrokenAfter first next (text last) (added last)
  broken_further broken =
      record { between = now; said = said_still; broken = subst (λ v. IsBrokenOff now next v) m.is broken }

-- the text after the first k steps, for each k up to `most`, and what the step after them adds
module _ (text added : ℕ → List ℕ) (most : ℕ) (more : (k : ℕ) → k < most → text (suc k) ≡ text k ++ added k) where
  further : (m k : ℕ) → m + k ≤ most → (rest : List ℕ) × (text (m + k) ≡ text k ++ rest)
  further zero k l =
      let e : 0 + k ≡ k = omega arith in
      ([], ap text e ∙ sym (append-nil (text k)))
  further (suc m) k l =
      let e : suc m + k ≡ suc (m + k) = omega arith in
      let before = further m k (omega (arith, l)) in
      let new = added (m + k) in (
        before.0 ++ new,
        ap text e ∙ more (m + k) (omega (arith, l)) ∙ ap (λ v. v ++ new) before.1 ∙ append_assoc (text k) before.0 new,
      )

  -- the text after the first steps is the beginning of the text after all
  pub later : (k : ℕ) → k ≤ most → (rest : List ℕ) × (text most ≡ text k ++ rest)
  later k l =
      let m = most - k in
      let e : m + k ≡ most = omega (arith, l) in
      let all = further m k (omega (arith, e)) in
      (all.0, ap text (sym e) ∙ all.1)

  broken_in_all : ((k : ℕ) → AreLines (text k)) → (k : ℕ) → k < most → (before after : Shown)
      → IsBrokenAfter before after (text k) (added k) → IsBrokenOff before after (text most)
  broken_in_all are_lines k l before after h =
      let part : IsBrokenOff before after (text (suc k)) =
      subst (λ v. IsBrokenOff before after v) (sym (more k l))
      (said_then_broken before h.between after (text k) (added k) (are_lines k) h.said h.broken) in
      let rest = later (suc k) (omega (arith, l)) in
      subst (λ v. IsBrokenOff before after v) (sym rest.1)
      (broken_before before after (text (suc k)) rest.0 (are_lines (suc k)) part)

-- if the report of a run broke off, the run's text is broken off
pub broken_in_run : (e : Ending) (s : Story) (text added : ℕ → List ℕ) (n : ℕ) (end : End) → IsEndAfter e s n end
    → ((k : ℕ) → k < n → text (suc k) ≡ text k ++ added k) → ((k : ℕ) → AreLines (text k)) → (x y : Shown) (before after : List Watch)
    → BrokeOff e s (λ k. IsBrokenAfter x y (text k) (added k)) before after → IsBrokenOff x y (text n)
broken_in_run e s text added n end ends more are_lines x y before after b =
    let within = none_after e s n end ends (suc b.last) b.led_to b.goes_on b.made in
    broken_in_all text added n more are_lines b.last (omega (arith, within)) x y b.broken_so
