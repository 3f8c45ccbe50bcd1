-- What a probe counts through several steps is what it counts through the first and then through the others.
use Rattle.std.proofs.Common.{cond, ◌≡◌, ◌≤◌, ℕ, zero, suc, ◌+◌, ◌-◌, ◌^◌, Bool, true, false, List, [], ◌∷◌, ◌++◌}
use Rattle.std.proofs.Common.{length, length-append, map, Some, None, refl, ap, sym, ◌∙◌, arith}
use Rattle.std.specs.Prelude.{if◌then◌else◌, min, slice_get}
use Rattle.std.specs.declared.option.Option.{Option}
use Rattle.std.proofs.lemmas.List.{append_assoc}
use Rattle.joint_run.specs.Joint.{Beside}
use Rattle.joint_run.specs.Run.{World}
use Rattle.joint_feed.specs.Stories.{Story, state_at}
use Rattle.run_probes.specs.declared.tally.Arms.{Arms}
use Rattle.run_probes.specs.Counts.{meets_if, hears_if, met_from, ear_from, met_between}
use Rattle.run_probes.specs.Counts.{ear_between, grown, or_later, with_met, counted_between}
use Rattle.run_probes.specs.LooksLaw.{CountsFromNone}
use Rattle.run_probes.specs.Probes.{Watch, listening, looked, meets, sight_in}
use Rattle.run_probes.specs.Tallies.{noted, or_step, one_more}
use Rattle.run_probes.specs.Transfers.{Ear}

-- what a probe counted and heard, part by part
abbrev pub as_counted : Watch → ℕ → Option ℕ → Ear → Watch
as_counted w count first ear = record { kind = w.kind; counted = record { arms = w.counted.arms; count = count; first = first }; ear = ear }

-- probes that counted and heard the same are the same
pub same_counts : (w : Watch) (m n : ℕ) (f g : Option ℕ) (a b : Ear) → m ≡ n → f ≡ g → a ≡ b → as_counted w m f a ≡ as_counted w n g b
same_counts w m n f g a b d e h =
    ap (λ (k : ℕ). as_counted w k f a) d ∙ ap (λ (o : Option ℕ). as_counted w n o a) e ∙ ap (as_counted w n g) h

grown_twice : (top count m n : ℕ) → min (min (count + suc m) top + suc n) top ≡ min (count + suc (m + suc n)) top
grown_twice top count m n = omega arith

-- a count that grows by m and then by n grows by m + n
pub grown_by : (count m n : ℕ) → grown count (m + n) ≡ grown (grown count m) n
grown_by count zero zero = refl
grown_by count zero (suc n) = let e : 0 + suc n ≡ suc n = omega arith in ap (grown count) e
grown_by count (suc m) zero = let e : suc m + 0 ≡ suc m = omega arith in ap (grown count) e
grown_by count (suc m) (suc n) =
    let e : suc m + suc n ≡ suc (m + suc n) = omega arith in ap (grown count) e ∙ sym (grown_twice (2 ^ 64 - 1) count m n)

later_none : (f : Option ℕ) → or_later f None ≡ f
later_none None = refl
later_none (Some x) = refl

later_by : (f : Option ℕ) (a b : List ℕ) → or_later f (slice_get (a ++ b) 0) ≡ or_later (or_later f (slice_get a 0)) (slice_get b 0)
later_by f [] b = ap (λ (g : Option ℕ). or_later g (slice_get b 0)) (sym (later_none f))
later_by None (x ∷ a) b = refl
later_by (Some y) (x ∷ a) b = refl

-- over zero steps a probe counts nothing more
pub with_none : (w : Watch) (ear : Ear) → with_met [] ear w ≡ as_counted w w.counted.count w.counted.first ear
with_none w ear = ap (λ (f : Option ℕ). as_counted w w.counted.count f ear) (later_none w.counted.first)

-- some steps, and then others
pub with_both : (a b : List ℕ) (ear mid : Ear) (w : Watch) → with_met (a ++ b) ear w ≡ with_met b ear (with_met a mid w)
with_both a b ear mid w =
    let count : grown w.counted.count (length (a ++ b)) ≡ grown (grown w.counted.count (length a)) (length b) =
    ap (grown w.counted.count) (length-append a b) ∙ grown_by w.counted.count (length a) (length b) in
    same_counts w _ _ _ _ ear ear count (later_by w.counted.first a b) refl

module _ (s : Story) (kind : ℕ) (arms : Option Arms) where
  -- what is heard up to a step on the way, and then after it
  ear_both : (step m n : ℕ) (ear : Ear) → ear_from s kind step (m + n) ear ≡ ear_from s kind (step + m) n (ear_from s kind step m ear)
  ear_both step zero n ear =
      let d : 0 + n ≡ n = omega arith in
      let e : step ≡ step + 0 = omega arith in
      ap (λ (k : ℕ). ear_from s kind step k ear) d ∙ ap (λ (k : ℕ). ear_from s kind k n ear) e
  ear_both step (suc m) n ear =
      let d : suc m + n ≡ suc (m + n) = omega arith in
      let e : step + 1 + m ≡ step + suc m = omega arith in
      let next = hears_if kind (state_at s step) ear in
      ap (λ (k : ℕ). ear_from s kind step k ear) d ∙ ear_both (step + 1) m n next
      ∙ ap (λ (k : ℕ). ear_from s kind k n (ear_from s kind (step + 1) m next)) e

  -- the steps up to one on the way, and those after it
  met_both : (step m n : ℕ) (ear : Ear)
      → met_from s kind arms step (m + n) ear
      ≡ met_from s kind arms step m ear ++ met_from s kind arms (step + m) n (ear_from s kind step m ear)
  met_both step zero n ear =
      let d : 0 + n ≡ n = omega arith in
      let e : step ≡ step + 0 = omega arith in
      ap (λ (k : ℕ). met_from s kind arms step k ear) d ∙ ap (λ (k : ℕ). met_from s kind arms k n ear) e
  met_both step (suc m) n ear =
      let d : suc m + n ≡ suc (m + n) = omega arith in
      let e : step + 1 + m ≡ step + suc m = omega arith in
      let next = hears_if kind (state_at s step) ear in
      let here : List ℕ = if meets_if kind arms ear (state_at s step) then step ∷ [] else [] in
      ap (λ (k : ℕ). met_from s kind arms step k ear) d
      ∙ ap (λ (v : List ℕ). here ++ v) (met_both (step + 1) m n next)
      ∙ sym (append_assoc here (met_from s kind arms (step + 1) m next)
      (met_from s kind arms (step + 1 + m) n (ear_from s kind (step + 1) m next)))
      ∙ ap (λ (k : ℕ). (here ++ met_from s kind arms (step + 1) m next) ++ met_from s kind arms k n (ear_from s kind (step + 1) m next)) e

-- what a probe counts through some steps and then through others is what it counts through all of them
pub counted_both : (s : Story) (k m n : ℕ)
    → k ≤ m → m ≤ n → (w : Watch) → counted_between s k n w ≡ counted_between s m n (counted_between s k m w)
counted_both s k m n a b w =
    let kind = w.kind in
    let arms = w.counted.arms in
    let d : n - k ≡ (m - k) + (n - m) = omega (arith, a, b) in
    let e : k + 1 + (m - k) ≡ m + 1 = omega (arith, a) in
    let mid = ear_between s k m w in
    let met : met_between s k n w ≡ met_between s k m w ++ met_from s kind arms (m + 1) (n - m) mid =
    ap (λ (i : ℕ). met_from s kind arms (k + 1) i w.ear) d ∙ met_both s kind arms (k + 1) (m - k) (n - m) w.ear
    ∙ ap (λ (i : ℕ). met_between s k m w ++ met_from s kind arms i (n - m) mid) e in
    let ear : ear_between s k n w ≡ ear_from s kind (m + 1) (n - m) mid =
    ap (λ (i : ℕ). ear_from s kind (k + 1) i w.ear) d ∙ ear_both s kind arms (k + 1) (m - k) (n - m) w.ear
    ∙ ap (λ (i : ℕ). ear_from s kind i (n - m) mid) e in
    ap (λ (steps : List ℕ). with_met steps (ear_between s k n w) w) met
    ∙ ap (λ (h : Ear). with_met (met_between s k m w ++ met_from s kind arms (m + 1) (n - m) mid) h w) ear
    ∙ with_both (met_between s k m w) (met_from s kind arms (m + 1) (n - m) mid) (ear_from s kind (m + 1) (n - m) mid) mid w

-- between a step and itself there is none
pub counted_nowhere : (s : Story) (k : ℕ) (w : Watch) → counted_between s k k w ≡ w
counted_nowhere s k w =
    let e : k - k ≡ 0 = omega arith in
    ap (λ (n : ℕ). with_met (met_from s w.kind w.counted.arms (k + 1) n w.ear) (ear_from s w.kind (k + 1) n w.ear) w) e ∙ with_none w w.ear

-- a probe that has looked at a state, if there is one
abbrev pub looked_if : ℕ → Option (World Beside) → Watch → Watch
looked_if step None w = w
looked_if step (Some v) w = looked step (sight_in v) w

first_step : (f : Option ℕ) (step : ℕ) → or_later f (Some step) ≡ or_step f step
first_step None step = refl
first_step (Some x) step = refl

noted_by : (step : ℕ) (b : Bool) (ear : Ear) (w : Watch)
    → with_met (cond b (step ∷ []) [] ++ []) ear w ≡ record { kind = w.kind; counted = noted step b w.counted; ear = ear }
noted_by step true ear w = ap (λ (f : Option ℕ). as_counted w (one_more w.counted.count) f ear) (first_step w.counted.first step)
noted_by step false ear w = with_none w ear

met_if_so : (step : ℕ) (o : Option (World Beside)) (w : Watch)
    → with_met (cond (meets_if w.kind w.counted.arms w.ear o) (step ∷ []) [] ++ []) (hears_if w.kind o w.ear) w ≡ looked_if step o w
met_if_so step None w = with_none w w.ear
met_if_so step (Some v) w = noted_by step (meets (sight_in v) w) (listening w.kind (sight_in v) w.ear) w

-- one step is one look
pub counted_once : (s : Story) (k : ℕ) (w : Watch) → counted_between s k (suc k) w ≡ looked_if (suc k) (state_at s (suc k)) w
counted_once s k w =
    let d : suc k - k ≡ 1 = omega arith in
    let e : k + 1 ≡ suc k = omega arith in
    ap (λ (n : ℕ). with_met (met_from s w.kind w.counted.arms (k + 1) n w.ear) (ear_from s w.kind (k + 1) n w.ear) w) d
    ∙ ap (λ (i : ℕ). with_met (met_from s w.kind w.counted.arms i 1 w.ear) (ear_from s w.kind i 1 w.ear) w) e
    ∙ met_if_so (suc k) (state_at s (suc k)) w

-- functions that say the same of everything give the same list
pub map_as : {X Y : Type 0} (f g : X → Y) → ((x : X) → f x ≡ g x) → (xs : List X) → map f xs ≡ map g xs
map_as f g h [] = refl
map_as f g h (x ∷ xs) = ap (λ y. y ∷ map f xs) (h x) ∙ ap (λ ys. g x ∷ ys) (map_as f g h xs)

-- a function that changes nothing leaves a list as it is
pub map_same : {X : Type 0} (f : X → X) → ((x : X) → f x ≡ x) → (xs : List X) → xs ≡ map f xs
map_same f h [] = refl
map_same f h (x ∷ xs) = ap (λ y. y ∷ xs) (sym (h x)) ∙ ap (λ ys. f x ∷ ys) (map_same f h xs)

grown_from_none : (n : ℕ) → grown 0 n ≡ min n (2 ^ 64 - 1)
grown_from_none zero = refl
grown_from_none (suc n) = let e : 0 + suc n ≡ suc n = omega arith in ap (λ (k : ℕ). min k (2 ^ 64 - 1)) e

-- a probe that had counted nothing reports how many it met, and the first of them
pub counts_from_none : CountsFromNone
counts_from_none s k n watch none first = record {
  kind = refl;
  arms = refl;
  count = ap (λ (c : ℕ). grown c (length (met_between s k n watch))) none ∙ grown_from_none (length (met_between s k n watch));
  first = ap (λ (f : Option ℕ). or_later f (slice_get (met_between s k n watch) 0)) first;
}
