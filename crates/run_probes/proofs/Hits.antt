-- The first probe that is met by what is seen, one probe after another.
use Rattle.std.proofs.Common.{◌≡◌, ℕ, suc, zero, ◌<◌, ◌+◌, Bool, true, false, length, map, List, [], ◌∷◌}
use Rattle.std.proofs.Common.{take, drop, get_or, ◌++◌, Some, None, arith, ◌∙◌, ap, sym, refl}
use Rattle.std.specs.Prelude.{if◌then◌else◌}
use Rattle.std.specs.declared.option.Option.{Option}
use Rattle.std.proofs.lemmas.List.{length-map}
use Rattle.run_probes.specs.Probes.{Watch, Sight, meets, first_met, or_met}
use Rattle.run_probes.proofs.Over.{read_map}

-- after those that were changed the next one is as it was
read_seam : (f : Watch → Watch) (old : List Watch) (i : ℕ) (d : Watch) → get_or (map f (take i old) ++ drop i old) i d ≡ get_or old i d
read_seam f old zero d = refl
read_seam f [] (suc i) d = refl
read_seam f (w ∷ ws) (suc i) d = read_seam f ws i d

-- with one probe more
met_more : (m : Sight) (n i : ℕ) (ws : List Watch) (d : Watch) → i < length ws
    → or_met (first_met n m (take i ws)) (meets m (get_or ws i d)) (n + i) ≡ first_met n m (take (suc i) ws)
met_more m n i [] d l = absurd (omega (arith, l))
met_more m n zero (w ∷ ws) d l = let e : n + 0 ≡ n = omega arith in ap (λ (k : ℕ). if meets m w then Some k else None) e
met_more m n (suc i) (w ∷ ws) d l =
    let e : n + suc i ≡ suc n + i = omega arith in
    elim (meets m w) as (λ b. or_met (if b then Some n else first_met (suc n) m (take i ws)) (meets m (get_or ws i d)) (n + suc i)
    ≡ (if b then Some n else first_met (suc n) m (take (suc i) ws))) [
      | true ↦ refl
      | false ↦ ap (λ (k : ℕ). or_met (first_met (suc n) m (take i ws)) (meets m (get_or ws i d)) k) e
          ∙ met_more m (suc n) i ws d (omega (arith, l))
    ]

-- the probe that is looked at next, as it is seen, is the next one of those before the loop
pub hit_more : {X : Type 0} (see : X → Watch) (m : Sight) (f : Watch → Watch) (old now : List X)
    (i : ℕ) (x : X) (met : Bool) (hit : Option ℕ)
    → i < length now → length now ≡ length old → map see now ≡ map f (take i (map see old)) ++ drop i (map see old) → x ≡ get_or now i x
    → met ≡ meets m (see (get_or now i x))
    → hit ≡ first_met 0 m (take i (map see old)) → or_met hit met i ≡ first_met 0 m (take (i + 1) (map see old))
hit_more see m f old now i x met hit l n inv is looks before =
    let here : see x ≡ get_or (map see old) i (see x) =
    read_map see now i x l is ∙ ap (λ v. get_or v i (see x)) inv ∙ read_seam f (map see old) i (see x) in
    let within : i < length (map see old) = omega (arith, length-map old see, l, n) in
    let plus : i + 1 ≡ suc i = omega arith in
    let from_none : i ≡ 0 + i = omega arith in
    ap (λ o. or_met o met i) before
    ∙ ap (λ b. or_met (first_met 0 m (take i (map see old))) b i) (looks ∙ ap (λ b. meets m (see b)) (sym is) ∙ ap (meets m) here)
    ∙ ap (λ (k : ℕ). or_met (first_met 0 m (take i (map see old))) (meets m (get_or (map see old) i (see x))) k) from_none
    ∙ met_more m 0 i (map see old) (see x) within
    ∙ sym (ap (λ (k : ℕ). first_met 0 m (take k (map see old))) plus)
