-- The test that the bound falls needs the greatest value after the row, and the least bound before it, alone.
use Rattle.std.proofs.Common.{◌≡◌, ◌≤◌, ◌<◌, ℕ, ◌+◌, ◌*◌, List, [], ◌∷◌, Bool, true, false, not, ◌&&◌}
use Rattle.std.proofs.Common.{◌==◌, leb, if◌then◌else◌, Some, None, refl, sym, ◌∙◌, ap, arith}
use Rattle.std.proofs.Math.Nat.{mul-le-mul_left}
use Rattle.std.proofs.lemmas.Bool.Decides.{nat_tests}
use Rattle.std.specs.declared.option.Option.{Option}
use Rattle.std.specs.List.{list_all}
use Rattle.cycle_cert.specs.declared.bound.Bound.{Bound}
use Rattle.cycle_cert.specs.declared.falling.Passage.{Passage}
use Rattle.cycle_cert.specs.declared.rows.When.{When}
use Rattle.cycle_cert.specs.declared.rows.When.TheVariants.{Always, NotAtOne, AtOne}
use Rattle.cycle_cert.specs.Bounds.{byte_values, weight, cycles_at}
use Rattle.cycle_cert.specs.Rows.{fits, values_after, heaviest, value_given, writes}
use Rattle.cycle_cert.specs.Falling.{is_open, falls_at, falls, lightest}
use Rattle.bits.proofs.Every.{both}
use Rattle.cycle_cert.proofs.Values.{true_or_false, not_each, at_value, each_value}

and_true : (b : Bool) → (b && true) ≡ b
and_true true = refl
and_true false = refl

-- the weight of a register's value is 256 at most
pub weight_most : (v : ℕ) → v < 256 → weight v ≤ 256
weight_most v h = grind (arith, nat_tests, h)

cycles_most : (b : Bound) (v c t : ℕ) → v < 256 → leb (cycles_at b 0 + c) t ≡ true → leb (cycles_at b v + c) t ≡ true
cycles_most b v c t l h =
    let m : b.factor * weight v ≤ b.factor * 256 = mul-le-mul_left b.factor (weight_most v l) in
    let k : b.fixed + b.factor * 256 + c ≤ t = grind (arith, nat_tests, h) in
    let g : b.fixed + b.factor * weight v + c ≤ t = omega (arith, m, k) in
    grind (arith, nat_tests, g)

all_or_greatest : (p : ℕ → Bool) → ((v : ℕ) → v < 256 → p 0 ≡ true → p v ≡ true) → list_all p byte_values ≡ p 0
all_or_greatest p anti =
    true_or_false (list_all p byte_values ≡ p 0) (p 0)
    (λ y. each_value p (λ v l. anti v l y) ∙ sym y)
    (λ n. not_each p 0 (omega arith) n ∙ sym n)

heaviest_by : (p : ℕ → Bool) → ((v : ℕ) → v < 256 → p 0 ≡ true → p v ≡ true) → (g : Option ℕ) (w : Bool) (z : ℕ)
    → list_all p (elim g as (λ x. List ℕ) [ Some given ↦ given ∷ [] | None ↦ if w then byte_values else z ∷ [] ])
    ≡ p (elim g as (λ x. ℕ) [ Some given ↦ given | None ↦ if w then 0 else z ])
heaviest_by p anti (Some given) w z = and_true (p given)
heaviest_by p anti None true z = all_or_greatest p anti
heaviest_by p anti None false z = and_true (p z)

-- of the values after, the heaviest decides
by_heaviest : (p : Passage) (first second : ℕ)
    → list_all (λ left. leb (cycles_at p.after left + p.cycles) (cycles_at p.before first)) (values_after p.op p.after.register second)
    ≡ leb (cycles_at p.after (heaviest p.op p.after.register second) + p.cycles) (cycles_at p.before first)
by_heaviest p first second =
    heaviest_by (λ left. leb (cycles_at p.after left + p.cycles) (cycles_at p.before first))
    (λ v l h. cycles_most p.after v p.cycles (cycles_at p.before first) l h)
    (value_given p.op p.after.register second) (writes p.op p.after.register) second

-- the test of an open way
pub falls_where_open : (p : Passage) (first second : ℕ) → is_open p first second ≡ true
    → falls_at p first second ≡ leb (cycles_at p.after (heaviest p.op p.after.register second) + p.cycles) (cycles_at p.before first)
falls_where_open p first second e = rw e (by_heaviest p first second)

list_all_same : (p q : ℕ → Bool) → ((v : ℕ) → p v ≡ q v) → (xs : List ℕ) → list_all p xs ≡ list_all q xs
list_all_same p q h [] = refl
list_all_same p q h (x ∷ xs) = let a = h x in let b = list_all_same p q h xs in rw (a, b) refl

list_all_weaker : (p q : ℕ → Bool) → ((v : ℕ) → p v ≡ true → q v ≡ true) → (xs : List ℕ) → list_all p xs ≡ true → list_all q xs ≡ true
list_all_weaker p q h [] e = refl
list_all_weaker p q h (x ∷ xs) e =
    let t = both (p x) (list_all p xs) e in
    let a = h x t.0 in
    let b = list_all_weaker p q h xs t.1 in
    rw (a, b) refl

-- where both registers are one
one_by : (p : Passage) (b : Bool)
    → list_all (λ first. list_all (falls_at p first) (if b then first ∷ [] else byte_values)) byte_values
    ≡ (if b then list_all (λ value. falls_at p value value) byte_values else list_all
    (λ first. list_all (falls_at p first) byte_values) byte_values)
one_by p true = list_all_same (λ first. list_all (falls_at p first) (first ∷ [])) (λ value. falls_at p value value)
    (λ v. and_true (falls_at p v v)) byte_values
one_by p false = refl

-- if both bounds count one register, the bound falls exactly if it falls for each value of it
pub falls_on_one : (p : Passage) → p.before.register ≡ p.after.register → list_all (λ value. falls_at p value value) byte_values ≡ falls p
unfolding falls
falls_on_one p e =
    let t : (p.before.register == p.after.register) ≡ true = grind (arith, nat_tests, e) in
    let k = one_by p (p.before.register == p.after.register) in
    sym (k ∙ ap (λ b. if b then list_all (λ value. falls_at p value value) byte_values else list_all
    (λ first. list_all (falls_at p first) byte_values) byte_values) t)

-- the lightest value is open, and no open one is lighter
lightest_by : (r c : ℕ) (b : Bool) (first : ℕ) → (r == c) ≡ b → (if b then not (first == 1) else true) ≡ true
    → weight (if b then 2 else 1) ≤ weight first
lightest_by r c true first e h = grind (arith, nat_tests, h)
lightest_by r c false first e h = grind (arith, nat_tests)

lightest_weight : (r : ℕ) (w : When) (first : ℕ) → fits w r first ≡ true
    → weight (elim w as (λ x. ℕ) [ Always ↦ 1 | NotAtOne c ↦ if r == c then 2 else 1 | AtOne c ↦ 1 ]) ≤ weight first
lightest_weight r Always first h = grind (arith, nat_tests)
lightest_weight r (NotAtOne c) first h = lightest_by r c (r == c) first refl h
lightest_weight r (AtOne c) first h = grind (arith, nat_tests)

two_is_open : (b : Bool) → (if b then not ((if b then 2 else 1) == 1) else true) ≡ true
two_is_open true = refl
two_is_open false = refl

one_is_open : (b : Bool) → (if b then 1 == 1 else true) ≡ true
one_is_open true = refl
one_is_open false = refl

lightest_open : (r : ℕ) (w : When)
    → fits w r (elim w as (λ x. ℕ) [ Always ↦ 1 | NotAtOne c ↦ if r == c then 2 else 1 | AtOne c ↦ 1 ]) ≡ true
lightest_open r Always = refl
lightest_open r (NotAtOne c) = two_is_open (r == c)
lightest_open r (AtOne c) = one_is_open (r == c)

lightest_small : (r : ℕ) (w : When) → (elim w as (λ x. ℕ) [ Always ↦ 1 | NotAtOne c ↦ if r == c then 2 else 1 | AtOne c ↦ 1 ]) < 256
lightest_small r Always = omega arith
lightest_small r (NotAtOne c) = grind (arith, nat_tests)
lightest_small r (AtOne c) = omega arith

rises : (b : Bound) (u v t : ℕ) → weight u ≤ weight v → leb t (cycles_at b u) ≡ true → leb t (cycles_at b v) ≡ true
rises b u v t l h =
    let m : b.factor * weight u ≤ b.factor * weight v = mul-le-mul_left b.factor l in
    let k : t ≤ b.fixed + b.factor * weight u = grind (arith, nat_tests, h) in
    let g : t ≤ b.fixed + b.factor * weight v = omega (arith, m, k) in
    grind (arith, nat_tests, g)

-- where the bound falls at the lightest value it falls at any
falls_by : (p : Passage) (first second : ℕ) (o : Bool) (x : Bool) → fits p.when p.before.register first ≡ o
    → fits p.when p.after.register second ≡ x
    → falls_at p (lightest p) second ≡ true → falls_at p first second ≡ true
falls_by p first second false x e f h = rw e refl
falls_by p first second true false e f h = rw (e, f) refl
falls_by p first second true true e f h =
    let open_too = lightest_open p.before.register p.when in
    let test = λ (left : ℕ). leb (cycles_at p.after left + p.cycles) (cycles_at p.before (lightest p)) in
    let test' = λ (left : ℕ). leb (cycles_at p.after left + p.cycles) (cycles_at p.before first) in
    let k : list_all test (values_after p.op p.after.register second) ≡ true = rw (open_too, f) at h in
    let g : list_all test' (values_after p.op p.after.register second) ≡ true =
    list_all_weaker test test'
    (λ v y. rises p.before (lightest p) first (cycles_at p.after v + p.cycles) (lightest_weight p.before.register p.when first e) y)
    (values_after p.op p.after.register second) k in
    rw (e, f, g) refl

-- if the bounds count two registers, the bound falls exactly if it falls from the least bound before the row
pub falls_beside : (p : Passage) → (p.before.register ≡ p.after.register → ⊥) → list_all (falls_at p (lightest p)) byte_values ≡ falls p
unfolding falls
falls_beside p ne =
    let f : (p.before.register == p.after.register) ≡ false = grind (arith, nat_tests, ne) in
    let k = one_by p (p.before.register == p.after.register) in
    let each = λ (first : ℕ). list_all (falls_at p first) byte_values in
    let both_ways : list_all each byte_values ≡ each (lightest p) =
    true_or_false (list_all each byte_values ≡ each (lightest p)) (each (lightest p))
    (λ y. each_value each
    (λ v l. each_value (falls_at p v)
    (λ z m. falls_by p v z (fits p.when p.before.register v)
    (fits p.when p.after.register z) refl refl (at_value (falls_at p (lightest p)) z y m))) ∙ sym y)
    (λ n. not_each each (lightest p) (lightest_small p.before.register p.when) n ∙ sym n) in
    sym (k ∙ ap (λ b. if b then list_all (λ value. falls_at p value value) byte_values else list_all
    (λ first. list_all (falls_at p first) byte_values) byte_values) f ∙ both_ways)
