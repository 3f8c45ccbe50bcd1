-- A key that bounces between two reads is at most one key that changed.
use Rattle.std.proofs.Common.{◌≡◌, ◌≤◌, ◌<◌, ℕ, suc, zero, ◌+◌, ◌*◌, ◌/◌, Bool, true, false, ◌&&◌, List, [], ◌∷◌}
use Rattle.std.proofs.Common.{length, refl, ap, sym, ◌∙◌, subst, arith}
use Rattle.std.specs.Prelude.{nat_le}
use Rattle.std.specs.List.{filter}
use Rattle.std.proofs.lemmas.Bool.Decides.{nat_tests}
use Rattle.std.proofs.lemmas.List.{length-append}
use Rattle.board_terms.proofs.Shown.{keep, skip}
use Rattle.board_terms.specs.Edges.{last_of, of_place}
use Rattle.board_terms.specs.declared.event.Edge.{Edge}
use Rattle.model_link.specs.TickEdges.{by_place, change_at, shown, shown_at}
use Rattle.law_agreement.proofs.AnyStart.{as_shown}
use Rattle.law_agreement.specs.AnyStart.{ShowsFew, columns_at}
use Rattle.law_keys_bounce.specs.Bounces.{BouncesGoOn, BouncesShowFew, if_any, moves, moving, window}

-- a place has one change at most, and none if nothing changed
one_change : (p : ℕ) (a b : Bool) → length (change_at p a b) ≤ 1
one_change p true true = omega arith
one_change p true false = omega arith
one_change p false true = omega arith
one_change p false false = omega arith

no_change : (p : ℕ) (a b : Bool) → a ≡ b → length (change_at p a b) ≤ 0
no_change p true true e = omega arith
no_change p true false e = absurd cc
no_change p false true e = absurd cc
no_change p false false e = omega arith

-- lists of places are no longer than others, where each place's is
sum_most : {X Y : Type 0} (f : ℕ → List X) (g : ℕ → List Y) (k : ℕ)
    → ((p : ℕ) → p < k → length (f p) ≤ length (g p)) → length (by_place f k) ≤ length (by_place g k)
sum_most f g zero h = omega arith
sum_most f g (suc k) h =
    let a = length-append (by_place f k) (f k) in
    let b = length-append (by_place g k) (g k) in
    let below = sum_most f g k (λ p l. h p (omega (arith, l))) in
    let here = h k (omega arith) in
    omega (arith, a, b, below, here)

-- where no edge is in the window two reads find the same edges, if the window has each edge that the later one alone finds
module _ (pa pb win : Edge → Bool) (sub : (e : Edge) → pa e ≡ true → pb e ≡ true)
    (has : (e : Edge) → pb e ≡ true → pa e ≡ false → win e ≡ true) where
  same_found : (es : List Edge) → filter win es ≡ [] → filter pa es ≡ filter pb es
  same_found [] h = refl
  same_found (e ∷ es) h = by (win e) refl h (λ h. same_found es h)
    where
      by_two : win e ≡ false → filter pa es ≡ filter pb es → (a : Bool) → pa e ≡ a → (b : Bool) → pb e ≡ b
          → filter pa (e ∷ es) ≡ filter pb (e ∷ es)
      by_two off rest true x b y = keep pa e es x ∙ ap (λ v. e ∷ v) rest ∙ sym (keep pb e es (sub e x))
      by_two off rest false x true y = let both : true ≡ false = sym (has e y x) ∙ off in absurd cc
      by_two off rest false x false y = skip pa e es x ∙ rest ∙ sym (skip pb e es y)

      by : (c : Bool) → win e ≡ c → filter win (e ∷ es) ≡ [] → (filter win es ≡ [] → filter pa es ≡ filter pb es)
          → filter pa (e ∷ es) ≡ filter pb (e ∷ es)
      by true on h rest = let some : e ∷ filter win es ≡ [] = sym (keep win e es on) ∙ h in absurd cc
      by false off h rest = by_two off (rest (sym (skip win e es off) ∙ h)) (pa e) refl (pb e) refl

  place_most : (p : ℕ) (es : List Edge)
      → length (change_at p (last_of false (filter pa es)) (last_of false (filter pb es))) ≤ length (if_any p (filter win es))
  place_most p es = by (filter win es) refl
    where
      by : (found : List Edge) → filter win es ≡ found
          → length (change_at p (last_of false (filter pa es)) (last_of false (filter pb es))) ≤ length (if_any p (filter win es))
      by [] h =
          let none : length (change_at p (last_of false (filter pa es)) (last_of false (filter pb es))) ≤ 0 =
          no_change p (last_of false (filter pa es)) (last_of false (filter pb es)) (ap (last_of false) (same_found es h)) in
          omega (arith, none)
      by (x ∷ xs) h =
          let one : length (change_at p (last_of false (filter pa es)) (last_of false (filter pb es))) ≤ 1 =
          one_change p (last_of false (filter pa es)) (last_of false (filter pb es)) in
          let some : length (if_any p (filter win es)) ≡ 1 = ap (λ v. length (if_any p v)) h in
          omega (arith, one, some)

-- no edge is read before the first tick
none_read : (es : List Edge) → last_of false (filter (λ e. false) es) ≡ false
none_read [] = refl
none_read (e ∷ es) = none_read es

module _ (edges : List Edge) (few : (from : ℕ) → length (moving edges from) ≤ 4) where
  both : (a b : Bool) → a ≡ true → b ≡ true → (a && b) ≡ true
  both true true p q = refl
  both true false p q = absurd cc
  both false b p q = absurd cc

  later : (before now from : ℕ) → before ≤ now → from ≤ before + 17 → now + 192 ≤ from + window
      → length (shown (columns_at edges before) (columns_at edges now)) ≤ 4
  later before now from up low room =
      let most : length (shown (columns_at edges before) (columns_at edges now)) ≤ length (moving edges from) =
      sum_most (shown_at (columns_at edges before) (columns_at edges now)) (λ p. if_any p (moves edges from p)) 96
      (λ p l.
      place_most (λ e. nat_le e.stamp (before + 16 + 16 * (p / 8))) (λ e. nat_le e.stamp (now + 16 + 16 * (p / 8)))
      (λ e. nat_le from e.stamp && nat_le e.stamp (from + window))
      (λ e h. let m : e.stamp ≤ before + 16 + 16 * (p / 8) = grind (arith, nat_tests, h) in
      let n : e.stamp ≤ now + 16 + 16 * (p / 8) = omega (arith, m, up) in grind (arith, nat_tests, n))
      (λ e h g.
      let m : e.stamp ≤ now + 16 + 16 * (p / 8) = grind (arith, nat_tests, h) in
      let n : before + 16 + 16 * (p / 8) < e.stamp = grind (arith, nat_tests, g) in
      let c : p / 8 ≤ 11 = omega (arith, l) in
      let a : from ≤ e.stamp = omega (arith, n, low) in
      let b : e.stamp ≤ from + window = omega (arith, m, c, room) in
      both (nat_le from e.stamp) (nat_le e.stamp (from + window)) (grind (arith, nat_tests, a)) (grind (arith, nat_tests, b)))
      p (of_place p edges)) in
      let four : length (moving edges from) ≤ 4 = few from in
      omega (arith, most, four)

  first : (now : ℕ) → now ≤ 1 → length (shown (λ place. false) (columns_at edges now)) ≤ 4
  first now soon =
      let most : length (shown (λ place. false) (columns_at edges now)) ≤ length (moving edges 0) =
      sum_most (shown_at (λ place. false) (columns_at edges now)) (λ p. if_any p (moves edges 0 p)) 96
      (λ p l.
      subst (λ b. length (change_at p b (columns_at edges now p)) ≤ length (if_any p (moves edges 0 p)))
      (none_read (of_place p edges))
      (place_most (λ e. false) (λ e. nat_le e.stamp (now + 16 + 16 * (p / 8)))
      (λ e. nat_le 0 e.stamp && nat_le e.stamp (0 + window)) (λ e h. absurd cc)
      (λ e h g.
      let m : e.stamp ≤ now + 16 + 16 * (p / 8) = grind (arith, nat_tests, h) in
      let c : p / 8 ≤ 11 = omega (arith, l) in
      let a : 0 ≤ e.stamp = omega arith in
      let b : e.stamp ≤ 0 + window = omega (arith, m, c, soon) in
      both (nat_le 0 e.stamp) (nat_le e.stamp (0 + window)) (grind (arith, nat_tests, a)) (grind (arith, nat_tests, b)))
      p (of_place p edges))) in
      let four : length (moving edges 0) ≤ 4 = few 0 in
      omega (arith, most, four)

  -- each tick shows few changes
  pub shows_few : (n : ℕ) → ShowsFew edges n
  shows_few zero = λ now is. let soon : now ≤ 2048 * 0 + 1 = is.most in first now (omega (arith, soon))
  shows_few (suc n) = λ before now was is.
      let a : 2048 * n ≤ before = was.least in
      let b : before ≤ 2048 * n + 1 = was.most in
      let c : 2048 * suc n ≤ now = is.least in
      let d : now ≤ 2048 * suc n + 1 = is.most in
      later before now (2048 * n + 16) (omega (arith, b, c)) (omega (arith, a)) (omega (arith, d))

-- if in each window at most four places have edges, each tick shows few changes, however many edges each place has
pub bounces_show_few : BouncesShowFew
bounces_show_few edges few n = shows_few edges few n

-- if in each window at most four places have edges, the run goes on as the model does, by what the columns show
pub bounces_go_on : BouncesGoOn
bounces_go_on layout edges events fine ok few m small =
    as_shown layout edges events fine ok (λ n. shows_few edges few n) m small
