-- The edges that the keyboard takes: what settles differs from what was where both readings say so, and is of the layout.
use Rattle.std.proofs.Common.{◌≡◌, ◌≢◌, ◌≤◌, ◌<◌, ℕ, suc, zero, ◌+◌, ◌==◌, Bool, true, false, if◌then◌else◌}
use Rattle.std.proofs.Common.{List, [], ◌∷◌, ◌++◌, length, get_or, take, slice_index_or, slice_set, refl, ap, sym, ◌∙◌, subst, arith, add-one}
use Rattle.std.proofs.Math.Seq.{take-suc}
use Rattle.std.specs.Prelude.{All}
use Rattle.std.proofs.lemmas.Bool.{eqb-true}
use Rattle.std.proofs.lemmas.Bool.Decides.{nat_tests}
use Rattle.std.proofs.lemmas.List.{get_or-replicate, get_or-set_same, get_or-set_other, length-set, length-append}
use Rattle.std.proofs.lemmas.List.Elements.{All-append, All-cons, All-nil}
use Rattle.board_terms.specs.Matrix.{turned}
use Rattle.layout_reader.specs.Layouts.{KeyLayout, HasEntry}
use Rattle.model_link.specs.Debounce.{Switches, is_down_at, settles, turned_all, all_open, taken, switched, AreKnown}
use Rattle.model_link.specs.TickEdges.{by_place, change_at, shown, shown_at}
use Rattle.model_link.proofs.Seen.{last_change, held_is_now}

-- an edge turns the key at its own place
turned_at : (keys : List Bool) (at p : ℕ) (down : Bool) → p < length keys → (b : Bool) → (at == p) ≡ b
    → is_down_at (turned at down keys) p ≡ (if at == p then down else is_down_at keys p)
turned_at keys at p down l true h =
    let same : at ≡ p = eqb-true at p h in
    ap (λ k. slice_index_or (slice_set keys k down) p false) same ∙ get_or-set_same keys p down false l
    ∙ ap (λ b. if b then down else is_down_at keys p) (sym h)
turned_at keys at p down l false h =
    let apart : p ≢ at = grind (arith, nat_tests, h) in
    get_or-set_other keys at p down false apart ∙ ap (λ b. if b then down else is_down_at keys p) (sym h)

-- edges change which keys are down, and not how many keys there are
pub turned_long : (edges : List (ℕ × Bool)) (keys : List Bool) → length (turned_all edges keys) ≡ length keys
turned_long [] keys = refl
turned_long (e ∷ es) keys = turned_long es (turned e.0 e.1 keys) ∙ length-set keys e.0 e.1

-- the last edge of a place says whether its key is down
pub turned_is : (edges : List (ℕ × Bool)) (keys : List Bool) (p : ℕ) → length keys ≡ 96 → p < 96
    → is_down_at (turned_all edges keys) p ≡ last_change edges p (is_down_at keys p)
turned_is [] keys p long l = refl
turned_is (e ∷ es) keys p long l =
    turned_is es (turned e.0 e.1 keys) p (length-set keys e.0 e.1 ∙ long) l
    ∙ ap (λ b. last_change es p b) (turned_at keys e.0 p e.1 (omega (arith, long, l)) (e.0 == p) refl)

-- what is shown against keys turns them into what shows
pub turned_shown : (keys : List Bool) (now : ℕ → Bool) (p : ℕ) → length keys ≡ 96 → p < 96
    → is_down_at (turned_all (shown (is_down_at keys) now) keys) p ≡ now p
turned_shown keys now p long l =
    turned_is (shown (is_down_at keys) now) keys p long l ∙ held_is_now (is_down_at keys) now p l

turned_append : (xs ys : List (ℕ × Bool)) (keys : List Bool) → turned_all (xs ++ ys) keys ≡ turned_all ys (turned_all xs keys)
turned_append [] ys keys = refl
turned_append (x ∷ xs) ys keys = turned_append xs ys (turned x.0 x.1 keys)

-- from the first i edges to the first i + 1
more : (edges : List (ℕ × Bool)) (i : ℕ) (edge : ℕ × Bool) → i < length edges → edge ≡ get_or edges i edge
    → take (i + 1) edges ≡ take i edges ++ edge ∷ []
more edges i edge within is = rw (add-one, take-suc edges i edge within) refl ∙ ap (λ e. take i edges ++ e ∷ []) (sym is)

-- one more edge of the list turns the keys as the definition says
pub next_turned : (edges : List (ℕ × Bool)) (i : ℕ) (edge : ℕ × Bool) (keys now after : List Bool) → i < length edges
    → edge ≡ get_or edges i edge → now ≡ turned_all (take i edges) keys → after ≡ turned edge.0 edge.1 now
    → after ≡ turned_all (take (i + 1) edges) keys
next_turned edges i edge keys now after within is so_far next =
    next ∙ ap (turned edge.0 edge.1) so_far ∙ sym (turned_append (take i edges) (edge ∷ []) keys)
    ∙ ap (λ es. turned_all es keys) (sym (more edges i edge within is))

-- one more edge of the list is copied after those that are
pub next_copied : (edges : List (ℕ × Bool)) (i : ℕ) (edge : ℕ × Bool) (done all : List (ℕ × Bool)) → i < length edges
    → edge ≡ get_or edges i edge → done ≡ take i edges → all ≡ done ++ edge ∷ [] → all ≡ take (i + 1) edges
next_copied edges i edge done all within is so_far next =
    next ∙ ap (λ v. v ++ edge ∷ []) so_far ∙ sym (more edges i edge within is)

-- the switches have a place for each key
pub record AreWide (s : Switches) : Type 0 where
  pub read : length s.read ≡ 96
  pub settled : length s.settled ≡ 96

-- after a reading the switches still have a place for each key
pub switched_wide : (debounce : Bool) (edges : List (ℕ × Bool)) (s : Switches) → AreWide s → AreWide (switched debounce edges s)
switched_wide debounce edges s w = record {
  read = turned_long edges s.read ∙ w.read;
  settled = turned_long (taken debounce edges s) s.settled ∙ w.settled;
}

-- whether two Booleans differ
abbrev pub differ : Bool → Bool → Bool
differ true true = false
differ true false = true
differ false true = true
differ false false = false

-- fewer places differ, fewer edges are shown
change_count : (p : ℕ) (a b c d : Bool) → (differ a b ≡ true → differ c d ≡ true)
    → length (change_at p a b) ≤ length (change_at p c d)
change_count p true true c d h = omega arith
change_count p false false c d h = omega arith
change_count p true false true true h = absurd (let bad : false ≡ true = h refl in cc bad)
change_count p true false false false h = absurd (let bad : false ≡ true = h refl in cc bad)
change_count p true false true false h = omega arith
change_count p true false false true h = omega arith
change_count p false true true true h = absurd (let bad : false ≡ true = h refl in cc bad)
change_count p false true false false h = absurd (let bad : false ≡ true = h refl in cc bad)
change_count p false true true false h = omega arith
change_count p false true false true h = omega arith

fewer_to : (a b c d : ℕ → Bool) → ((p : ℕ) → p < 96 → differ (a p) (b p) ≡ true → differ (c p) (d p) ≡ true) → (k : ℕ)
    → k ≤ 96 → length (by_place (shown_at a b) k) ≤ length (by_place (shown_at c d) k)
fewer_to a b c d h zero l = omega arith
fewer_to a b c d h (suc k) l =
    let x : length (by_place (shown_at a b) k ++ change_at k (a k) (b k))
    ≡ length (by_place (shown_at a b) k) + length (change_at k (a k) (b k)) =
    length-append (by_place (shown_at a b) k) (change_at k (a k) (b k)) in
    let y : length (by_place (shown_at c d) k ++ change_at k (c k) (d k))
    ≡ length (by_place (shown_at c d) k) + length (change_at k (c k) (d k)) =
    length-append (by_place (shown_at c d) k) (change_at k (c k) (d k)) in
    let less = fewer_to a b c d h k (omega (arith, l)) in
    let one = change_count k (a k) (b k) (c k) (d k) (h k (omega (arith, l))) in
    omega (arith, x, y, less, one)

-- if the changes of one reading are all changes of another one, it shows no more of them
pub shown_fewer : (a b c d : ℕ → Bool) → ((p : ℕ) → p < 96 → differ (a p) (b p) ≡ true → differ (c p) (d p) ≡ true)
    → length (shown a b) ≤ length (shown c d)
shown_fewer a b c d h = fewer_to a b c d h 96 (omega arith)

-- a key that settles otherwise was read so before
pub settles_read : (was before now : Bool) → differ was (settles was before now) ≡ true → differ was before ≡ true
settles_read true true true h = absurd cc
settles_read true true false h = absurd cc
settles_read true false true h = absurd cc
settles_read true false false h = refl
settles_read false true true h = refl
settles_read false true false h = absurd cc
settles_read false false true h = absurd cc
settles_read false false false h = absurd cc

-- and one that doesn't settle as read has just changed
pub unsettled : (was before now : Bool) → differ (settles was before now) now ≡ true → differ before now ≡ true
unsettled was true true h = absurd cc
unsettled was false false h = absurd cc
unsettled was true false h = refl
unsettled was false true h = refl

-- what is shown is at places where something is down
module _ (Q : ℕ → Type 0) (a b : ℕ → Bool) (was : (p : ℕ) → p < 96 → a p ≡ true → Q p)
    (is : (p : ℕ) → p < 96 → b p ≡ true → Q p) where
  abbrev At : ℕ × Bool → Type 0
  At c = Q c.0

  changed : (p : ℕ) (x y : Bool) → (x ≡ true → Q p) → (y ≡ true → Q p) → All At (change_at p x y)
  changed p true true f g = All-nil At
  changed p true false f g = All-cons At (p, false) [] (f refl) (All-nil At)
  changed p false true f g = All-cons At (p, true) [] (g refl) (All-nil At)
  changed p false false f g = All-nil At

  upto : (k : ℕ) → k ≤ 96 → All At (by_place (shown_at a b) k)
  upto zero l = All-nil At
  upto (suc k) l =
      All-append At (by_place (shown_at a b) k) (change_at k (a k) (b k)) (upto k (omega (arith, l)))
      (changed k (a k) (b k) (was k (omega (arith, l))) (is k (omega (arith, l))))

  -- what is so of the places of all keys that are down, before or now, is so of those of the changes shown
  pub shown_known : All At (shown a b)
  shown_known = upto 96 (omega arith)

settles_down : (was before now : Bool) (P : Type 0) → settles was before now ≡ true → (was ≡ true → P) → (now ≡ true → P) → P
settles_down was true true P h f g = g refl
settles_down was false false P h f g = absurd cc
settles_down was true false P h f g = f h
settles_down was false true P h f g = f h

-- edges at places that are known turn keys there alone
turned_known : (Q : ℕ → Type 0) (edges : List (ℕ × Bool)) (keys : List Bool) → All (λ (c : ℕ × Bool). Q c.0) edges
    → ((p : ℕ) → p < 96 → is_down_at keys p ≡ true → Q p) → (p : ℕ) → p < 96 → is_down_at (turned_all edges keys) p ≡ true
    → Q p
turned_known Q [] keys h was p l is = was p l is
turned_known Q (e ∷ es) keys h was p l is =
    turned_known Q es (turned e.0 e.1 keys) (λ k d u. h (suc k) d (omega (arith, u)))
    (λ q m down. by q m down (q == e.0) refl) p l is
  where
    by : (q : ℕ) → q < 96 → is_down_at (turned e.0 e.1 keys) q ≡ true → (b : Bool) → (q == e.0) ≡ b → Q q
    by q m down true g = subst Q (sym (eqb-true q e.0 g)) (h 0 e (omega arith))
    by q m down false g =
        let apart : q ≢ e.0 = grind (arith, nat_tests, g) in
        was q m (sym (get_or-set_other keys e.0 q e.1 false apart) ∙ down)

-- the edges that the keyboard takes are of the layout's keys, if those of its reading are
pub taken_known : (layout : KeyLayout) (debounce : Bool) (edges : List (ℕ × Bool)) (s : Switches)
    → All (λ (c : ℕ × Bool). HasEntry layout c.0) edges → AreKnown layout s
    → All (λ (c : ℕ × Bool). HasEntry layout c.0) (taken debounce edges s)
taken_known layout false edges s h known = h
taken_known layout true edges s h known =
    let now : ℕ → Bool = is_down_at (turned_all edges s.read) in
    shown_known (HasEntry layout) (is_down_at s.settled)
    (λ p. settles (is_down_at s.settled p) (is_down_at s.read p) (now p)) (λ p l. (known p l).1)
    (λ p l is. settles_down (is_down_at s.settled p) (is_down_at s.read p) (now p) (HasEntry layout p) is (known p l).1
    (turned_known (HasEntry layout) edges s.read h (λ q m. (known q m).0) p l))

-- after a reading no key is down that the layout doesn't have, if the reading's edges are of its keys
pub switched_known : (layout : KeyLayout) (debounce : Bool) (edges : List (ℕ × Bool)) (s : Switches)
    → All (λ (c : ℕ × Bool). HasEntry layout c.0) edges → AreKnown layout s → AreKnown layout (switched debounce edges s)
switched_known layout debounce edges s h known p l = (
  turned_known (HasEntry layout) edges s.read h (λ q m. (known q m).0) p l,
  turned_known (HasEntry layout) (taken debounce edges s) s.settled (taken_known layout debounce edges s h known)
      (λ q m. (known q m).1) p l,
)

-- before any reading none is down
pub open_known : (layout : KeyLayout) → AreKnown layout all_open
open_known layout p l =
    let up : is_down_at all_open.read p ≡ false = get_or-replicate 96 p false false l in
    (λ d. absurd (let bad : true ≡ false = sym d ∙ up in cc bad), λ d. absurd (let bad : true ≡ false = sym d ∙ up in cc bad))
