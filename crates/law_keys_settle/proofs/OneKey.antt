-- One key: each of its edges is taken at one of the five readings after it, and at no other.
use Rattle.std.proofs.Common.{◌≡◌, ◌≤◌, ◌<◌, ℕ, suc, zero, ◌+◌, ◌-◌, ◌&&◌, Bool, true, false, not, if◌then◌else◌}
use Rattle.std.proofs.Common.{List, [], ◌∷◌, refl, ap, sym, ◌∙◌, subst, arith}
use Rattle.std.specs.Prelude.{nat_le, nat_lt}
use Rattle.std.specs.List.{filter}
use Rattle.std.proofs.lemmas.Bool.Decides.{nat_tests}
use Rattle.board_terms.proofs.Shown.{skip, keep}
use Rattle.board_terms.specs.Edges.{last_of}
use Rattle.board_terms.specs.declared.event.Edge.{Edge}
use Rattle.key_file.specs.Accepted.{Alternates, Dwells}
use Rattle.model_link.specs.Debounce.{settles}
use Rattle.law_keys_settle.proofs.Rows.{Row, row, after0, after1, after2, after3, turned_by}
use Rattle.law_keys_settle.specs.Settling.{AreApart, AreLater, distance, fresh, is_fresh, settling}

-- none of a key's edges has a property that those after a stamp don't have
none_after : (q : Edge → Bool) (t : ℕ) → ((f : Edge) → t < f.stamp → q f ≡ false) → (e : Edge) (es : List Edge)
    → AreApart (e ∷ es) → t < e.stamp + distance → filter q es ≡ []
none_after q t off e [] far l = refl
none_after q t off e (f ∷ fs) far l =
    let up : e.stamp + distance ≤ f.stamp = far.0 in
    skip q f fs (off f (omega (arith, up, l))) ∙ none_after q t off f fs far.1 (omega (arith, up, l))

none_from : (q : Edge → Bool) (t : ℕ) → ((f : Edge) → t < f.stamp → q f ≡ false) → (e : Edge) (es : List Edge)
    → AreApart (e ∷ es) → t < e.stamp → filter q (e ∷ es) ≡ []
none_from q t off e es far l = skip q e es (off e l) ∙ none_after q t off e es far (omega (arith, l))

not_fresh : (t : ℕ) (f : Edge) → t < f.stamp → is_fresh t f ≡ false
not_fresh t f l =
    let early : nat_le f.stamp t ≡ false = grind (arith, nat_tests, l) in
    ap (λ c. c && nat_lt t (f.stamp + settling)) early

no_longer_fresh : (t : ℕ) (f : Edge) → f.stamp + 6000 ≤ t → is_fresh t f ≡ false
no_longer_fresh t f l =
    let late : nat_lt t (f.stamp + 6000) ≡ false = grind (arith, nat_tests, l) in
    ap (λ c. nat_le f.stamp t && c) late ∙ and_false (nat_le f.stamp t)
  where
    and_false : (b : Bool) → (b && false) ≡ false
    and_false true = refl
    and_false false = refl

not_then : (t : ℕ) (f : Edge) → t < f.stamp → nat_le f.stamp t ≡ false
not_then t f l = grind (arith, nat_tests, l)

tail_apart : (e : Edge) (es : List Edge) → AreApart (e ∷ es) → AreApart es
tail_apart e [] far = tt
tail_apart e (f ∷ fs) far = far.1

-- so many readings on
abbrev pub ahead : ℕ → ℕ → ℕ
ahead zero a = a
ahead (suc k) a = suc (ahead k a)

ahead_is : (k a : ℕ) → ahead k a ≡ k + a
ahead_is zero a = omega arith
ahead_is (suc k) a =
    let is : ahead k a ≡ k + a = ahead_is k a in
    let one : suc (ahead k a) ≡ suc k + a = omega (arith, is) in one

ahead_suc : (k a : ℕ) → ahead k (suc a) ≡ suc (ahead k a)
ahead_suc zero a = refl
ahead_suc (suc k) a = ap (λ n. suc n) (ahead_suc k a)

-- a number among five
five : (P : ℕ → Type 0) (a n : ℕ) → a ≤ n → n ≤ 4 + a → P a → P (suc a) → P (suc (suc a)) → P (suc (suc (suc a)))
    → P (suc (suc (suc (suc a)))) → P n
five P zero zero l u p0 p1 p2 p3 p4 = p0
five P zero (suc zero) l u p0 p1 p2 p3 p4 = p1
five P zero (suc (suc zero)) l u p0 p1 p2 p3 p4 = p2
five P zero (suc (suc (suc zero))) l u p0 p1 p2 p3 p4 = p3
five P zero (suc (suc (suc (suc zero)))) l u p0 p1 p2 p3 p4 = p4
five P zero (suc (suc (suc (suc (suc n))))) l u p0 p1 p2 p3 p4 = absurd (omega (arith, u))
five P (suc a) zero l u p0 p1 p2 p3 p4 = absurd (omega (arith, l))
five P (suc a) (suc n) l u p0 p1 p2 p3 p4 =
    five (λ k. P (suc k)) a n (omega (arith, l)) (omega (arith, u)) p0 p1 p2 p3 p4

shifted : (t k a : ℕ) → nat_le t k ≡ nat_le (ahead t a) (ahead k a)
shifted t k a = by (nat_le (ahead t a) (ahead k a)) refl
  where
    is : ahead t a ≡ t + a
    is = ahead_is t a

    so : ahead k a ≡ k + a
    so = ahead_is k a

    by : (b : Bool) → nat_le (ahead t a) (ahead k a) ≡ b → nat_le t k ≡ b
    by true e =
        let l : ahead t a ≤ ahead k a = grind (arith, nat_tests, e) in
        let i = is in
        let j = so in
        let m : t ≤ k = omega (arith, l, i, j) in
        grind (arith, nat_tests, m)
    by false e =
        let l : ahead k a < ahead t a = grind (arith, nat_tests, e) in
        let i = is in
        let j = so in
        let m : k < t = omega (arith, l, i, j) in
        grind (arith, nat_tests, m)

agreed : (w a b c : Bool) → a ≡ w → b ≡ w → c ≡ w → settles a b c ≡ w
agreed w a b c e f g = ap (λ v. settles v b c) e ∙ ap (λ v. settles w v c) f ∙ ap (λ v. settles w w v) g ∙ all w
  where
    all : (w : Bool) → settles w w w ≡ w
    all true = refl
    all false = refl

-- the readings of a key's column: when, and what they show of it
module _ (r : ℕ → ℕ) (near : (n : ℕ) → (r n + 2043 ≤ r (suc n)) × (r (suc n) ≤ r n + 2053)) (d : ℕ → Bool) where
  -- what the reading before showed, and what has settled up to one
  abbrev pub was : ℕ → Bool
  was zero = false
  was (suc n) = d n

  abbrev pub settled : ℕ → Bool
  settled zero = false
  settled (suc n) = settles (settled n) (was n) (d n)

  -- the edges up to a reading
  abbrev pub by_then : List Edge → ℕ → List Edge
  by_then es n = filter (λ (e : Edge). nat_le e.stamp (r n)) es

  grows : (k n : ℕ) → r n ≤ r (ahead k n)
  grows zero n = omega arith
  grows (suc k) n =
      let a : r n ≤ r (ahead k n) = grows k n in
      let b : r (ahead k n) + 2043 ≤ r (suc (ahead k n)) = (near (ahead k n)).0 in
      let c : r n ≤ r (suc (ahead k n)) = omega (arith, a, b) in c

  far_enough : (k m : ℕ) → k ≤ r (ahead k m)
  far_enough zero m = omega arith
  far_enough (suc k) m =
      let a : k ≤ r (ahead k m) = far_enough k m in
      let b : r (ahead k m) + 2043 ≤ r (suc (ahead k m)) = (near (ahead k m)).0 in
      let c : suc k ≤ r (suc (ahead k m)) = omega (arith, a, b) in c

  no_sooner : (n m : ℕ) → n ≤ m → r n ≤ r m
  no_sooner n m l =
      let sum : (m - n) + n ≡ m = omega (arith, l) in
      subst (λ v. r n ≤ r v) (ahead_is (m - n) n ∙ sum) (grows (m - n) n)

  later_read : (n m : ℕ) → n < m → r n + 2043 ≤ r m
  later_read n m l = let a = (near n).0 in let b = no_sooner (suc n) m (omega (arith, l)) in omega (arith, a, b)

  reads_order : (n m : ℕ) → nat_le (r n) (r m) ≡ nat_le n m
  reads_order n m = by (nat_le n m) refl
    where
      by : (b : Bool) → nat_le n m ≡ b → nat_le (r n) (r m) ≡ b
      by true e = let l : n ≤ m = grind (arith, nat_tests, e) in let g = no_sooner n m l in grind (arith, nat_tests, g)
      by false e =
          let l : m < n = grind (arith, nat_tests, e) in
          let g = later_read m n l in
          let u : r m < r n = omega (arith, g) in
          grind (arith, nat_tests, u)

  -- the first reading from one on that isn't before a stamp
  record First (stamp m : ℕ) : Type 0 where
    index : ℕ
    from : m ≤ index
    reached : stamp ≤ r index
    soon : r index ≤ stamp + 2053
    before : (n : ℕ) → m ≤ n → n < index → r n < stamp

  at_once : (m stamp : ℕ) → r m ≤ stamp + 2053 → stamp ≤ r m → First stamp m
  at_once m stamp soon h =
      record { index = m; from = omega arith; reached = h; soon = soon; before = λ n l u. absurd (omega (arith, l, u)) }

  one_later : (m stamp : ℕ) → r m < stamp → First stamp (suc m) → First stamp m
  one_later m stamp early rest = record {
    index = rest.index;
    from = let l = rest.from in omega (arith, l);
    reached = rest.reached;
    soon = rest.soon;
    before = λ n l u. by n l u (nat_le (suc m) n) refl;
  }
    where
      by : (n : ℕ) → m ≤ n → n < rest.index → (b : Bool) → nat_le (suc m) n ≡ b → r n < stamp
      by n l u true e = rest.before n (grind (arith, nat_tests, e)) u
      by n l u false e =
          let k : n < suc m = grind (arith, nat_tests, e) in
          let same : m ≡ n = omega (arith, l, k) in
          subst (λ v. r v < stamp) same early

  find_first : (k m stamp : ℕ) → r m ≤ stamp + 2053 → stamp ≤ r (ahead k m) → First stamp m
  find_first zero m stamp soon h = at_once m stamp soon h
  find_first (suc k) m stamp soon h =
      by (nat_le stamp (r m)) refl (λ u. find_first k (suc m) stamp u (subst (λ v. stamp ≤ r v) (sym (ahead_suc k m)) h))
    where
      by : (b : Bool) → nat_le stamp (r m) ≡ b → (r (suc m) ≤ stamp + 2053 → First stamp (suc m)) → First stamp m
      by true e rest = at_once m stamp soon (grind (arith, nat_tests, e))
      by false e rest =
          let early : r m < stamp = grind (arith, nat_tests, e) in
          let step = (near m).1 in
          one_later m stamp early (rest (omega (arith, early, step)))

  -- as long as the readings show a key as it has settled, it stays so
  stays : (w : Bool) (k m : ℕ) → settled m ≡ w → was m ≡ w → ((n : ℕ) → m ≤ n → n < ahead k m → d n ≡ w)
      → (settled (ahead k m) ≡ w) × (was (ahead k m) ≡ w)
  stays w zero m s b h = (s, b)
  stays w (suc k) m s b h =
      let so = stays w k m s b (λ n l u. let up : n < suc (ahead k m) = omega (arith, u) in h n l up) in
      let is : ahead k m ≡ k + m = ahead_is k m in
      let now : d (ahead k m) ≡ w = h (ahead k m) (omega (arith, is)) (omega arith) in
      (agreed w (settled (ahead k m)) (was (ahead k m)) (d (ahead k m)) so.0 so.1 now, now)

  stays_to : (w : Bool) (m n : ℕ) → m ≤ n → settled m ≡ w → was m ≡ w → ((i : ℕ) → m ≤ i → i < n → d i ≡ w)
      → (settled n ≡ w) × (was n ≡ w)
  stays_to w m n l s b h =
      let sum : (n - m) + m ≡ n = omega (arith, l) in
      let at : ahead (n - m) m ≡ n = ahead_is (n - m) m ∙ sum in
      subst (λ v. (settled v ≡ w) × (was v ≡ w)) at
      (stays w (n - m) m s b (λ i low up. h i low (omega (arith, up, at))))

  -- where no edge is fresh a reading shows the key
  abbrev pub Shows : Bool → List Edge → ℕ → Type 0
  Shows w es m = (n : ℕ) → m ≤ n → fresh (r n) es ≡ [] → d n ≡ last_of w (by_then es n)

  abbrev pub Reaches : ℕ → List Edge → Type 0
  Reaches m [] = Unit {0}
  Reaches m (e ∷ es) = r m ≤ e.stamp + 2053

  abbrev BeginsAt : ℕ → List Edge → Type 0
  BeginsAt stamp [] = Unit {0}
  BeginsAt stamp (f ∷ fs) = stamp ≤ f.stamp

  -- the edges as they are taken from a reading on
  pub record Taken (w : Bool) (es : List Edge) (m : ℕ) : Type 0 where
    pub seen : List Edge
    pub later : AreLater es seen
    pub begins : BeginsAt (r (suc m)) seen
    pub before : (n : ℕ) → n < m → by_then seen n ≡ []
    pub alternate : Alternates w seen
    pub dwell : Dwells seen
    pub shows : (n : ℕ) → m ≤ n → last_of w (by_then seen n) ≡ settled (suc n)

  dwell_on : (f : Edge) (fs : List Edge) (stamp : ℕ) → f.stamp + 2240 ≤ stamp → BeginsAt stamp fs → Dwells fs → Dwells (f ∷ fs)
  dwell_on f [] stamp l begins dwell = tt
  dwell_on f (g ∷ gs) stamp l begins dwell = (omega (arith, l, begins), dwell)

  module _ (w : Bool) (e : Edge) (es : List Edge) (m : ℕ) (turns : e.down ≡ not w) (far : AreApart (e ∷ es))
      (shows : Shows w (e ∷ es) m) (reach : r m ≤ e.stamp + 2053) (s : settled m ≡ w) (b : was m ≡ w) where
    first : First e.stamp m
    first = find_first e.stamp m e.stamp reach (far_enough e.stamp m)

    abbrev a : ℕ
    a = first.index

    abbrev a1 : ℕ
    a1 = suc a

    abbrev a2 : ℕ
    a2 = suc a1

    abbrev a3 : ℕ
    a3 = suc a2

    abbrev a4 : ℕ
    a4 = suc a3

    start : m ≤ a
    start = first.from

    -- up to it nothing happens
    quiet : (n : ℕ) → m ≤ n → n < a → d n ≡ w
    quiet n l u =
        let early : r n < e.stamp = first.before n l u in
        shows n l (none_from (is_fresh (r n)) (r n) (not_fresh (r n)) e es far early)
        ∙ ap (last_of w) (none_from (λ (f : Edge). nat_le f.stamp (r n)) (r n) (not_then (r n)) e es far early)

    calm : (settled a ≡ w) × (was a ≡ w)
    calm = stays_to w m a start s b quiet

    -- the fourth reading and the fifth are those of a settled contact, and come before the next edge
    fifth : r a4 ≤ e.stamp + 10265
    fifth =
        let z : r a ≤ e.stamp + 2053 = first.soon in
        let p : r a1 ≤ r a + 2053 = (near a).1 in
        let q : r a2 ≤ r a1 + 2053 = (near a1).1 in
        let t : r a3 ≤ r a2 + 2053 = (near a2).1 in
        let u : r a4 ≤ r a3 + 2053 = (near a3).1 in
        omega (arith, z, p, q, t, u)

    fourth : e.stamp + 6000 ≤ r a3
    fourth =
        let z : e.stamp ≤ r a = first.reached in
        let p : r a + 2043 ≤ r a1 = (near a).0 in
        let q : r a1 + 2043 ≤ r a2 = (near a1).0 in
        let t : r a2 + 2043 ≤ r a3 = (near a2).0 in
        omega (arith, z, p, q, t)

    past : (n : ℕ) → a3 ≤ n → fresh (r n) es ≡ [] → d n ≡ last_of e.down (by_then es n)
    past n l none =
        let from : r a3 ≤ r n = no_sooner a3 n l in
        let old : e.stamp + 6000 ≤ r n = (let f = fourth in omega (arith, f, from)) in
        let up : nat_le e.stamp (r n) ≡ true = (let v : e.stamp ≤ r n = omega (arith, old) in grind (arith, nat_tests, v)) in
        shows n (let k = start in omega (arith, k, l))
        (skip (is_fresh (r n)) e es (no_longer_fresh (r n) e old) ∙ none)
        ∙ ap (last_of w) (keep (λ (f : Edge). nat_le f.stamp (r n)) e es up)

    settled_at : (n : ℕ) → a3 ≤ n → n ≤ a4 → d n ≡ not w
    settled_at n l u =
        let last : r n ≤ r a4 = no_sooner n a4 u in
        let room : r n < e.stamp + distance = (let f = fifth in omega (arith, f, last)) in
        past n l (none_after (is_fresh (r n)) (r n) (not_fresh (r n)) e es far room)
        ∙ ap (last_of e.down) (none_after (λ (f : Edge). nat_le f.stamp (r n)) (r n) (not_then (r n)) e es far room)
        ∙ turns

    abbrev x : Bool
    x = d a

    abbrev y : Bool
    y = d a1

    abbrev z : Bool
    z = d a2

    d3 : d a3 ≡ not w
    d3 = settled_at a3 (omega arith) (omega arith)

    d4 : d a4 ≡ not w
    d4 = settled_at a4 (omega arith) (omega arith)

    the_row : Row w x y z
    the_row = row w x y z

    abbrev turn : ℕ
    turn = the_row.turn

    -- the reading at which it is taken
    abbrev at : ℕ
    at = ahead turn a

    at_is : at ≡ turn + a
    at_is = ahead_is turn a

    s0 : settled a1 ≡ after0 w x
    s0 = ap (λ v. settles v (was a) x) calm.0 ∙ ap (λ v. settles w v x) calm.1

    s1 : settled a2 ≡ after1 w x y
    s1 = ap (λ v. settles v x y) s0

    s2 : settled a3 ≡ after2 w x y z
    s2 = ap (λ v. settles v y z) s1

    s3 : settled a4 ≡ after3 w x y z
    s3 = ap (λ v. settles v z (d a3)) s2 ∙ ap (λ v. settles (after2 w x y z) z v) d3

    s4 : settled (suc a4) ≡ settles (after3 w x y z) (not w) (not w)
    s4 =
        ap (λ v. settles v (d a3) (d a4)) s3 ∙ ap (λ v. settles (after3 w x y z) v (d a4)) d3
        ∙ ap (λ v. settles (after3 w x y z) (not w) v) d4

    abbrev IsTurned : ℕ → Type 0
    IsTurned n = settled (suc n) ≡ turned_by w at n

    moved : (k : ℕ) (v : Bool) → v ≡ turned_by w turn k → v ≡ turned_by w at (ahead k a)
    moved k v is = is ∙ ap (λ c. if c then not w else w) (shifted turn k a)

    turned : (n : ℕ) → a ≤ n → n ≤ a4 → IsTurned n
    turned n l u =
        five IsTurned a n l (omega (arith, u)) (moved 0 (settled a1) (s0 ∙ the_row.at0)) (moved 1 (settled a2) (s1 ∙ the_row.at1))
        (moved 2 (settled a3) (s2 ∙ the_row.at2)) (moved 3 (settled a4) (s3 ∙ the_row.at3))
        (moved 4 (settled (suc a4)) (s4 ∙ the_row.at4))

    abbrev next : ℕ
    next = suc a4

    next_settled : settled next ≡ e.down
    next_settled =
        let most = the_row.most in
        let up : nat_le turn 4 ≡ true = grind (arith, nat_tests, most) in
        s4 ∙ the_row.at4 ∙ ap (λ c. if c then not w else w) up ∙ sym turns

    next_was : was next ≡ e.down
    next_was = d4 ∙ sym turns

    next_shows : Shows e.down es next
    next_shows n l none = past n (omega (arith, l)) none

    next_reach : Reaches next es
    next_reach = by es far
      where
        by : (es : List Edge) → AreApart (e ∷ es) → Reaches next es
        by [] far = tt
        by (g ∷ gs) far =
            let f = fifth in
            let step : r (suc a4) ≤ r a4 + 2053 = (near a4).1 in
            let apart : e.stamp + distance ≤ g.stamp = far.0 in
            omega (arith, f, step, apart)

    abbrev taken : Edge
    taken = record { stamp = r at; place = e.place; down = e.down }

    -- so the edge is taken once, and then the others
    with_rest : Taken e.down es next → Taken w (e ∷ es) m
    with_rest rest =
        let least : 1 ≤ turn = the_row.least in
        let most : turn ≤ 4 = the_row.most in
        let is : at ≡ turn + a = at_is in
        let late : r at ≤ r a4 = no_sooner at a4 (omega (arith, most, is)) in
        record {
          seen = taken ∷ rest.seen;
          later = (
            record {
              place = refl;
              down = refl;
              after = (let f = first.reached in let g = grows turn a in omega (arith, f, g));
              soon = (let f = fifth in omega (arith, f, late));
            },
            rest.later,
          );
          begins = (let k = start in no_sooner (suc m) at (omega (arith, k, least, is)));
          before = λ n l.
              (let k = start in skip (λ (f : Edge). nat_le f.stamp (r n)) taken rest.seen
              (not_yet n (omega (arith, k, l, least, is))) ∙ rest.before n (omega (arith, k, l)));
          alternate = (turns, rest.alternate);
          dwell = dwell_on taken rest.seen (r (suc next))
              (let p : r a4 + 2043 ≤ r (suc a4) = (near a4).0 in
              let q : r (suc a4) + 2043 ≤ r (suc (suc a4)) = (near (suc a4)).0 in
              omega (arith, late, p, q)) rest.begins rest.dwell;
          shows = λ n l. by rest n l (nat_le next n) refl (nat_le a n) refl;
        }
      where
        not_yet : (n : ℕ) → n < at → nat_le (r at) (r n) ≡ false
        not_yet n l = let later : nat_le at n ≡ false = grind (arith, nat_tests, l) in reads_order at n ∙ later

        with_one : (n : ℕ) (fs : List Edge) → filter (λ (f : Edge). nat_le f.stamp (r n)) fs ≡ []
            → last_of w (by_then (taken ∷ fs) n) ≡ turned_by w at n
        with_one n fs none =
            ap (λ (v : List Edge). last_of w (if nat_le (r at) (r n) then taken ∷ v else v)) none
            ∙ ap (λ c. last_of w (if c then taken ∷ [] else [])) (reads_order at n) ∙ of_one (nat_le at n)
          where
            of_one : (c : Bool) → last_of w (if c then taken ∷ [] else []) ≡ (if c then not w else w)
            of_one true = turns
            of_one false = refl

        by : (rest : Taken e.down es next) (n : ℕ) → m ≤ n → (p : Bool) → nat_le next n ≡ p → (q : Bool) → nat_le a n ≡ q
            → last_of w (by_then (taken ∷ rest.seen) n) ≡ settled (suc n)
        by rest n l true on q e =
            let least : turn ≤ 4 = the_row.most in
            let from : suc a4 ≤ n = grind (arith, nat_tests, on) in
            let is : at ≡ turn + a = at_is in
            let u : at ≤ n = omega (arith, least, from, is) in
            let up : nat_le at n ≡ true = grind (arith, nat_tests, u) in
            let kept : nat_le (r at) (r n) ≡ true = reads_order at n ∙ up in
            ap (last_of w) (keep (λ (f : Edge). nat_le f.stamp (r n)) taken rest.seen kept) ∙ rest.shows n from
        by rest n l false off true e =
            let up : n < suc a4 = grind (arith, nat_tests, off) in
            let from : a ≤ n = grind (arith, nat_tests, e) in
            with_one n rest.seen (rest.before n up) ∙ sym (turned n from (omega (arith, up)))
        by rest n l false off false e =
            let up : n < a = grind (arith, nat_tests, e) in
            let least : 1 ≤ turn = the_row.least in
            let not_turned : nat_le at n ≡ false = (let is : at ≡ turn + a = at_is in let u : n < at = omega (arith, up, least, is) in grind (arith, nat_tests, u)) in
            with_one n rest.seen (rest.before n (omega (arith, up)))
            ∙ ap (λ c. if c then not w else w) not_turned
            ∙ sym (stays_to w m (suc n) (omega (arith, l)) s b (λ i low high. quiet i low (omega (arith, high, up)))).0

  -- each edge of a key is taken at one of the five readings after it, and at no other
  pub walk : (w : Bool) (es : List Edge) (m : ℕ) → Alternates w es → AreApart es → Shows w es m → Reaches m es
      → settled m ≡ w → was m ≡ w → Taken w es m
  walk w [] m alternate far shows reach s b = record {
    seen = [];
    later = tt;
    begins = tt;
    before = λ n l. refl;
    alternate = tt;
    dwell = tt;
    shows = λ n l. sym (stays_to w m (suc n) (omega (arith, l)) s b (λ i low up. shows i low refl)).0;
  }
  walk w (e ∷ es) m alternate far shows reach s b =
      with_rest w e es m alternate.0 far shows reach s b
      (walk e.down es (next w e es m alternate.0 far shows reach s b) alternate.1 (tail_apart e es far)
      (next_shows w e es m alternate.0 far shows reach s b) (next_reach w e es m alternate.0 far shows reach s b)
      (next_settled w e es m alternate.0 far shows reach s b) (next_was w e es m alternate.0 far shows reach s b))
