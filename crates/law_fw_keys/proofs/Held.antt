-- The held keys in the cells: the edges that the columns' bytes show turn what was held into what is.
use Rattle.law_fw_keys.proofs.Fold.{turned_all}
use Rattle.std.proofs.Common.{◌≡◌, ◌≤◌, ◌<◌, not, ℕ, suc, zero, ◌+◌, ◌*◌, ◌/◌, ◌%◌, ◌^◌, ◌==◌, nat_lt, Bool, true}
use Rattle.std.proofs.Common.{false}
use Rattle.std.proofs.Common.{if◌then◌else◌, List, [], ◌∷◌, ◌++◌, slice_set, bit_xor, refl, ap, sym, ◌∙◌, arith}
use Rattle.std.proofs.lemmas.Bool.Decides.{nat_tests}
use Rattle.std.proofs.lemmas.Nat.Bits.{bit_at_xor}
use Rattle.bits.specs.Bits.{bit}
use Rattle.law_fw_keys.specs.Edges.{row_edges, column_edges, tick_edges}
use Rattle.law_fw_keys.specs.State.{flags, down_at, held_by, layers_of}
use Rattle.fw_kernel.specs.declared.cells.TheConstants.{FN, LAYER}

-- columns with the same bits give the same list of keys
pub flags_same : (g h : ℕ → Bool) (n : ℕ) → ((i : ℕ) → i < n → g i ≡ h i) → flags g n ≡ flags h n
flags_same g h zero e = refl
flags_same g h (suc n) e =
    let a : g 0 ≡ h 0 = e 0 (omega arith) in
    let rest = flags_same (λ i. g (suc i)) (λ i. h (suc i)) n (λ i l. e (suc i) (omega (arith, l))) in rw (a, rest) refl

abbrev pub set_at : (ℕ → Bool) → ℕ → Bool → ℕ → Bool
set_at g q v i = if i == q then v else g i

not_zero : (i : ℕ) → (suc i == 0) ≡ false
not_zero i = grind (arith, nat_tests)

both_more : (i q : ℕ) (b : Bool) → (i == q) ≡ b → (suc i == suc q) ≡ b
both_more i q true e = let s : i ≡ q = grind (arith, nat_tests, e) in rw s (grind (arith, nat_tests))
both_more i q false e = grind (arith, nat_tests, e)

-- to set one key in the list is to set one bit of the columns
pub flags_set : (g : ℕ → Bool) (n q : ℕ) (v : Bool) → slice_set (flags g n) q v ≡ flags (set_at g q v) n
flags_set g zero q v = refl
flags_set g (suc n) zero v =
    ap (λ t. v ∷ t) (flags_same (λ i. g (suc i)) (λ i. set_at g 0 v (suc i)) n
    (λ i l. sym (ap (λ b. if b then v else g (suc i)) (not_zero i))))
flags_set g (suc n) (suc q) v =
    let first : set_at g (suc q) v 0 ≡ g 0 =
    (let e : (0 == suc q) ≡ false = grind (arith, nat_tests) in ap (λ b. if b then v else g 0) e) in
    ap (λ t. g 0 ∷ t) (flags_set (λ i. g (suc i)) n q v
    ∙ flags_same (set_at (λ i. g (suc i)) q v) (λ i. set_at g (suc q) v (suc i)) n
    (λ i l. sym (ap (λ b. if b then v else g (suc i)) (both_more i q (i == q) refl))))
    ∙ ap (λ t. t ∷ flags (λ i. set_at g (suc q) v (suc i)) n) (sym first)

-- bits of an exclusive or
rest_bit : (a b : ℕ) → a < 2 → b < 2 → ((a + b) % 2 == 1) ≡ false → (a == 1) ≡ (b == 1)
rest_bit zero zero l m h = refl
rest_bit zero (suc zero) l m h = absurd cc
rest_bit (suc zero) zero l m h = absurd cc
rest_bit (suc zero) (suc zero) l m h = refl
rest_bit zero (suc (suc b)) l m h = absurd (omega (arith, m))
rest_bit (suc zero) (suc (suc b)) l m h = absurd (omega (arith, m))
rest_bit (suc (suc a)) b l m h = absurd (omega (arith, l))

same_bit : (r old new : ℕ) → bit r (bit_xor old new) ≡ false → bit r new ≡ bit r old
same_bit r old new h =
    let k : ((old / 2 ^ r % 2 + new / 2 ^ r % 2) % 2 == 1) ≡ false = ap (λ v. v == 1) (sym (bit_at_xor old new r))
    ∙ h in
    sym (rest_bit (old / 2 ^ r % 2) (new / 2 ^ r % 2) (omega arith) (omega arith) k)

module _ (old new : ℕ → ℕ) where
  -- the places below q as they are, the others as they were
  abbrev part : ℕ → ℕ → Bool
  part q i = if nat_lt i q then down_at new i else down_at old i

  at_place : (c r : ℕ) → r < 8 → (g : ℕ → ℕ) → down_at g (8 * c + r) ≡ bit r (g c)
  at_place c r l g =
      let a : (8 * c + r) % 8 ≡ r = omega (arith, l) in
      let b : (8 * c + r) / 8 ≡ c = omega (arith, l) in
      rw (a, b) refl

  goes_on : (q i : ℕ) → (v : Bool) → v ≡ down_at new q → (b : Bool) → (i == q) ≡ b → (c : Bool) → nat_lt i q ≡ c
      → set_at (part q) q v i ≡ part (suc q) i
  goes_on q i v is true e c f =
      let same : i ≡ q = grind (arith, nat_tests, e) in
      let below : nat_lt i (suc q) ≡ true = (let l : i < suc q = omega (arith, same) in grind (arith, nat_tests, l)) in
      rw (e, below) (is ∙ sym (ap (λ j. down_at new j) same))
  goes_on q i v is false e true f =
      let l : i < q = grind (arith, nat_tests, f) in
      let below : nat_lt i (suc q) ≡ true = (let m : i < suc q = omega (arith, l) in grind (arith, nat_tests, m)) in
      rw (e, f, below) refl
  goes_on q i v is false e false f =
      let above : nat_lt i (suc q) ≡ false = grind (arith, nat_tests, e, f) in
      rw (e, f, above) refl

  stays : (q i : ℕ) → down_at old q ≡ down_at new q → (b : Bool) → (i == q) ≡ b → (c : Bool) → nat_lt i q ≡ c
      → part q i ≡ part (suc q) i
  stays q i is true e c f =
      let same : i ≡ q = grind (arith, nat_tests, e) in
      let below : nat_lt i (suc q) ≡ true = (let l : i < suc q = omega (arith, same) in grind (arith, nat_tests, l)) in
      let no : nat_lt i q ≡ false = grind (arith, nat_tests, e) in
      rw (no, below) (ap (λ j. down_at old j) same ∙ is ∙ sym (ap (λ j. down_at new j) same))
  stays q i is false e true f =
      let l : i < q = grind (arith, nat_tests, f) in
      let below : nat_lt i (suc q) ≡ true = (let m : i < suc q = omega (arith, l) in grind (arith, nat_tests, m)) in
      rw (f, below) refl
  stays q i is false e false f =
      let above : nat_lt i (suc q) ≡ false = grind (arith, nat_tests, e, f) in
      rw (f, above) refl

  module _ (ch : ℕ → ℕ) where
    -- a row
    one : (c r : ℕ) → r < 8 → bit_xor (old c) (new c) ≡ ch c → (b : Bool) → bit r (ch c) ≡ b
        → (rest : List (ℕ × Bool))
        → turned_all (if bit r (ch c) then (8 * c + r, bit r (new c)) ∷ rest else rest) (flags (part (8 * c + r)) 96)
        ≡ turned_all rest (flags (part (suc (8 * c + r))) 96)
    one c r l is true e rest =
        let q : ℕ = 8 * c + r in
        let v : bit r (new c) ≡ down_at new q = sym (at_place c r l new) in
        ap (λ b. turned_all (if b then (q, bit r (new c)) ∷ rest else rest) (flags (part q) 96)) e
        ∙ ap (λ h. turned_all rest h) (flags_set (part q) 96 q (bit r (new c))
        ∙ flags_same (set_at (part q) q (bit r (new c))) (part (suc q)) 96
        (λ i m. goes_on q i (bit r (new c)) v (i == q) refl (nat_lt i q) refl))
    one c r l is false e rest =
        let q : ℕ = 8 * c + r in
        let same : down_at old q ≡ down_at new q =
        at_place c r l old ∙ sym (same_bit r (old c) (new c) (ap (λ v. bit r v) is ∙ e)) ∙ sym (at_place c r l new) in
        ap (λ b. turned_all (if b then (q, bit r (new c)) ∷ rest else rest) (flags (part q) 96)) e
        ∙ ap (λ h. turned_all rest h)
        (flags_same (part q) (part (suc q)) 96 (λ i m. stays q i same (i == q) refl (nat_lt i q) refl))

    all_more : (xs ys : List (ℕ × Bool)) (h : List Bool) → turned_all (xs ++ ys) h ≡ turned_all ys (turned_all xs h)
    all_more [] ys h = refl
    all_more (x ∷ xs) ys h = all_more xs ys (slice_set h x.0 x.1)

    rows_turn : (c r n : ℕ) → r + n ≡ 8 → bit_xor (old c) (new c) ≡ ch c
        → turned_all (row_edges (8 * c) r n (ch c) (new c)) (flags (part (8 * c + r)) 96) ≡ flags (part (8 * c + 8)) 96
    rows_turn c r zero sum is = let e : 8 * c + r ≡ 8 * c + 8 = omega (arith, sum) in ap (λ q. flags (part q) 96) e
    rows_turn c r (suc n) sum is =
        let e : suc (8 * c + r) ≡ 8 * c + suc r = omega arith in
        one c r (omega (arith, sum)) is (bit r (ch c)) refl (row_edges (8 * c) (suc r) n (ch c) (new c))
        ∙ ap (λ q. turned_all (row_edges (8 * c) (suc r) n (ch c) (new c)) (flags (part q) 96)) e
        ∙ rows_turn c (suc r) n (omega (arith, sum)) is

    columns_turn : (c n : ℕ) → c + n ≡ 12 → ((i : ℕ) → i < 12 → bit_xor (old i) (new i) ≡ ch i)
        → turned_all (column_edges c n ch new) (flags (part (8 * c)) 96) ≡ flags (part 96) 96
    columns_turn c zero sum is = let e : 8 * c ≡ 96 = omega (arith, sum) in ap (λ q. flags (part q) 96) e
    columns_turn c (suc n) sum is =
        let z : 8 * c ≡ 8 * c + 0 = omega arith in
        let e : 8 * c + 8 ≡ 8 * suc c = omega arith in
        all_more (row_edges (8 * c) 0 8 (ch c) (new c)) (column_edges (suc c) n ch new) (flags (part (8 * c)) 96)
        ∙ ap (λ h. turned_all (column_edges (suc c) n ch new) h)
        (ap (λ q. turned_all (row_edges (8 * c) 0 8 (ch c) (new c)) (flags (part q) 96)) z
        ∙ rows_turn c 0 8 refl (is c (omega (arith, sum))))
        ∙ ap (λ q. turned_all (column_edges (suc c) n ch new) (flags (part q) 96)) e
        ∙ columns_turn (suc c) n (omega (arith, sum)) is

    all_new : (i : ℕ) → i < 96 → part 96 i ≡ down_at new i
    all_new i l = let e : nat_lt i 96 ≡ true = grind (arith, nat_tests, l) in rw e refl

    -- the edges that the bytes of changes show turn what was held into what is
    pub held_turns : ((i : ℕ) → i < 12 → bit_xor (old i) (new i) ≡ ch i) → turned_all (tick_edges ch new) (held_by old)
        ≡ held_by new
    held_turns is = columns_turn 0 12 refl is ∙ flags_same (part 96) (down_at new) 96 all_new

-- twelve bytes say what is held
pub held_same : (g h : ℕ → ℕ) → ((c : ℕ) → c < 12 → g c ≡ h c) → held_by g ≡ held_by h
held_same g h e = flags_same (down_at g) (down_at h) 96 (λ p l. let c : p / 8 < 12 = omega (arith, l) in
    ap (λ b. bit (p % 8) b) (e (p / 8) c))

-- and the layers are a matter of their cells
pub layers_same : (g f : ℕ → ℕ) → ((i : ℕ) → FN ≤ i → i < LAYER + 12 → g i ≡ f i) → layers_of g ≡ layers_of f
layers_same g f e =
    let fn : g FN ≡ f FN = e FN (omega arith) (omega arith) in
    ap (λ v. record { fn_down = not (v == 0); pressed_in = held_by (λ c. g (LAYER + c)) }) fn
    ∙ ap (λ p. record { fn_down = not (f FN == 0); pressed_in = p }) (held_same (λ c. g (LAYER + c)) (λ c. f (LAYER + c))
    (λ c l. e (LAYER + c) (omega arith) (omega (arith, l))))
