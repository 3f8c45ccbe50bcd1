-- What is handed to the joint machine is what it asks for.
use Rattle.std.proofs.Common.{◌≡◌, ◌≤◌, ◌<◌, ℕ, zero, suc, ◌+◌, ◌-◌, true, false, List, [], ◌∷◌}
use Rattle.std.proofs.Common.{◌++◌, length, take, drop, refl, ap, sym, ◌∙◌, arith}
use Rattle.std.specs.Prelude.{if◌then◌else◌, nat_le}
use Rattle.std.proofs.lemmas.Bool.Decides.{nat_tests}
use Rattle.board_terms.specs.declared.event.Edge.{Edge}
use Rattle.board_terms.specs.Edges.{is_made}
use Rattle.key_file.specs.Accepted.{IsThin}
use Rattle.joint_run.specs.Due.{made_first}

-- of the first four, or fewer, as many as there are are all of them
pub all_of_four : (xs : List Edge) → take 4 xs ≡ take (length (take 4 xs)) xs
all_of_four [] = refl
all_of_four (a ∷ []) = refl
all_of_four (a ∷ b ∷ []) = refl
all_of_four (a ∷ b ∷ c ∷ []) = refl
all_of_four (a ∷ b ∷ c ∷ d ∷ xs) = refl

-- edges that are never five at once are so without the first ones
pub thin_after : (n : ℕ) (xs : List Edge) → IsThin xs → IsThin (drop n xs)
thin_after zero xs h = h
thin_after (suc n) [] h = h
thin_after (suc n) (x ∷ xs) h = thin_after n xs h.1

-- an edge that isn't made at a cycle
unmade : (cycle : ℕ) (e : Edge) (es : List Edge) → made_first cycle (e ∷ es) ≡ [] → is_made cycle e ≡ false
unmade cycle e es h =
    elim (is_made cycle e) as (λ b. (if b then e ∷ made_first cycle es else []) ≡ [] → b ≡ false) [
      | true ↦ λ g. absurd cc
      | false ↦ λ g. refl
    ] h

none_made : (cycle : ℕ) (e : Edge) (es : List Edge) → is_made cycle e ≡ false → made_first cycle (e ∷ es) ≡ []
none_made cycle e es h = ap (λ b. if b then e ∷ made_first cycle es else []) h

-- none is made earlier where none is made later
pub unmade_before : (earlier later : ℕ) (xs : List Edge) → earlier ≤ later → made_first later xs ≡ [] → made_first earlier xs ≡ []
unmade_before earlier later [] l h = refl
unmade_before earlier later (e ∷ es) l h =
    let off : nat_le (e.stamp + 4096) later ≡ false = unmade later e es h in
    let off_before : nat_le (e.stamp + 4096) earlier ≡ false = grind (arith, nat_tests, off, l) in
    none_made earlier e es off_before

-- of edges that are thin at most four are made in two cycles
pub four_are_all : (cycle : ℕ) (xs : List Edge)
    → IsThin xs → made_first (cycle - 2) xs ≡ [] → made_first cycle (drop (length (take 4 xs)) xs) ≡ []
four_are_all cycle [] h k = refl
four_are_all cycle (a ∷ []) h k = refl
four_are_all cycle (a ∷ b ∷ []) h k = refl
four_are_all cycle (a ∷ b ∷ c ∷ []) h k = refl
four_are_all cycle (a ∷ b ∷ c ∷ d ∷ []) h k = refl
four_are_all cycle (a ∷ b ∷ c ∷ d ∷ e ∷ xs) h k =
    let off : nat_le (a.stamp + 4096) (cycle - 2) ≡ false = unmade (cycle - 2) a (b ∷ c ∷ d ∷ e ∷ xs) k in
    let apart : a.stamp + 2240 ≤ e.stamp = h.0 in
    let late : cycle - 2 < a.stamp + 4096 = grind (arith, nat_tests, off) in
    let later : cycle < e.stamp + 4096 = omega (arith, late, apart) in
    let off_too : nat_le (e.stamp + 4096) cycle ≡ false = grind (arith, nat_tests, later) in
    none_made cycle e xs off_too

-- after those that a step makes none is made in it
pub rest_unmade : (cycle : ℕ) (ys zs : List Edge)
    → made_first cycle zs ≡ [] → made_first cycle (drop (length (made_first cycle ys)) (ys ++ zs)) ≡ []
rest_unmade cycle [] zs h = h
rest_unmade cycle (y ∷ ys) zs h =
    elim (is_made cycle y) as (λ b. is_made cycle y ≡ b
    → made_first cycle (drop (length (if b then y ∷ made_first cycle ys else [])) (y ∷ (ys ++ zs))) ≡ []) [
      | true ↦ λ g. rest_unmade cycle ys zs h
      | false ↦ λ g. none_made cycle y (ys ++ zs) g
    ] refl

drop_nil : (n : ℕ) (xs : List Edge) → xs ≡ [] → drop n xs ≡ []
drop_nil zero xs e = e
drop_nil (suc n) [] e = refl
drop_nil (suc n) (x ∷ xs) e = absurd (cc e)

-- to drop m edges and then n is to drop m + n
pub drop_more : (m n k : ℕ) (xs : List Edge) → m + n ≡ k → drop n (drop m xs) ≡ drop k xs
drop_more zero n k xs e = let f : n ≡ k = omega (arith, e) in ap (λ (i : ℕ). drop i xs) f
drop_more (suc m) n k [] e = drop_nil n [] refl ∙ sym (drop_nil k [] refl)
drop_more (suc m) n zero (x ∷ xs) e = absurd (omega (arith, e))
drop_more (suc m) n (suc k) (x ∷ xs) e = drop_more m n k xs (omega (arith, e))

-- four and what is behind them
pub cut_at_four : (xs : List Edge) → take 4 xs ++ drop (length (take 4 xs)) xs ≡ xs
cut_at_four [] = refl
cut_at_four (a ∷ []) = refl
cut_at_four (a ∷ b ∷ []) = refl
cut_at_four (a ∷ b ∷ c ∷ []) = refl
cut_at_four (a ∷ b ∷ c ∷ d ∷ xs) = refl
