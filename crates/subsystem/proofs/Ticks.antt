-- How many starts are at or before a cycle, as starts come one after the other.
use Rattle.std.proofs.Common.{◌≡◌, ◌≤◌, ◌<◌, ℕ, zero, suc, ◌+◌, Bool, true, false, List, [], ◌∷◌, ◌++◌, length}
use Rattle.std.proofs.Common.{leb, refl, ap, sym, subst, ◌∙◌, arith, add-one}
use Rattle.std.specs.Prelude.{nat_le, if◌then◌else◌}
use Rattle.std.proofs.lemmas.Bool.Decides.{nat_tests}
use Rattle.std.proofs.lemmas.List.{append-nil, get_or_append_left, length-append}
use Rattle.std.proofs.Math.Seq.{get_or-append_seam}
use Rattle.board_terms.specs.Cadence.{begun, listed}
use Rattle.mcs48_core.specs.Status.{digit}

-- with one tick start more the list is one longer
pub one_longer : (starts : List ℕ) (next : ℕ) → length (starts ++ next ∷ []) ≡ suc (length starts)
one_longer starts next = length-append starts (next ∷ []) ∙ add-one (length starts)

-- something is so of each start of a list, by its number
abbrev pub AreEach : (ℕ → ℕ → Type 0) → List ℕ → Type 0
AreEach P starts = (j : ℕ) → j < length starts → P j (listed starts j)

each_with : (P : ℕ → ℕ → Type 0) (starts : List ℕ) (next : ℕ) → AreEach P starts → P (length starts) next → AreEach P (starts ++ next ∷ [])
each_with P starts next all one j below =
    let long : length (starts ++ next ∷ []) ≡ suc (length starts) = one_longer starts next in
    elim (leb (length starts) j) as (λ b. leb (length starts) j ≡ b → P j (listed (starts ++ next ∷ []) j)) [
      | true ↦ λ f. let e : j ≡ length starts = grind (arith, nat_tests, f, below, long) in
          subst (λ (i : ℕ). P i (listed (starts ++ next ∷ []) i)) (sym e)
          (subst (P (length starts)) (sym (get_or-append_seam starts next [] 0)) one)
      | false ↦ λ f. let m : j < length starts = grind (arith, nat_tests, f) in
          subst (P j) (sym (get_or_append_left starts (next ∷ []) 0 j m)) (all j m)
    ] refl

-- what is so of each tick start, and of the next one if it comes, is so of each of all
pub each_with_if : (P : ℕ → ℕ → Type 0) (b : Bool) (starts : List ℕ) (next : ℕ) → AreEach P starts → (b ≡ true → P (length starts) next)
    → AreEach P (starts ++ (if b then next ∷ [] else []))
each_with_if P true starts next all one = each_with P starts next all (one refl)
each_with_if P false starts next all one = subst (AreEach P) (sym (append-nil starts)) all

-- the list of starts is one longer exactly if a start comes
pub longer_if : (b : Bool) (starts : List ℕ) (next : ℕ) → length (starts ++ (if b then next ∷ [] else [])) ≡ length starts + digit b
longer_if true starts next = let e = one_longer starts next in omega (arith, e)
longer_if false starts next = let e = ap length (append-nil starts) in omega (arith, e)

-- starts that agree below a number have begun alike
begun_alike : (f g : ℕ → ℕ) (cycle n : ℕ) → ((j : ℕ) → j < n → f j ≡ g j) → begun f cycle n ≡ begun g cycle n
begun_alike f g cycle zero h = refl
begun_alike f g cycle (suc n) h =
    let earlier = begun_alike f g cycle n (λ j l. h j (omega (arith, l))) in
    let last : f n ≡ g n = h n (omega arith) in
    ap (λ b. b + (if nat_le (4096 + f n) cycle then 1 else 0)) earlier
    ∙ ap (λ s. begun g cycle n + (if nat_le (4096 + s) cycle then 1 else 0)) last

-- one start more
pub begun_more : (starts : List ℕ) (next cycle : ℕ) → begun (listed (starts ++ next ∷ [])) cycle (suc (length starts))
    ≡ begun (listed starts) cycle (length starts) + (if nat_le (4096 + next) cycle then 1 else 0)
begun_more starts next cycle =
    let earlier =
    begun_alike (listed (starts ++ next ∷ [])) (listed starts) cycle (length starts)
    (λ j l. get_or_append_left starts (next ∷ []) 0 j l) in
    let last : listed (starts ++ next ∷ []) (length starts) ≡ next = get_or-append_seam starts next [] 0 in
    ap (λ b. b + (if nat_le (4096 + listed (starts ++ next ∷ []) (length starts)) cycle then 1 else 0)) earlier
    ∙ ap (λ s. begun (listed starts) cycle (length starts) + (if nat_le (4096 + s) cycle then 1 else 0)) last

-- a later start hasn't begun
pub begun_later : (starts : List ℕ) (next cycle : ℕ) → cycle < 4096 + next
    → begun (listed (starts ++ next ∷ [])) cycle (suc (length starts)) ≡ begun (listed starts) cycle (length starts)
begun_later starts next cycle l =
    let off : nat_le (4096 + next) cycle ≡ false = grind (arith, nat_tests, l) in
    begun_more starts next cycle
    ∙ ap (λ b. begun (listed starts) cycle (length starts) + (if b then 1 else 0)) off
    ∙ (omega arith)

-- all that are at or before a cycle
begun_below : (f : ℕ → ℕ) (cycle n : ℕ) → ((j : ℕ) → j < n → 4096 + f j ≤ cycle) → begun f cycle n ≡ n
begun_below f cycle zero h = refl
begun_below f cycle (suc n) h =
    let earlier = begun_below f cycle n (λ j l. h j (omega (arith, l))) in
    let last : 4096 + f n ≤ cycle = h n (omega arith) in
    let on : nat_le (4096 + f n) cycle ≡ true = grind (arith, nat_tests, last) in
    ap (λ b. begun f cycle n + (if b then 1 else 0)) on ∙ ap (λ b. b + 1) earlier ∙ add-one n

-- if all tick starts are at most at a cycle, all have begun by it
pub all_begun : (starts : List ℕ) (cycle : ℕ)
    → ((j : ℕ) → j < length starts → 4096 + listed starts j ≤ cycle) → begun (listed starts) cycle (length starts) ≡ length starts
all_begun starts cycle h = begun_below (listed starts) cycle (length starts) h
