-- What settling comes to: what is held differs from what was held where a key changed, memory shows what was read, and
-- the edges are those of the keys that the last reading showed so too.
use Rattle.std.proofs.Common.{◌≡◌, ◌≤◌, ◌<◌, ℕ, suc, zero, ◌+◌, ◌-◌, ◌*◌, ◌%◌, ◌==◌, Bool, true, false, if◌then◌else◌}
use Rattle.std.proofs.Common.{◌∷◌, ◌++◌, bit_and, bit_xor, refl, ap, sym, ◌∙◌, arith}
use Rattle.std.specs.Prelude.{min}
use Rattle.std.specs.Int.{bit_at}
use Rattle.std.specs.Int.Bits.{xor_assoc, xor_self, xor_zero_r}
use Rattle.std.proofs.lemmas.Nat.{xor_comm, and_le_l}
use Rattle.std.proofs.lemmas.Nat.Bits.{bit_at_and, bit_at_xor}
use Rattle.bits.proofs.Every.{pair_by, same_of}
use Rattle.bits.specs.Bits.{bit}
use Rattle.law_fw_keys.proofs.Begun.{columns_same}
use Rattle.law_fw_keys.proofs.Held.{held_same}
use Rattle.law_fw_keys.proofs.Settle.{alone, changes_by, holds_by, pends_by}
use Rattle.law_fw_keys.specs.Edges.{row_edges, column_edges, tick_edges}
use Rattle.law_fw_keys.specs.Frameless.{changed_by}
use Rattle.law_fw_keys.specs.State.{held_by, read_of, read_cell}
use Rattle.fw_kernel.specs.declared.cells.TheConstants.{HELD, PENDING}

-- from what was held to what is held, by what the column showed
pub held_changes : (b : Bool) (pending held shown : ℕ)
    → bit_xor held (holds_by b pending (bit_xor held shown) shown) ≡ changes_by b pending (bit_xor held shown)
held_changes false pending held shown = refl
held_changes true pending held shown =
    let fresh : ℕ = alone pending (bit_xor held shown) in
    sym (xor_assoc held shown fresh) ∙ xor_comm (bit_xor held shown) fresh

-- what is held and what is pending show what was read
pub read_after : (b : Bool) (now pending differing reads : ℕ → ℕ)
    → ((i : ℕ) → i < 12 → now (HELD + i) ≡ holds_by b (pending i) (differing i) (reads i))
    → ((i : ℕ) → i < 12 → now (PENDING + i) ≡ pends_by b (pending i) (differing i)) → read_of b now ≡ held_by reads
read_after false now pending differing reads holds pends =
    held_same (read_cell false now) reads (λ c l. holds c l)
read_after true now pending differing reads holds pends =
    held_same (read_cell true now) reads (λ c l.
    let fresh : ℕ = alone (pending c) (differing c) in
    ap (λ v. bit_xor v (now (PENDING + c))) (holds c l) ∙ ap (λ v. bit_xor (bit_xor (reads c) fresh) v) (pends c l)
    ∙ xor_assoc (reads c) fresh fresh ∙ ap (λ v. bit_xor (reads c) v) (xor_self fresh) ∙ xor_zero_r (reads c))

-- what changes is what was pending too
pub changes_is : (b : Bool) (pending differing : ℕ) → pending < 256 → differing < 256
    → changes_by b pending differing ≡ changed_by b pending differing
changes_is false pending differing l m = refl
changes_is true pending differing l m =
    pair_by 256 256 (λ x p. bit_xor (bit_and x (255 - p)) x) (λ x p. bit_and x p) refl differing pending m l

-- what changed in a column is a byte
pub changed_small : (b : Bool) (pending differing : ℕ) → differing < 256 → changed_by b pending differing < 256
changed_small false pending differing m = m
changed_small true pending differing m = let l = and_le_l differing pending in omega (arith, l, m)

-- such a key is as the column showed it
second_one : (a b : ℕ) → a < 2 → b < 2 → min a b ≡ 1 → b ≡ 1
second_one zero zero l m h = absurd cc
second_one zero (suc zero) l m h = absurd cc
second_one zero (suc (suc b)) l m h = absurd (omega (arith, m))
second_one (suc zero) zero l m h = absurd cc
second_one (suc zero) (suc zero) l m h = refl
second_one (suc zero) (suc (suc b)) l m h = absurd (omega (arith, m))
second_one (suc (suc a)) b l m h = absurd (omega (arith, l))

none_so : (a : ℕ) → a < 2 → min a 0 ≡ 0
none_so zero l = refl
none_so (suc zero) l = refl
none_so (suc (suc a)) l = absurd (omega (arith, l))

complement : (k p : ℕ) → k < 8 → p < 256 → bit_at (255 - p) k ≡ 1 - bit_at p k
complement = pair_by 8 256 (λ k p. bit_at (255 - p) k) (λ k p. 1 - bit_at p k) refl

as_shown : (k pending differing shown : ℕ) → k < 8 → pending < 256 → bit k (bit_and differing pending) ≡ true
    → bit k (bit_xor shown (alone pending differing)) ≡ bit k shown
as_shown k pending differing shown l small h =
    let one : bit_at (bit_and differing pending) k ≡ 1 = same_of (bit_at (bit_and differing pending) k) 1 h in
    let was : bit_at pending k ≡ 1 =
    second_one (bit_at differing k) (bit_at pending k) (omega arith) (omega arith)
    (sym (bit_at_and differing pending k) ∙ one) in
    let not_now : bit_at (255 - pending) k ≡ 0 = complement k pending l small ∙ ap (λ v. 1 - v) was in
    let fresh : bit_at (alone pending differing) k ≡ 0 =
    bit_at_and differing (255 - pending) k ∙ ap (λ v. min (bit_at differing k) v) not_now
    ∙ none_so (bit_at differing k) (omega arith) in
    let same : (bit_at shown k + 0) % 2 ≡ bit_at shown k = omega arith in
    ap (λ v. v == 1) (bit_at_xor shown (alone pending differing) k ∙ ap (λ v. (bit_at shown k + v) % 2) fresh ∙ same)

-- edges by bytes whose bits are the same where keys changed
rows_alike : (place r n ch dn dn' : ℕ) → r + n ≤ 8 → ((k : ℕ) → k < 8 → bit k ch ≡ true → bit k dn ≡ bit k dn')
    → row_edges place r n ch dn ≡ row_edges place r n ch dn'
rows_alike place r zero ch dn dn' l h = refl
rows_alike place r (suc n) ch dn dn' l h =
    by (bit r ch) refl (rows_alike place (suc r) n ch dn dn' (omega (arith, l)) h)
  where
    by : (b : Bool) → bit r ch ≡ b → row_edges place (suc r) n ch dn ≡ row_edges place (suc r) n ch dn'
        → (if bit r ch then (place + r, bit r dn) ∷ row_edges place (suc r) n ch dn
        else row_edges place (suc r) n ch dn)
        ≡ (if bit r ch then (place + r, bit r dn') ∷ row_edges place (suc r) n ch dn'
        else row_edges place (suc r) n ch dn')
    by true e rest =
        let same : bit r dn ≡ bit r dn' = h r (omega (arith, l)) e in
        ap (λ c. if c then (place + r, bit r dn) ∷ row_edges place (suc r) n ch dn
        else row_edges place (suc r) n ch dn) e
        ∙ ap (λ v. (place + r, v) ∷ row_edges place (suc r) n ch dn) same
        ∙ ap (λ es. (place + r, bit r dn') ∷ es) rest
        ∙ sym (ap (λ c. if c then (place + r, bit r dn') ∷ row_edges place (suc r) n ch dn'
        else row_edges place (suc r) n ch dn') e)
    by false e rest =
        ap (λ c. if c then (place + r, bit r dn) ∷ row_edges place (suc r) n ch dn
        else row_edges place (suc r) n ch dn) e
        ∙ rest
        ∙ sym (ap (λ c. if c then (place + r, bit r dn') ∷ row_edges place (suc r) n ch dn'
        else row_edges place (suc r) n ch dn') e)

columns_alike : (ch dn dn' : ℕ → ℕ) (c n : ℕ) → c + n ≡ 12
    → ((i k : ℕ) → i < 12 → k < 8 → bit k (ch i) ≡ true → bit k (dn i) ≡ bit k (dn' i))
    → column_edges c n ch dn ≡ column_edges c n ch dn'
columns_alike ch dn dn' c zero sum h = refl
columns_alike ch dn dn' c (suc n) sum h =
    ap (λ v. v ++ column_edges (suc c) n ch dn)
    (rows_alike (8 * c) 0 8 (ch c) (dn c) (dn' c) (omega arith) (λ k l e. h c k (omega (arith, sum)) l e))
    ∙ ap (λ v. row_edges (8 * c) 0 8 (ch c) (dn' c) ++ v) (columns_alike ch dn dn' (suc c) n (omega (arith, sum)) h)

-- the edges of what settles
pub settled_edges : (b : Bool) (pending differing shown : ℕ → ℕ) → ((i : ℕ) → i < 12 → pending i < 256)
    → ((i : ℕ) → i < 12 → differing i < 256)
    → tick_edges (λ i. changes_by b (pending i) (differing i)) (λ i. holds_by b (pending i) (differing i) (shown i))
    ≡ tick_edges (λ i. changed_by b (pending i) (differing i)) shown
settled_edges false pending differing shown l m = refl
settled_edges true pending differing shown l m =
    columns_same (λ i. changes_by true (pending i) (differing i)) (λ i. bit_and (differing i) (pending i))
    (λ i. bit_xor (shown i) (alone (pending i) (differing i)))
    (λ i. bit_xor (shown i) (alone (pending i) (differing i))) 0 12 refl
    (λ i u. changes_is true (pending i) (differing i) (l i u) (m i u)) (λ i u. refl)
    ∙ columns_alike (λ i. bit_and (differing i) (pending i)) (λ i. bit_xor (shown i) (alone (pending i) (differing i))) shown
    0 12 refl (λ i k u v e. as_shown k (pending i) (differing i) (shown i) v (l i u) e)
