-- Laws of the key table.
use Rattle.std.proofs.Common.{◌≡◌, ℕ, ◌<◌, Bool, true, false, ◌&&◌, eqb, ltb, length, Option, Some, None, refl, ap, ◌∙◌, List, arith}
use Rattle.std.proofs.lemmas.Bool.{eqb-true}
use Rattle.std.proofs.lemmas.Bool.Decides.{nat_tests}
use Rattle.pc_tables.specs.Keys.{keys, name_at, code_at, scan_at, key_with_name, key_with_code, key_with_scan}
use Rattle.bits.proofs.Every.{at_each}

-- whether the answer is this number
abbrev is_just : ℕ → Option ℕ → Bool
is_just k (Some n) = eqb n k
is_just k None = false

just : (k : ℕ) (o : Option ℕ) → is_just k o ≡ true → o ≡ Some k
just k (Some n) h = ap (λ x. Some x) (eqb-true n k h)
just k None h = absurd cc

-- there are 84 keys
pub key_count : length keys ≡ 84
unfolding keys
key_count = refl

-- a key's name finds it again, so no two keys share a name
pub own-name : (k : ℕ) → k < 84 → key_with_name (name_at k) ≡ Some k
unfolding keys
own-name k l = just k _ (at_each (λ k. is_just k (key_with_name (name_at k))) 84 refl k l)

-- no two keys share a keyboard code
pub own-code : (k : ℕ) → k < 84 → key_with_code (code_at k) ≡ Some k
unfolding keys
own-code k l = just k _ (at_each (λ k. is_just k (key_with_code (code_at k))) 84 refl k l)

-- no two keys share a scan code
pub own-scan : (k : ℕ) → k < 84 → key_with_scan (scan_at k) ≡ Some k
unfolding keys
own-scan k l = just k _ (at_each (λ k. is_just k (key_with_scan (scan_at k))) 84 refl k l)

-- whether a number is a byte that no code uses as a prefix: above 0 and below a bound
abbrev is_within : ℕ → ℕ → Bool
is_within bound n = ltb 0 n && ltb n bound

is_within-some : (bound n : ℕ) → is_within bound n ≡ true → 0 < n
is_within-some bound n h = grind (arith, nat_tests)

is_within-range : (bound n : ℕ) → is_within bound n ≡ true → n < bound
is_within-range bound n h = grind (arith, nat_tests)

codes-within : (k : ℕ) → k < 84 → is_within 133 (code_at k) ≡ true
unfolding keys
codes-within = at_each (λ k. is_within 133 (code_at k)) 84 refl

scans-within : (k : ℕ) → k < 84 → is_within 85 (scan_at k) ≡ true
unfolding keys
scans-within = at_each (λ k. is_within 85 (scan_at k)) 84 refl

-- a key's code is that key's alone
pub own-code-of : (k code : ℕ) → k < 84 → code ≡ code_at k → key_with_code code ≡ Some k
own-code-of k code l e = ap key_with_code e ∙ own-code k l

-- a key's code isn't 00
pub code-some : (k code : ℕ) → k < 84 → code ≡ code_at k → 0 < code
code-some k code l e = omega (arith, is_within-some 133 (code_at k) (codes-within k l))

-- a key's code is below 85 (hexadecimal), so none is a prefix
pub code-range : (k code : ℕ) → k < 84 → code ≡ code_at k → code < 133
code-range k code l e = omega (arith, is_within-range 133 (code_at k) (codes-within k l))

-- a key's scan code is that key's alone
pub own-scan-of : (k scan : ℕ) → k < 84 → scan ≡ scan_at k → key_with_scan scan ≡ Some k
own-scan-of k scan l e = ap key_with_scan e ∙ own-scan k l

-- a key's scan code isn't 00
pub scan-some : (k scan : ℕ) → k < 84 → scan ≡ scan_at k → 0 < scan
scan-some k scan l e = omega (arith, is_within-some 85 (scan_at k) (scans-within k l))

-- a key's scan code is below 55 (hexadecimal), so none is a break
pub scan-range : (k scan : ℕ) → k < 84 → scan ≡ scan_at k → scan < 85
scan-range k scan l e = omega (arith, is_within-range 85 (scan_at k) (scans-within k l))

-- a key's name is that key's alone
pub own-name-of : (k : ℕ) (name : List ℕ) → k < 84 → name ≡ name_at k → key_with_name name ≡ Some k
own-name-of k name l e = ap key_with_name e ∙ own-name k l
