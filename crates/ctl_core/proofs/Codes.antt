-- The code's table gives what the keys' scan codes say.
use Rattle.std.proofs.Common.{◌≡◌, ℕ, ◌<◌, Bool, true, false, eqb, ◌||◌, refl, ap}
use Rattle.std.proofs.Common.{Some, None, slice_get}
use Rattle.std.specs.declared.option.Option.{Option}
use Rattle.std.proofs.lemmas.Bool.{eqb-true}
use Rattle.ctl_core.specs.ScanCodes.{translated, scan_codes}
use Rattle.ctl_core.specs.declared.translation.TheConstants.{SCAN_CODES}
use Rattle.bits.proofs.Every.{at_each}

-- whether two answers are the same
abbrev pub same : Option ℕ → Option ℕ → Bool
same None None = true
same None (Some n) = false
same (Some m) None = false
same (Some m) (Some n) = eqb m n

-- answers that the test finds the same are the same
pub same-true : (o p : Option ℕ) → same o p ≡ true → o ≡ p
same-true None None h = refl
same-true None (Some n) h = absurd cc
same-true (Some m) None h = absurd cc
same-true (Some m) (Some n) h = ap (λ k. Some k) (eqb-true m n h)

-- whether the table has the answer; it leaves out the two codes from 80 on
abbrev pub in_table : ℕ → Bool
unfolding translated scan_codes
in_table k = eqb k 131 || (eqb k 132 || same (slice_get SCAN_CODES k) (translated k))

-- if an or of three is true and the first two parts are false, the third is true
pub or-right : (a b c : Bool) → a ≡ false → b ≡ false → (a || (b || c)) ≡ true → c ≡ true
or-right true b c h k l = absurd cc
or-right false true c h k l = absurd cc
or-right false false c h k l = l

-- but for its two codes above the table, the table gives each key's scan code
pub tabled : (b : ℕ) → b < 256 → eqb b 131 ≡ false → eqb b 132 ≡ false → slice_get SCAN_CODES b ≡ translated b
unfolding translated scan_codes
tabled b h k l = same-true (slice_get SCAN_CODES b) (translated b)
    (or-right (eqb b 131) (eqb b 132) (same (slice_get SCAN_CODES b) (translated b)) k l (at_each in_table 256 refl b h))
