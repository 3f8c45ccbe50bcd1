-- How the kernel tells the commands apart: each test is an addition further.
use Rattle.std.proofs.Common.{◌≡◌, ◌≤◌, ◌<◌, ℕ, suc, ◌+◌, ◌%◌, List, [], ◌∷◌, true, false, not, ◌==◌}
use Rattle.std.proofs.Common.{nat_le, nat_lt, take, slice_index, refl, arith}
use Rattle.std.proofs.lemmas.Bool.Decides.{nat_tests}
use Rattle.bits.proofs.Every.{tests_by, pair_tests}

-- a byte below ED (hexadecimal) isn't a command from ED on
pub other : (k b : ℕ) → 0xed ≤ k → nat_lt b 0xed ≡ true → (b == k) ≡ false
other k b l h = grind (arith, nat_tests, l, h)

-- a byte below ED (hexadecimal) isn't EF or more
pub below : (b : ℕ) → nat_lt b 0xed ≡ true → nat_le 0xef b ≡ false
below b h = grind (arith, nat_tests, h)

-- a byte from ED on (hexadecimal) that is neither ED nor EE is EF or more
pub the_rest : (b : ℕ) → nat_lt b 0xed ≡ false → (b == 0xed) ≡ false → (b == 0xee) ≡ false → nat_le 0xef b ≡ true
the_rest b h i j = grind (arith, nat_tests, h, i, j)

-- the block `ready` adds these to the byte one by one, and tests A after each; 0 is one of the commands
abbrev pub sums : List ℕ
sums = 0x13 ∷ 0xff ∷ 0xfb ∷ 0xff ∷ 0xff ∷ 0xff ∷ 0xf8 ∷ 0xff ∷ []

abbrev pub commands : List ℕ
commands = 0xed ∷ 0xee ∷ 0xf3 ∷ 0xf4 ∷ 0xf5 ∷ 0xf6 ∷ 0xfe ∷ 0xff ∷ []

-- A after additions
abbrev pub after_sums : List ℕ → ℕ → ℕ
after_sums [] a = a
after_sums (n ∷ more) a = after_sums more ((a + n) % 256)

-- the first addition carries nothing exactly for bytes below ED (hexadecimal), which are no commands
pub carries : (b : ℕ) → b < 256 → (not (nat_le 256 (b + 0x13))) ≡ (nat_lt b 0xed)
carries = tests_by 256 (λ b. not (nat_le 256 (b + 0x13))) (λ b. nat_lt b 0xed) refl

-- after k + 1 additions A is 0 exactly for the command of place k
pub tells : (k b : ℕ) → k < 8 → b < 256 → (after_sums (take (suc k) sums) b == 0) ≡ (b == slice_index commands k)
tells = pair_tests 8 256 (λ k b. after_sums (take (suc k) sums) b == 0) (λ k b. b == slice_index commands k) refl
