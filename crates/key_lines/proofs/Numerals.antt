-- A stamp in decimal, read again.
use Rattle.std.proofs.Common.{◌≡◌, ◌≤◌, ◌<◌, ℕ, ◌+◌, ◌-◌, ◌*◌, ◌/◌, ◌%◌, ◌^◌, ◌&&◌, ◌==◌, true, false, List, []}
use Rattle.std.proofs.Common.{◌∷◌, ◌++◌, length, slice_index, None, Some, ap, ◌∙◌, arith, decimal}
use Rattle.std.specs.Prelude.{All, nat_le, nat_lt, option_and_then}
use Rattle.std.specs.declared.option.Option.{Option}
use Rattle.std.proofs.lemmas.Bool.{ne_eqb, and_right, cond-false}
use Rattle.std.proofs.lemmas.Bool.Decides.{nat_tests}
use Rattle.std.proofs.lemmas.Fmt.{decimal_by_steps, decimal_nonempty, length-decimal-le}
use Rattle.std.proofs.lemmas.List.Elements.{All-nil, All-cons, All-push, All-get_or}
use Rattle.text_lines.specs.Numbers.{decimal_digit, number_after, decimal_of}
use Rattle.key_file.specs.Fields.{has_ms, stamp_of}

-- each of these is a digit
abbrev pub AreDigits : List ℕ → Type 0
AreDigits text = All (λ c. (48 ≤ c) × (c ≤ 57)) text

-- each character of a number's decimal text is a digit
pub decimal-digits : (n : ℕ) → n < 2 ^ 64 → AreDigits (decimal n)
decimal-digits = decimal_by_steps (λ n ds. AreDigits ds)
    (λ n l. All-cons (λ c. (48 ≤ c) × (c ≤ 57)) (48 + n) [] (omega arith, omega arith) (All-nil (λ c. (48 ≤ c) × (c ≤ 57))))
    (λ n ds l h. All-push (λ c. (48 ≤ c) × (c ≤ 57)) ds (48 + n % 10) h (omega arith, omega arith))

digit_of : (c : ℕ) → 48 ≤ c → c ≤ 57 → decimal_digit c ≡ Some (c - 48)
digit_of c low high = grind (arith, nat_tests)

-- a digit more
number_after-push : (ds : List ℕ) (n m c : ℕ) → number_after 10 decimal_digit n ds ≡ Some m
    → 48 ≤ c → c ≤ 57 → number_after 10 decimal_digit n (ds ++ c ∷ []) ≡ Some (10 * m + (c - 48))
number_after-push [] n m c is low high =
    let same : n ≡ m = cc in
    ap (option_and_then (λ value. Some (10 * n + value))) (digit_of c low high) ∙ ap (λ k. Some (10 * k + (c - 48))) same
number_after-push (d ∷ ds) n m c is low high = by (decimal_digit d) is (λ k more. number_after-push ds k m c more low high)
  where
    by : (digit : Option ℕ) → option_and_then (λ value. number_after 10 decimal_digit (10 * n + value) ds) digit ≡ Some m
        → ((k : ℕ) → number_after 10 decimal_digit k ds ≡ Some m
        → number_after 10 decimal_digit k (ds ++ c ∷ []) ≡ Some (10 * m + (c - 48)))
        → option_and_then (λ value. number_after 10 decimal_digit (10 * n + value) (ds ++ c ∷ [])) digit ≡ Some (10 * m + (c - 48))
    by None h more = absurd (cc)
    by (Some value) h more = more (10 * n + value) h

-- and gives the number back
decimal-number : (n : ℕ) → n < 2 ^ 64 → number_after 10 decimal_digit 0 (decimal n) ≡ Some n
decimal-number = decimal_by_steps (λ n ds. number_after 10 decimal_digit 0 ds ≡ Some n)
    (λ n l. ap (option_and_then (λ value. Some (10 * 0 + value))) (digit_of (48 + n) (omega arith) (omega arith)) ∙ ap Some (one n))
    (λ n ds l h. number_after-push ds 0 (n / 10) (48 + n % 10) h (omega arith) (omega arith) ∙ ap Some (whole n))
  where
    one : (n : ℕ) → 10 * 0 + (48 + n - 48) ≡ n
    one n = omega arith

    whole : (n : ℕ) → 10 * (n / 10) + (48 + n % 10 - 48) ≡ n
    whole n = omega arith

-- the character at each place of a number's decimal text is a digit
pub digit_at : (n i : ℕ) → n < 2 ^ 64 → i < length (decimal n) → (48 ≤ slice_index (decimal n) i) × (slice_index (decimal n) i ≤ 57)
digit_at n i h within = All-get_or (λ c. (48 ≤ c) × (c ≤ 57)) (decimal n) i 0 within (decimal-digits n h)

-- a number of at most so many digits, written in decimal, is read back as that number
pub decimal-back : (most n : ℕ) → 0 < most → n < 10 ^ most → n < 2 ^ 64 → decimal_of most (decimal n) ≡ Some n
decimal-back most n digits below h =
    let some = decimal_nonempty n h in
    let short = length-decimal-le most n digits below h in
    let at_least : nat_lt 0 (length (decimal n)) ≡ true = grind (arith, nat_tests, some) in
    let at_most : nat_le (length (decimal n)) most ≡ true = grind (arith, nat_tests, short) in
    rw (at_least, at_most) (decimal-number n h)

-- a stamp below 10^9, written in decimal, is read back as that stamp
pub stamp-back : (n : ℕ) → n < 1000000000 → stamp_of (decimal n) ≡ Some n
stamp-back n h =
    let some = decimal_nonempty n (omega arith) in
    let last = digit_at n (length (decimal n) - 1) (omega arith) (omega arith) in
    let no_s : (slice_index (decimal n) (length (decimal n) - 1) == 115) ≡ false =
    ne_eqb (slice_index (decimal n) (length (decimal n) - 1)) 115 (λ e. omega (arith, last.1, e)) in
    let no_ms : has_ms (decimal n) ≡ false =
    and_right (nat_le 2 (length (decimal n)) && slice_index (decimal n) (length (decimal n) - 2) == 109)
    (slice_index (decimal n) (length (decimal n) - 1) == 115) no_s in
    cond-false (has_ms (decimal n)) _ (decimal_of 9 (decimal n)) no_ms ∙ decimal-back 9 n (omega arith) (omega arith) (omega arith)
