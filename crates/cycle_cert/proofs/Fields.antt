-- The numbers of a line.
use Rattle.std.proofs.Common.{length, ◌∙◌, ap, ◌≡◌, ◌<◌, ℕ, ◌+◌, ◌*◌, List, [], ◌∷◌, Bool, true}
use Rattle.std.proofs.Common.{false, ◌==◌, leb, if◌then◌else◌, Some, None, refl, arith}
use Rattle.std.proofs.lemmas.Bool.Decides.{nat_tests}
use Rattle.std.specs.Option.{option_and_then}
use Rattle.std.specs.declared.option.Option.{Option}
use Rattle.text_lines.specs.Numbers.{decimal_digit, number_after}
use Rattle.cycle_cert.specs.Lines.{at_most, number_in}

-- a number only grows with its digits
grows : (limit n : ℕ) (text : List ℕ) → limit < n → at_most limit (number_after 10 decimal_digit n text) ≡ None
grows limit n [] l = let f : leb n limit ≡ false = grind (arith, nat_tests, l) in rw f refl
grows limit n (c ∷ cs) l = grows_by (decimal_digit c) (λ d. grows limit (10 * n + d) cs (omega (arith, l)))
  where
    grows_by : (o : Option ℕ) → ((d : ℕ) → at_most limit (number_after 10 decimal_digit (10 * n + d) cs) ≡ None)
        → at_most limit (option_and_then (λ value. number_after 10 decimal_digit (10 * n + value) cs) o) ≡ None
    grows_by None h = refl
    grows_by (Some d) h = h d

by_length : (b : Bool) (o : Option ℕ) → o ≡ None → (if b then None else o) ≡ None
by_length true o e = refl
by_length false o e = e

-- a text whose digits so far are past the limit writes no number
pub number_past : (limit n : ℕ) (text rest : List ℕ)
    → number_after 10 decimal_digit 0 text ≡ number_after 10 decimal_digit n rest → limit < n
    → number_in limit text ≡ None
number_past limit n text rest e l =
    by_length (length text == 0) (at_most limit (number_after 10 decimal_digit 0 text)) (ap (at_most limit) e ∙ grows limit n rest l)
