-- What holds of each row of the opcode table.
use Rattle.std.proofs.Common.{◌≡◌, ◌≤◌, ◌<◌, ℕ, zero, suc, List, [], ◌∷◌, Bool, true, ◌&&◌, ◌==◌, leb, ltb}
use Rattle.std.proofs.Common.{Some, None, get_or, refl, arith}
use Rattle.std.proofs.lemmas.Bool.Decides.{nat_tests}
use Rattle.std.specs.declared.option.Option.{Option}
use Rattle.mcs48_isa.specs.declared.operation.Decoded.{Decoded}
use Rattle.mcs48_isa.specs.Table.{Line, lines, none, row_of}
use Rattle.bits.proofs.Every.{at_each, both, same_of}
use Rattle.mcs48_ranges.proofs.Operands.{small, gives_low, size}

abbrev each : (Line → Bool) → List Line → Bool
each p [] = true
each p (x ∷ xs) = p x && each p xs

picked : (p : Line → Bool) (xs : List Line) (i : ℕ) → p none ≡ true → each p xs ≡ true → p (get_or xs i none) ≡ true
picked p [] i z h = z
picked p (x ∷ xs) zero z h = (both (p x) (each p xs) h).0
picked p (x ∷ xs) (suc i) z h = picked p xs i z (both (p x) (each p xs) h).1

-- a row's cycles, as a test
abbrev is_timed : Option Decoded → Bool
is_timed None = true
is_timed (Some r) = ltb 0 r.cycles && leb r.cycles 2

timed_lines : (n : ℕ) → each (λ line. is_timed (line n)) lines ≡ true
timed_lines n = refl

timed_by : (o : Option Decoded) (r : Decoded) → o ≡ Some r → is_timed o ≡ true → (0 < r.cycles) × (r.cycles ≤ 2)
timed_by (Some q) r e h =
    let g : q ≡ r = cc in
    let k : is_timed (Some r) ≡ true = rw (← g) h in
    let t = both (ltb 0 r.cycles) (leb r.cycles 2) k in
    let some : ltb 0 r.cycles ≡ true = t.0 in
    let few : leb r.cycles 2 ≡ true = t.1 in
    (grind (arith, nat_tests, some), grind (arith, nat_tests, few))
timed_by None r e h = absurd cc

-- a row takes one or two cycles, whatever is after its first byte
pub row_timed : (b n : ℕ) (r : Decoded) → row_of b n ≡ Some r → (0 < r.cycles) × (r.cycles ≤ 2)
row_timed b n r e = timed_by (row_of b n) r e (picked (λ line. is_timed (line n)) lines b refl (timed_lines n))

-- a row's operands and length, as a test
abbrev is_regular : Option Decoded → Bool
is_regular None = true
is_regular (Some r) = small r.op && (gives_low r.op && (r.len == size r.op))

regular_lines : (n : ℕ) → n < 256 → each (λ line. is_regular (line n)) lines ≡ true
regular_lines n l = at_each (λ n. each (λ line. is_regular (line n)) lines) 256 refl n l

-- the operands, the length and the cycles of a row
pub record Regular (row : Decoded) : Type 0 where
  pub operands : small row.op ≡ true
  pub register : gives_low row.op ≡ true
  pub long : row.len ≡ size row.op
  pub some : 0 < row.cycles
  pub few : row.cycles ≤ 2

regular_by : (o : Option Decoded) (r : Decoded) → o ≡ Some r → is_regular o ≡ true → (0 < r.cycles) × (r.cycles ≤ 2)
    → Regular r
regular_by (Some q) r e h cycles =
    let g : q ≡ r = cc in
    let k : is_regular (Some r) ≡ true = rw (← g) h in
    let t = both (small r.op) (gives_low r.op && (r.len == size r.op)) k in
    let u = both (gives_low r.op) (r.len == size r.op) t.1 in
    record { operands = t.0; register = u.0; long = same_of r.len (size r.op) u.1; some = cycles.0; few = cycles.1 }
regular_by None r e h cycles = absurd cc

-- a row whose second byte is a byte is regular
pub row_regular : (b n : ℕ) (r : Decoded) → n < 256 → row_of b n ≡ Some r → Regular r
row_regular b n r l e =
    regular_by (row_of b n) r e (picked (λ line. is_regular (line n)) lines b refl (regular_lines n l)) (row_timed b n r e)
