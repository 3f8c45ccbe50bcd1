-- The listing, a line at a time.
use Rattle.std.proofs.Common.{◌≡◌, ◌≢◌, ℕ, zero, suc, ◌+◌, ◌<◌, ◌≤◌, List, [], ◌∷◌, ◌++◌, length, take, nat_eq, nat_lt, Bool, true, false}
use Rattle.std.proofs.Common.{Some, None, IfSome, refl, arith, sym, subst, ap, ◌∙◌, append_assoc, slice_index, if◌then◌else◌, eq-eqb}
use Rattle.std.proofs.Common.{length-take, lit<}
use Rattle.std.specs.declared.option.Option.{Option}
use Rattle.std.proofs.lemmas.List.{take_more}
use Rattle.std.proofs.lemmas.Bool.Decides.{nat_tests}
use Rattle.mcs48_isa.specs.declared.operation.Decoded.{Decoded}
use Rattle.mcs48_isa.specs.Listing.{end_after, end_of, lines_from, line_at, size_of, instruction_at, statement_of}

-- one more byte at the end
end_of-append : (xs : List ℕ) (b : ℕ) → end_of (xs ++ b ∷ []) ≡ (if nat_eq b 0 then end_of xs else suc (length xs))
end_of-append [] b = refl
end_of-append (x ∷ xs) b =
    ap (end_after x) (end_of-append xs b) ∙ chosen x (end_of xs) (length xs) (nat_eq b 0)
  where
    chosen : (x end len : ℕ) (t : Bool) → end_after x (if t then end else suc len) ≡ (if t then end_after x end else suc (suc len))
    chosen x end len true = refl
    chosen x end len false = refl

end_of-take : (bytes : List ℕ) (i : ℕ) → i < length bytes →
    end_of (take (i + 1) bytes) ≡ (if nat_eq (slice_index bytes i) 0 then end_of (take i bytes) else suc (length (take i bytes)))
end_of-take bytes i h =
    ap end_of (take_more bytes i 0 h) ∙ end_of-append (take i bytes) (slice_index bytes i)

-- a byte 00 leaves the end, another byte moves it after itself
pub end_of-zero : (bytes : List ℕ) (i : ℕ) → i < length bytes → slice_index bytes i ≡ 0
    → end_of (take (i + 1) bytes) ≡ end_of (take i bytes)
end_of-zero bytes i h zero_there =
    end_of-take bytes i h
    ∙ ap (λ t. if t then end_of (take i bytes) else suc (length (take i bytes))) (eq-eqb (slice_index bytes i) 0 zero_there)

-- up to a byte that isn't 00 a program ends after that byte
pub end_of-other : (bytes : List ℕ) (i : ℕ) → i < length bytes → slice_index bytes i ≢ 0 → end_of (take (i + 1) bytes) ≡ i + 1
end_of-other bytes i h other =
    let no : nat_eq (slice_index bytes i) 0 ≡ false = grind (arith, nat_tests) in
    let len : suc (length (take i bytes)) ≡ i + 1 = omega (arith, length-take i bytes) in
    end_of-take bytes i h
    ∙ ap (λ t. if t then end_of (take i bytes) else suc (length (take i bytes))) no ∙ len

-- what is written so far, and the lines that are left, are the whole
abbrev pub Continues : List ℕ → ℕ → ℕ → List ℕ → List ℕ → Type 0
Continues bytes end place text whole =
    (most : ℕ) × (end ≤ place + most) × (text ++ lines_from bytes end most place ≡ whole)

next_line : (bytes : List ℕ) (end place : ℕ) (text whole : List ℕ) → place < end → 0 < size_of (instruction_at bytes place) →
    (most : ℕ) → end ≤ place + most → text ++ lines_from bytes end most place ≡ whole →
    Continues bytes end (place + size_of (instruction_at bytes place)) (text ++ line_at bytes place) whole
next_line bytes end place text whole below some zero bound is = absurd (omega arith)
next_line bytes end place text whole below some (suc most) bound is =
    let rest : List ℕ = lines_from bytes end most (place + size_of (instruction_at bytes place)) in
    let open_line : nat_lt place end ≡ true = grind (arith, nat_tests) in (
      most,
      omega arith,
      append_assoc text (line_at bytes place) rest
          ∙ ap (λ t. text ++ (if t then line_at bytes place ++ rest else [])) (sym open_line) ∙ is,
    )

some_size : (row : Option Decoded) → IfSome row (λ d. 0 < d.len) → 0 < size_of row
some_size (Some d) some = some
some_size None some = lit< tt

-- an instruction of the listing, or a byte alone, ends within the 2,048 places
pub size_within : (row : Option Decoded) (place : ℕ) → place < 2048 → IfSome row (λ d. place + d.len ≤ 2048) → place + size_of row ≤ 2048
size_within (Some d) place below within = within
size_within None place below within = omega arith

-- the step of the loop: a statement and its LF
pub written : (bytes : List ℕ) (end place size : ℕ) (text with_statement with_line whole : List ℕ) (row : Option Decoded) →
    row ≡ instruction_at bytes place → size ≡ size_of row → IfSome row (λ d. 0 < d.len) →
    with_statement ≡ text ++ statement_of row (slice_index bytes place) place → with_line ≡ with_statement ++ 10 ∷ [] →
    place < end → Continues bytes end place text whole → Continues bytes end (place + size) with_line whole
written bytes end place size text with_statement with_line whole row row_is size_is some statement_is line_is below before =
    let line : with_line ≡ text ++ line_at bytes place =
    line_is
    ∙ ap (λ t. t ++ 10 ∷ []) statement_is
    ∙ append_assoc text (statement_of row (slice_index bytes place) place) (10 ∷ [])
    ∙ ap (λ r. text ++ (statement_of r (slice_index bytes place) place ++ 10 ∷ [])) row_is in
    let size_there : size ≡ size_of (instruction_at bytes place) = size_is ∙ ap size_of row_is in
    let positive : 0 < size_of (instruction_at bytes place) = subst (λ r. 0 < size_of r) row_is (some_size row some) in
    subst (λ t. Continues bytes end (place + size) t whole) (sym line)
    (subst (λ k. Continues bytes end (place + k) (text ++ line_at bytes place) whole) (sym size_there)
    (next_line bytes end place text whole below positive before.0 before.1 before.2))
