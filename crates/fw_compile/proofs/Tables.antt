-- Bytes with a table put into them: what is read in the table and beside it.
use Rattle.std.proofs.Common.{◌≡◌, ℕ, ◌+◌, ◌-◌, ◌++◌, ◌<◌, ◌≤◌, List, length, take, drop, get_or, slice_index, arith, ap, ◌∙◌, sym}
use Rattle.std.proofs.lemmas.List.{take-append-drop, length-take, length-drop, length-append}
use Rattle.std.proofs.lemmas.List.{get_or_append_left, get_or-append_right, get_or-take, get_or-drop}
use Rattle.fw_compile.specs.Image.{with_table}

-- bytes whose front ends with the table, and which are else as they were
pub put_is : (whole bytes table : List ℕ) (at : ℕ) → take (at + length table) whole ≡ take at bytes ++ table
    → drop (at + length table) whole ≡ drop (at + length table) bytes → whole ≡ with_table at table bytes
put_is whole bytes table at front rest =
    sym (take-append-drop (at + length table) whole) ∙ ap (λ v. v ++ drop (at + length table) whole) front
    ∙ ap (λ v. take at bytes ++ table ++ v) rest

module _ (at : ℕ) (table bytes : List ℕ) (fits : at + length table ≤ length bytes) where
  taken : length (take at bytes) ≡ at
  taken = length-take at bytes ∙ omega (arith, fits)

  front : length (take at bytes ++ table) ≡ at + length table
  front = length-append (take at bytes) table ∙ ap (λ n. n + length table) taken

  -- a table put into bytes leaves their number
  pub length_with : length (with_table at table bytes) ≡ length bytes
  length_with =
      length-append (take at bytes ++ table) (drop (at + length table) bytes)
      ∙ ap (λ n. n + length (drop (at + length table) bytes)) front
      ∙ ap (λ n. at + length table + n) (length-drop (at + length table) bytes) ∙ omega (arith, fits)

  -- in the table
  pub in_table : (p : ℕ) → p < length table → slice_index (with_table at table bytes) (at + p) ≡ slice_index table p
  in_table p l =
      let e : at + p - at ≡ p = omega arith in
      get_or_append_left (take at bytes ++ table) (drop (at + length table) bytes) 0 (at + p) (omega (arith, front, l))
      ∙ get_or-append_right (take at bytes) table at (at + p) 0 taken (omega arith) ∙ ap (λ i. get_or table i 0) e

  -- before it, and after it
  pub below_table : (p : ℕ) → p < at → slice_index (with_table at table bytes) p ≡ slice_index bytes p
  below_table p l =
      get_or_append_left (take at bytes ++ table) (drop (at + length table) bytes) 0 p (omega (arith, front, l))
      ∙ get_or_append_left (take at bytes) table 0 p (omega (arith, taken, l)) ∙ get_or-take at bytes p 0 l

  -- a table put into bytes leaves those after it
  pub above_table : (p : ℕ) → at + length table ≤ p → slice_index (with_table at table bytes) p ≡ slice_index bytes p
  above_table p l =
      let e : at + length table + (p - (at + length table)) ≡ p = omega (arith, l) in
      get_or-append_right (take at bytes ++ table) (drop (at + length table) bytes) (at + length table) p 0 front l
      ∙ get_or-drop (at + length table) bytes (p - (at + length table)) 0 ∙ ap (λ i. get_or bytes i 0) e
