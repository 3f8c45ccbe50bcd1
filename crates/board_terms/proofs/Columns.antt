-- Columns as bytes are the keys that they show.
use Rattle.std.proofs.Common.{◌≡◌, ℕ, suc, zero, ◌+◌, ◌*◌, ◌/◌, ◌%◌, ◌^◌, ◌-◌, ◌<◌, ◌≤◌, Bool, true, false, List, [], ◌∷◌}
use Rattle.std.proofs.Common.{◌++◌, length, get_or, set, refl, ap, sym, ◌∙◌, arith, bit_and, bit_or, eqb}
use Rattle.std.specs.Prelude.{if◌then◌else◌, nat_lt}
use Rattle.std.proofs.lemmas.Bool.{eqb-true}
use Rattle.std.proofs.lemmas.Bool.Decides.{nat_tests}
use Rattle.std.proofs.lemmas.List.{set-append_left, set-append_right, get_or_append_left, get_or-append_right}
use Rattle.board_terms.specs.Columns.{column_keys, keys_in}
use Rattle.board_terms.specs.Matrix.{row_bit, column_rows, rows_of, turned}
use Rattle.bits.proofs.Every.{every_below, at_each}
use Rattle.board_terms.proofs.Cases.{same_bits, same_bits-true}

-- a row's key goes down: its bit is cleared
abbrev clears : ℕ → ℕ → Bool
clears row rows = same_bits (column_keys (bit_and rows (255 - 1 * 2 ^ row % 256))) (set (column_keys rows) row true)

abbrev sets : ℕ → ℕ → Bool
sets row rows = same_bits (column_keys (bit_or rows (1 * 2 ^ row % 256))) (set (column_keys rows) row false)

-- to clear a row's bit in a column's byte puts the row's key down, and leaves the others
pub row_down : (rows row : ℕ) → rows < 256 → row < 8
    → column_keys (bit_and rows (255 - 1 * 2 ^ row % 256)) ≡ set (column_keys rows) row true
row_down rows row l r = same_bits-true (column_keys (bit_and rows (255 - 1 * 2 ^ row % 256))) (set (column_keys rows) row true)
    (at_each (clears row) 256
    (let p : every_below (λ row. every_below (clears row) 256) 8 ≡ true = refl in
    at_each (λ row. every_below (clears row) 256) 8 p row r) rows l)

-- to set a row's bit in a column's byte puts the row's key up, and leaves the others
pub row_up : (rows row : ℕ) → rows < 256 → row < 8 → column_keys (bit_or rows (1 * 2 ^ row % 256)) ≡ set (column_keys rows) row false
row_up rows row l r = same_bits-true (column_keys (bit_or rows (1 * 2 ^ row % 256))) (set (column_keys rows) row false)
    (at_each (sets row) 256
    (let p : every_below (λ row. every_below (sets row) 256) 8 ≡ true = refl in
    at_each (λ row. every_below (sets row) 256) 8 p row r) rows l)

-- a key in its column
pub key_turned : (columns : List ℕ) (column row rows : ℕ) (down : Bool) → column < length columns → row < 8
    → column_keys rows ≡ set (column_keys (get_or columns column 0)) row down
    → keys_in (set columns column rows) ≡ set (keys_in columns) (8 * column + row) down
key_turned [] column row rows down c r e = absurd (omega (arith, c))
key_turned (first ∷ columns) zero row rows down c r e =
    let at : 8 * 0 + row ≡ row = omega arith in
    ap (λ v. v ++ keys_in columns) e ∙ sym (set-append_left (column_keys first) (keys_in columns) row down r)
    ∙ ap (λ n. set (keys_in (first ∷ columns)) n down) (sym at)
key_turned (first ∷ columns) (suc column) row rows down c r e =
    let less : column < length columns = omega (arith, c) in
    let past : 8 ≤ 8 * suc column + row = omega arith in
    let at : 8 * suc column + row - 8 ≡ 8 * column + row = omega arith in
    ap (λ v. column_keys first ++ v) (key_turned columns column row rows down less r e)
    ∙ ap (λ n. column_keys first ++ set (keys_in columns) n down) (sym at)
    ∙ sym (set-append_right (column_keys first) (keys_in columns) 8 (8 * suc column + row) down refl past)

-- to write a column with one row changed is to make that key's edge
pub edge_made : (columns : List ℕ) (place rows : ℕ) (down : Bool) → place / 8 < length columns
    → column_keys rows ≡ set (column_keys (get_or columns (place / 8) 0)) (place % 8) down
    → keys_in (set columns (place / 8) rows) ≡ turned place down (keys_in columns)
edge_made columns place rows down c e =
    let r : place % 8 < 8 = omega arith in
    let at : 8 * (place / 8) + place % 8 ≡ place = omega arith in
    key_turned columns (place / 8) (place % 8) rows down c r e ∙ ap (λ n. set (keys_in columns) n down) at

-- a key as its column shows it
pub key_shown : (columns : List ℕ) (column row : ℕ) → column < length columns → row < 8
    → get_or (keys_in columns) (8 * column + row) false ≡ get_or (column_keys (get_or columns column 0)) row false
key_shown [] column row c r = absurd (omega (arith, c))
key_shown (first ∷ columns) zero row c r =
    let at : 8 * 0 + row ≡ row = omega arith in
    ap (λ n. get_or (keys_in (first ∷ columns)) n false) at ∙ get_or_append_left (column_keys first) (keys_in columns) false row r
key_shown (first ∷ columns) (suc column) row c r =
    let less : column < length columns = omega (arith, c) in
    let past : 8 ≤ 8 * suc column + row = omega arith in
    let at : 8 * suc column + row - 8 ≡ 8 * column + row = omega arith in
    get_or-append_right (column_keys first) (keys_in columns) 8 (8 * suc column + row) false refl past
    ∙ ap (λ n. get_or (keys_in columns) n false) at ∙ key_shown columns column row less r

-- a byte by the keys that it shows
abbrev row_of : List Bool → ℕ → ℕ
row_of keys row = if get_or keys row false then 0 else 2 ^ row

abbrev rows_by : List Bool → ℕ
rows_by keys = row_of keys 0 + row_of keys 1 + row_of keys 2 + row_of keys 3 + row_of keys 4 + row_of keys 5 + row_of keys 6 + row_of keys 7

abbrev shows_itself : ℕ → Bool
shows_itself rows = eqb (rows_by (column_keys rows)) rows

shown_back : (rows : ℕ) → rows < 256 → rows_by (column_keys rows) ≡ rows
shown_back rows l = eqb-true (rows_by (column_keys rows)) rows (at_each shows_itself 256 refl rows l)

-- a column that is read as keys and written as rows is the byte that it was
pub column_shown : (columns : List ℕ) (column : ℕ) → column < length columns → get_or columns column 0 < 256
    → column_rows (keys_in columns) column ≡ get_or columns column 0
column_shown columns column c l =
    let at : (row : ℕ) → row < 8 → row_bit (keys_in columns) column row ≡ row_of (column_keys (get_or columns column 0)) row =
    λ row r. ap (λ b. if b then 0 else 2 ^ row) (key_shown columns column row c r) in
    let sum : column_rows (keys_in columns) column ≡ rows_by (column_keys (get_or columns column 0)) =
    cc (
      at 0 (omega arith),
      at 1 (omega arith),
      at 2 (omega arith),
      at 3 (omega arith),
      at 4 (omega arith),
      at 5 (omega arith),
      at 6 (omega arith),
      at 7 (omega arith),
    ) in
    sum ∙ shown_back (get_or columns column 0) l

-- what the bus reads
pub reads_column : (columns : List ℕ) (p1 : ℕ) → length columns ≡ 12 → p1 % 16 < 12 → get_or columns (p1 % 16) 0 < 256
    → get_or columns (p1 % 16) 0 ≡ rows_of (keys_in columns) p1
reads_column columns p1 n c l =
    let in_range : nat_lt (p1 % 16) 12 ≡ true = grind (arith, nat_tests, c) in
    let less : p1 % 16 < length columns = omega (arith, n, c) in
    sym (column_shown columns (p1 % 16) less l) ∙ ap (λ b. if b then column_rows (keys_in columns) (p1 % 16) else 255) (sym in_range)

-- a port 1 that selects no column reads FF (hexadecimal)
pub reads_none : (columns : List ℕ) (p1 : ℕ) → 12 ≤ p1 % 16 → 255 ≡ rows_of (keys_in columns) p1
reads_none columns p1 c =
    let out : nat_lt (p1 % 16) 12 ≡ false = grind (arith, nat_tests, c) in
    ap (λ b. if b then column_rows (keys_in columns) (p1 % 16) else 255) (sym out)

-- the same, of a place below 96 that was asked for twice
pub edge_turned : (columns : List ℕ) (place number again rows : ℕ) (down : Bool) → length columns ≡ 12 → number < 96
    → number ≡ place → again ≡ place
    → column_keys rows ≡ set (column_keys (get_or columns (number / 8) 0)) (again % 8) down
    → keys_in (set columns (number / 8) rows) ≡ turned place down (keys_in columns)
edge_turned columns place number again rows down n l e f h =
    let c : number / 8 < length columns = omega (arith, n, l) in
    let g : again ≡ number = f ∙ sym e in
    edge_made columns number rows down c (h ∙ ap (λ k. set (column_keys (get_or columns (number / 8) 0)) (k % 8) down) g)
    ∙ ap (λ k. turned k down (keys_in columns)) e
