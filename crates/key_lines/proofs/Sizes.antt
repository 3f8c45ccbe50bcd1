-- How long a line is.
use Rattle.std.proofs.Common.{◌≡◌, ◌≤◌, ◌<◌, ℕ, ◌+◌, true, List, [], ◌∷◌, ◌++◌}
use Rattle.std.proofs.Common.{length, refl, arith, decimal, length-append}
use Rattle.std.specs.Prelude.{nat_le}
use Rattle.std.proofs.lemmas.Bool.Decides.{nat_tests}
use Rattle.std.proofs.lemmas.Fmt.{length-decimal-le}
use Rattle.bits.proofs.Every.{at_each}
use Rattle.pc_tables.specs.Keys.{keys, name_at}
use Rattle.layout_reader.specs.declared.entry.Entry.{Entry}
use Rattle.key_lines.specs.Lines.{key_line, word_line}

-- a key's name has at most nine characters
names-short : (k : ℕ) → k < 84 → nat_le (length (name_at k)) 9 ≡ true
unfolding keys
names-short = at_each (λ k. nat_le (length (name_at k)) 9) 84 refl

name-short : (k : ℕ) → k < 84 → length (name_at k) ≤ 9
name-short k h = let short = names-short k h in grind (arith, nat_tests)

-- a line of a stamp and a word has at most 11 characters more than the word
pub word-size : (stamp : ℕ) (word : List ℕ) → stamp < 1000000000 → length (word_line stamp word) ≤ 11 + length word
word-size stamp word h =
    let stamp_short = length-decimal-le 9 stamp (omega arith) (omega arith) (omega arith) in
    omega (arith, length-append (decimal stamp ++ 32 ∷ word) (10 ∷ []), length-append (decimal stamp) (32 ∷ word))

-- a line of a stamp, a word and a key has at most 21 characters more than the word
pub key-size : (stamp : ℕ) (word : List ℕ) (key : Entry)
    → stamp < 1000000000 → key.key < 84 → length (key_line stamp word key) ≤ 21 + length word
key-size stamp word key h k =
    let stamp_short = length-decimal-le 9 stamp (omega arith) (omega arith) (omega arith) in
    let name = name_at key.key in
    let text = (decimal stamp ++ 32 ∷ word) ++ 32 ∷ name in
    omega (
      arith,
      name-short key.key k,
      length-append text (10 ∷ []),
      length-append (decimal stamp ++ 32 ∷ word) (32 ∷ name),
      length-append (decimal stamp) (32 ∷ word),
    )
