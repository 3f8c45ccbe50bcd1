-- The lines of a key file, as they are written.
use Rattle.std.specs.Prelude.{ℕ, List, [], ◌∷◌, ◌++◌, codes}
use Rattle.std.specs.Fmt.{decimal}
use Rattle.pc_tables.specs.Keys.{name_at}
use Rattle.layout_reader.specs.declared.entry.Entry.{Entry}

-- a line: its stamp in decimal, a word and, if the word speaks of a key, that key's name, parted by one space each;
-- it ends with LF
abbrev pub word_line : ℕ → List ℕ → List ℕ
word_line stamp word = decimal stamp ++ 32 ∷ word ++ 10 ∷ []

abbrev pub key_line : ℕ → List ℕ → Entry → List ℕ
key_line stamp word entry = decimal stamp ++ 32 ∷ word ++ 32 ∷ name_at entry.key ++ 10 ∷ []

-- a key goes down, or up; it is named by its entry's key, whatever it sends
abbrev pub press_line : ℕ → Entry → List ℕ
press_line stamp entry = key_line stamp (codes "press") entry

abbrev pub release_line : ℕ → Entry → List ℕ
release_line stamp entry = key_line stamp (codes "release") entry

-- the host takes a word; the file ends
abbrev pub take_line : ℕ → List ℕ
take_line stamp = word_line stamp (codes "take")

abbrev pub end_line : ℕ → List ℕ
end_line stamp = word_line stamp (codes "end")

-- a line for people, which readers skip
abbrev pub comment_line : List ℕ → List ℕ
comment_line text = 35 ∷ 32 ∷ text ++ 10 ∷ []
