-- What the lines of a plan say.
use Rattle.std.proofs.Common.{◌≡◌, ◌<◌, ℕ, true, false, List, [], ◌∷◌, ◌++◌, slice_index, Some}
use Rattle.std.proofs.Common.{Ok, None, codes, refl, ap, ◌∙◌, arith, decimal}
use Rattle.std.proofs.lemmas.Bool.{ne_eqb, cond-false}
use Rattle.layout_reader.specs.Layouts.{KeyLayout}
use Rattle.text_lines.specs.Fields.{fields}
use Rattle.first_fault.specs.FirstFault.{and_then}
use Rattle.key_file.specs.Fields.{is_skipped, edge_of, act_of, event_in, said_by}
use Rattle.board_terms.specs.declared.event.HostAct.TheVariants.{Take}
use Rattle.key_lines.proofs.Numerals.{digit_at, stamp-back}
use Rattle.key_lines.proofs.Parted.{IsWord, IsLine, text-by, decimal-word, fields-two, fields-three, line-word, line-more}

-- a line of a stamp and a word, and one with a name
abbrev pub word_text : ℕ → List ℕ → List ℕ
word_text stamp word = decimal stamp ++ 32 ∷ word

abbrev pub key_text : ℕ → List ℕ → List ℕ → List ℕ
key_text stamp word name = word_text stamp word ++ 32 ∷ name

-- a stamp and a word are a line
pub word-line : (stamp : ℕ) (word : List ℕ) → stamp < 1000000000 → IsWord word → IsLine (word_text stamp word)
word-line stamp word h k = line-more (decimal stamp) word (line-word (decimal stamp) (decimal-word stamp (omega arith))) (line-word word k)

-- a stamp, a word and a name are a line
pub key-line : (stamp : ℕ) (word name : List ℕ) → stamp < 1000000000 → IsWord word → IsWord name → IsLine (key_text stamp word name)
key-line stamp word name h k l = line-more (word_text stamp word) name (word-line stamp word h k) (line-word name l)

-- a line that begins with a stamp isn't skipped
said : (layout : KeyLayout) (stamp : ℕ) (line : List ℕ) (more : List (List ℕ)) → stamp < 1000000000 → fields line ≡ decimal stamp ∷ more
    → said_by layout (fields line) ≡ and_then (event_in layout (decimal stamp ∷ more)) (λ event. Ok (Some event))
said layout stamp line more h are =
    let first = digit_at stamp 0 (omega arith) (decimal-word stamp (omega arith)).some in
    let stays : is_skipped (decimal stamp ∷ more) ≡ false = ne_eqb (slice_index (decimal stamp) 0) 35 (λ e. omega (arith, first.0, e)) in
    ap (said_by layout) are
    ∙ cond-false (is_skipped (decimal stamp ∷ more)) (Ok None)
    (and_then (event_in layout (decimal stamp ∷ more)) (λ event. Ok (Some event))) stays

key-said : (layout : KeyLayout) (stamp : ℕ) (word name : List ℕ) → stamp < 1000000000 → IsWord word → IsWord name
    → said_by layout (fields (key_text stamp word name))
    ≡ and_then (event_in layout (decimal stamp ∷ word ∷ name ∷ [])) (λ event. Ok (Some event))
key-said layout stamp word name h k l =
    said layout stamp (key_text stamp word name) (word ∷ name ∷ []) h
    (fields-three (decimal stamp) word name (decimal-word stamp (omega arith)) k l)

-- a line of a stamp and a word says the event of that word at the stamp
pub word-said : (layout : KeyLayout) (stamp : ℕ) (word : List ℕ) → stamp < 1000000000 → IsWord word
    → said_by layout (fields (word_text stamp word)) ≡ and_then (event_in layout (decimal stamp ∷ word ∷ [])) (λ event. Ok (Some event))
word-said layout stamp word h k =
    said layout stamp (word_text stamp word) (word ∷ []) h (fields-two (decimal stamp) word (decimal-word stamp (omega arith)) k)

-- a line `press` says that the key of its name goes down at the stamp
pub press-said : (layout : KeyLayout) (stamp : ℕ) (name : List ℕ) → stamp < 1000000000 → IsWord name
    → said_by layout (fields (key_text stamp (codes "press") name))
    ≡ and_then (edge_of layout stamp true (name ∷ [])) (λ event. Ok (Some event))
press-said layout stamp name h k =
    key-said layout stamp (codes "press") name h (text-by 32 (codes "press") refl) k ∙ rw (stamp-back stamp h) refl

-- a line `release` says that the key of its name goes up at the stamp
pub release-said : (layout : KeyLayout) (stamp : ℕ) (name : List ℕ) → stamp < 1000000000 → IsWord name
    → said_by layout (fields (key_text stamp (codes "release") name))
    ≡ and_then (edge_of layout stamp false (name ∷ [])) (λ event. Ok (Some event))
release-said layout stamp name h k =
    key-said layout stamp (codes "release") name h (text-by 32 (codes "release") refl) k ∙ rw (stamp-back stamp h) refl

-- a line `take` says that the host takes a word at the stamp
pub take-said : (layout : KeyLayout) (stamp : ℕ) → stamp < 1000000000
    → said_by layout (fields (word_text stamp (codes "take"))) ≡ and_then (act_of stamp Take []) (λ event. Ok (Some event))
take-said layout stamp h = word-said layout stamp (codes "take") h (text-by 32 (codes "take") refl) ∙ rw (stamp-back stamp h) refl
